pub mod LeafSchemas
