pub mod UnionReading
pub mod UnionKinds
pub mod UnionTables
