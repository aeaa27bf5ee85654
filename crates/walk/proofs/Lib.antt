pub mod ReadParts
pub mod Pieces
pub mod NodeBytes
pub mod ChildBytes
pub mod FieldBytes
pub mod FieldLoop
pub mod DefaultBytes
pub mod UnionSteps
