pub mod Contract
pub mod UnionContract
