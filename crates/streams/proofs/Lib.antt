pub mod CallLaws
pub mod SuppliedLaws
