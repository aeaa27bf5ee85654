pub mod Stability
pub mod Claims
