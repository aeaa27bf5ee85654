pub mod Rules
pub mod Counted
