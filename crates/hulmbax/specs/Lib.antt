pub mod Answer
pub mod Entry
pub mod Names
pub mod Finishes
