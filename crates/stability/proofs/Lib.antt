pub mod Alike
pub mod Settle
pub mod Claims
pub mod Instances
pub mod Stripping
pub mod Sentences
