pub mod Nodes
pub mod Seeking
pub mod Checking
pub mod Skipping
pub mod Looking
