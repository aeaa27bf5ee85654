pub mod Finish
pub mod Words
pub mod Parts
