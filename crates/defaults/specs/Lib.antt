pub mod Shortness
