pub mod Cut
pub mod Held
pub mod Line
