pub mod Current
pub mod Entering
pub mod Claims
