pub mod Calls
pub mod Supplied
pub mod Tally
