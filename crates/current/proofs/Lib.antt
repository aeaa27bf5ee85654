pub mod Sails
pub mod Entering
pub mod Unbeaten
pub mod Rules
