pub mod Named
pub mod Tables
pub mod Claims
