pub mod Laws
pub mod Fast
pub mod Over
pub mod Later
