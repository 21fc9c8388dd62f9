pub mod Fails
pub mod Turns
pub mod Laws
