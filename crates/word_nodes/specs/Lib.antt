pub mod Gains
pub mod Moves
