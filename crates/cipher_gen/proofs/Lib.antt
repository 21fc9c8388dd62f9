pub mod Rounds
pub mod Lengths
pub mod Appending
