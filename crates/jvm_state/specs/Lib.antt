pub mod Values
pub mod Stops
pub mod Stacks
pub mod Frames
pub mod ArrayTypes
pub mod Arrays
