pub mod Shapes
pub mod Inputs
pub mod Ends
pub mod Contents
pub mod Memories
pub mod Ranges
