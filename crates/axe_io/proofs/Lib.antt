pub mod Counting
pub mod Appending
pub mod Leaves
