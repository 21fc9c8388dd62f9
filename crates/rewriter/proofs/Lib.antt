pub mod Counting
pub mod Likeness
pub mod Placing
