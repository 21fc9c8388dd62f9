pub mod Literal
pub mod Clause
pub mod Rows
pub mod Formula
