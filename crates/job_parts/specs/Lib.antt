pub mod Parts
pub mod Stages
pub mod Found
pub mod Causes
