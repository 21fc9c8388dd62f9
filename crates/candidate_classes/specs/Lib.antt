pub mod Partition
pub mod Filing
pub mod Marks
