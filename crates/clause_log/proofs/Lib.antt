pub mod Resolving
pub mod Logs
pub mod Marking
mod Listing
