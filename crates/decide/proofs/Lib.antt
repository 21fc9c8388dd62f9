pub mod Deciding
pub mod Ending
pub mod Completing
