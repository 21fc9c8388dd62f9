pub mod Jobs
pub mod Trying
pub mod Meant
pub mod Varying
