pub mod Over
pub mod Growth
