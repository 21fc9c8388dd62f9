pub mod Table
pub mod KeepsValues
