pub mod Contents
pub mod Members
pub mod Pools
