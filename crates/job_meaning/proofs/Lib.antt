pub mod Rightness
pub mod VaryLemmas
