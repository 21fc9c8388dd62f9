pub mod Readers
pub mod Grammars
pub mod Reads
pub mod Answers
