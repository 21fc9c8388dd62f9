pub mod Refining
pub mod MemberLemmas
pub mod SplitLemmas
