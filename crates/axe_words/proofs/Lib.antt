pub mod NumberLemmas
pub mod ArgumentLemmas
pub mod FaultLemmas
pub mod RangeLemmas
