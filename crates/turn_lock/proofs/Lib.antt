pub mod ListLemmas
pub mod OwnerLemmas
pub mod RowLemmas
pub mod ViewLemmas
pub mod Steps
pub mod Calls
pub mod DealLemmas
