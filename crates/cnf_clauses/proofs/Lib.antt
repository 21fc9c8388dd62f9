pub mod Meeting
pub mod Variables
mod RowsLemmas
