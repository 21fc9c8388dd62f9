pub mod TryingLemmas
