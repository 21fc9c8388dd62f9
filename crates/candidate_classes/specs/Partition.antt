-- Partitions of places by what columns of numbers have there.
use Rattle.std.specs.Prelude.{◌≡◌, ℕ, ◌<◌, ◌≤◌, Some, List, All, length, slice_get, slice_index}
use Rattle.std.specs.List.{Contains, AllPairs}

-- two places have the same number in each column
abbrev pub SameIn : List (List ℕ) → ℕ → ℕ → Type 0
SameIn columns a b = All (λ (column : List ℕ). slice_index column a ≡ slice_index column b) columns

-- the least place that has in each column what a place has
pub record IsLeader (columns : List (List ℕ)) (leader k : ℕ) : Type 0 where
  pub same : SameIn columns leader k
  pub least : (m : ℕ) → SameIn columns m k → leader ≤ m

-- the leader of each place
abbrev pub AreLeaders : List (List ℕ) → List ℕ → Type 0
AreLeaders columns leaders = (k l : ℕ) → slice_get leaders k ≡ Some l → IsLeader columns l k

-- the places from one up to another are leaders
abbrev pub LeadFromTo : List ℕ → ℕ → ℕ → Type 0
LeadFromTo leaders from to = (k l : ℕ) → from ≤ k → k < to → slice_get leaders k ≡ Some l → l ≡ k

-- places in rising order, and each other place is a class of its own
pub record AreParting (leaders members : List ℕ) : Type 0 where
  pub inside : All (λ (k : ℕ). k < length leaders) members
  pub rising : AllPairs (λ (a b : ℕ). a < b) members
  pub itself : (k : ℕ) → k < length leaders → (Contains members k → ⊥) → slice_index leaders k ≡ k
  pub alone : (k m : ℕ) → m < length leaders → (Contains members k → ⊥) → slice_index leaders m ≡ k → m ≡ k
