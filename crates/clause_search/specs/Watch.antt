-- Two watched literals for each clause.
use Rattle.std.specs.Prelude.{◌≡◌, ℕ, ◌<◌, List, [], length, take, slice_index_or, Option, Some, None, Contains}
use Rattle.cnf_clauses.specs.Literal.{Literal}
use Rattle.clause_search.specs.declared.watch.Pair.{Pair}
use Rattle.clause_search.specs.Path.{IsFalseIn}

-- a watched literal is false only where the other one is true
pub record AreWatched (path : List Literal) (a b : Literal) : Type 0 where
  pub first : IsFalseIn path a → Contains path b
  pub second : IsFalseIn path b → Contains path a

-- the same, where only the first q literals were gone through
pub record AreWatchedFrom (path : List Literal) (q : ℕ) (a b : Literal) : Type 0 where
  pub first : IsFalseIn (take q path) a → Contains path b
  pub second : IsFalseIn (take q path) b → Contains path a

-- a clause with its watched literals
pub record IsWatchedAs (path : List Literal) (q : ℕ) (starts : List ℕ) (c : List Literal) (a b : Literal) : Type 0 where
  pub first_in : Contains c a
  pub second_in : Contains c b
  pub different : a ≡ b → ⊥
  pub now : AreWatchedFrom path q a b
  pub at_starts : (j : ℕ) → j < length starts → AreWatched (take (slice_index_or starts j 0) path) a b

-- each literal of a clause that isn't watched is true, since no level
pub record IsDone (path : List Literal) (starts : List ℕ) (c : List Literal) : Type 0 where
  pub now : (l : Literal) → Contains c l → Contains path l
  pub at_starts : (j : ℕ) → j < length starts → (l : Literal) → Contains c l → Contains (take (slice_index_or starts j 0) path) l

abbrev pub IsHeld : List Literal → ℕ → List ℕ → List Literal → Option Pair → Type 0
IsHeld path q starts c None = IsDone path starts c
IsHeld path q starts c (Some p) = IsWatchedAs path q starts c p.first p.second

-- each clause is watched, or done
abbrev pub IsWatching : List (List Literal) → List Literal → ℕ → List ℕ → List (Option Pair) → Type 0
IsWatching db path q starts pairs = (k : ℕ) → k < length db → IsHeld path q starts (slice_index_or db k []) (slice_index_or pairs k None)
