-- The literal that became false last.
use Rattle.std.specs.Prelude.{◌≡◌, ℕ, ◌≤◌, List, slice_index_or, Option, Some, None, Contains}
use Rattle.cnf_clauses.specs.Literal.{Literal}

-- all are this one; or one other stands at the place, and the others no later
abbrev pub IsLast : List Literal → List (Option ℕ) → Literal → List Literal → ℕ → Option Literal → Type 0
IsLast path places first cs place None = (l : Literal) → Contains cs l → l ≡ first
IsLast path places first cs place (Some w) = Contains cs w × (w ≡ first → ⊥) × (slice_index_or places w.var None ≡ Some place) × ((l : Literal) → Contains cs l → (l ≡ first → ⊥) → (p : ℕ) × (slice_index_or places l.var None ≡ Some p) × (p ≤ place))
