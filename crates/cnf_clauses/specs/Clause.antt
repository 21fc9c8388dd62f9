-- Clauses, and what it means that an assignment meets them.
use Rattle.std.specs.Prelude.{◌≡◌, ℕ, ◌<◌, Bool, true, false, ◌&&◌, ◌||◌, List, [], ◌∷◌, length, slice_index_or, Contains}
use Rattle.cnf_clauses.specs.Literal.{Literal, value_of}

-- the test whether some literal of a clause is true
abbrev pub met : (ℕ → Bool) → List Literal → Bool
met v [] = false
met v (l ∷ ls) = value_of v l || met v ls

-- the test whether each clause of a list is met
unfoldable pub all_met : (ℕ → Bool) → List (List Literal) → Bool
all_met v [] = true
all_met v (c ∷ cs) = met v c && all_met v cs

-- some literal of the clause is true
abbrev pub IsMet : (ℕ → Bool) → List Literal → Type 0
IsMet v c = (l : Literal) × Contains c l × (value_of v l ≡ true)

-- each clause of the list is met
abbrev pub Models : (ℕ → Bool) → List (List Literal) → Type 0
Models v cs = (k : ℕ) → k < length cs → IsMet v (slice_index_or cs k [])

-- each variable of a clause is below n
abbrev pub IsOver : ℕ → List Literal → Type 0
IsOver n [] = Unit {0}
IsOver n (l ∷ ls) = (l.var < n) × IsOver n ls

-- the same, said of each literal that stands in the clause
abbrev pub HasVariablesBelow : ℕ → List Literal → Type 0
HasVariablesBelow n c = (l : Literal) → Contains c l → l.var < n
