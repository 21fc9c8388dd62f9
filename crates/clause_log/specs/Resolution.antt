-- Resolution. Source: the resolution rule of propositional logic.
use Rattle.std.specs.Prelude.{ℕ, ◌<◌, Bool, not, List, [], ◌∷◌, ◌++◌, filter, Contains, length, slice_index_or}
use Rattle.std.specs.List.{list_any}
use Rattle.cnf_clauses.specs.Literal.{Literal, opposite, same_literal}
use Rattle.cnf_clauses.specs.declared.lit.ClauseId.{ClauseId}

-- the test whether a literal stands in a clause
abbrev pub stands_in : List Literal → Literal → Bool
stands_in c l = list_any (λ m. same_literal m l) c

-- the clause without a literal
unfoldable pub without : Literal → List Literal → List Literal
without p c = filter (λ l. not (same_literal l p)) c

-- each literal once, at its first place
unfoldable pub first_places : List Literal → List Literal
first_places [] = []
first_places (l ∷ ls) = l ∷ without l (first_places ls)

-- C without p joined with D without not p, each literal once, at its first place
unfoldable pub resolvent : Literal → List Literal → List Literal → List Literal
resolvent p c d = first_places (without p c ++ without (opposite p) d)

-- the clause of a number, in a list of clauses
abbrev pub clause_at : List (List Literal) → ClauseId → List Literal
clause_at cs id = slice_index_or cs id.0 []

-- one step of resolution names the other clause, and the literal of this one
abbrev pub Step : Type 0
Step = ClauseId × Literal

-- the resolvents of a clause with others of a list, one after another
unfoldable pub resolvents : List (List Literal) → List Literal → List Step → List Literal
resolvents cs c [] = c
resolvents cs c (s ∷ ss) = resolvents cs (resolvent s.1 c (clause_at cs s.0)) ss

-- each step names one of the first n clauses
abbrev pub StepsAreIn : ℕ → List Step → Type 0
StepsAreIn n ss = (k : ℕ) (d : Step) → k < length ss → (slice_index_or ss k d).0.0 < n

-- each literal of the first clause stands in the second
abbrev pub IsWithin : List Literal → List Literal → Type 0
IsWithin d c = (l : Literal) → Contains d l → Contains c l

-- no clause of the list has all its literals within this one
abbrev pub IsNew : List (List Literal) → List Literal → Type 0
IsNew cs c = (k : ℕ) → k < length cs → IsWithin (slice_index_or cs k []) c → ⊥
