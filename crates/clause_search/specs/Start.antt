-- Where a search starts: clauses of one literal.
use Rattle.std.specs.Prelude.{◌≡◌, ℕ, ◌<◌, Bool, true, false, List, [], length, slice_index_or, Option, Some, None, Contains}
use Rattle.cnf_clauses.specs.Literal.{Literal}
use Rattle.cnf_clauses.specs.declared.lit.ClauseId.{ClauseId}
use Rattle.clause_log.specs.Resolution.{clause_at}
use Rattle.clause_search.specs.Path.{AllFalseIn}

-- where a clause has one literal only, that one is true
abbrev pub HoldsUnits : List Literal → List Literal → Type 0
HoldsUnits path c = (u : Literal) → Contains c u → ((l : Literal) → Contains c l → l ≡ u) → Contains path u

-- None where this holds of each clause, else a clause that is false
abbrev pub IsStarted : List (List Literal) → List Literal → Option ClauseId → Type 0
IsStarted db path None = (k : ℕ) → k < length db → HoldsUnits path (slice_index_or db k [])
IsStarted db path (Some id) = (id.0 < length db) × AllFalseIn path (clause_at db id)

-- the path has all that it had, and it holds of this clause, or this clause is false
abbrev pub IsAssumed : List Literal → List Literal → List Literal → Bool → Type 0
IsAssumed c was path true = ((l : Literal) → Contains was l → Contains path l) × HoldsUnits path c
IsAssumed c was path false = (path ≡ was) × AllFalseIn path c
