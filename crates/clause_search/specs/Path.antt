-- Literals in the order in which they became true, cut into levels.
use Rattle.std.specs.Prelude.{◌≡◌, ℕ, ◌<◌, ◌≤◌, ◌^◌, List, [], length, take, slice_index_or, Option, Some, None, Contains, sum_by}
use Rattle.cnf_clauses.specs.Literal.{Literal, opposite}
use Rattle.cnf_clauses.specs.declared.lit.ClauseId.{ClauseId}
use Rattle.cnf_clauses.specs.Clause.{HasVariablesBelow}
use Rattle.clause_log.specs.Resolution.{clause_at}

-- the literal is false where these are true
abbrev pub IsFalseIn : List Literal → Literal → Type 0
IsFalseIn path l = Contains path (opposite l)

-- each literal of the clause is false
abbrev pub AllFalseIn : List Literal → List Literal → Type 0
AllFalseIn path c = (l : Literal) → Contains c l → IsFalseIn path l

-- each literal of the clause but one is false
abbrev pub AllButFalseIn : List Literal → Literal → List Literal → Type 0
AllButFalseIn path u c = (l : Literal) → Contains c l → (l ≡ u → ⊥) → IsFalseIn path l

-- nothing follows from the clause: a literal is true where all others of the clause are false
abbrev pub IsClosed : List Literal → List Literal → Type 0
IsClosed path c = (u : Literal) → AllButFalseIn path u c → Contains path u

-- nothing follows from any clause
abbrev pub IsClosedFor : List Literal → List (List Literal) → Type 0
IsClosedFor path db = (k : ℕ) → k < length db → IsClosed path (slice_index_or db k [])

-- 1 for a variable with no place
abbrev pub one_if_free : Option ℕ → ℕ
one_if_free None = 1
one_if_free (Some _) = 0

abbrev pub free_count : List (Option ℕ) → ℕ
free_count places = sum_by one_if_free places

-- the places are where the path has each variable, and the levels begin in order
pub record IsTrail (path : List Literal) (reasons : List (Option ClauseId)) (starts : List ℕ) (places : List (Option ℕ)) : Type 0 where
  pub same_length : length reasons ≡ length path
  pub placed : (i : ℕ) (d : Literal) → i < length path → slice_index_or places (slice_index_or path i d).var None ≡ Some i
  pub standing : (v p : ℕ) (d : Literal) → slice_index_or places v None ≡ Some p → (p < length path) × ((slice_index_or path p d).var ≡ v)
  pub inside : (j : ℕ) → j < length starts → slice_index_or starts j 0 ≤ length path
  pub narrow : length places ≤ 2 ^ 31
  pub rising : (i j : ℕ) → i < j → j < length starts → slice_index_or starts i 0 ≤ slice_index_or starts j 0

-- the clause holds the literal, and its others were false before
pub record IsReason (db : List (List Literal)) (path : List Literal) (i : ℕ) (l : Literal) (id : ClauseId) : Type 0 where
  pub in_db : id.0 < length db
  pub holds_it : Contains (clause_at db id) l
  pub others : AllButFalseIn (take i path) l (clause_at db id)

-- a literal is there for a clause, or begins a level
abbrev pub Explains : List (List Literal) → List Literal → List ℕ → ℕ → Literal → Option ClauseId → Type 0
Explains db path starts i l None = Contains starts i
Explains db path starts i l (Some id) = IsReason db path i l id

-- what the search keeps: each literal is explained, and nothing followed where a level began
pub record IsSearch (db : List (List Literal)) (path : List Literal) (reasons : List (Option ClauseId)) (starts : List ℕ) (variables : ℕ) : Type 0 where
  pub explained : (i : ℕ) (d : Literal) → i < length path → Explains db path starts i (slice_index_or path i d) (slice_index_or reasons i None)
  pub closed : (j : ℕ) → j < length starts → IsClosedFor (take (slice_index_or starts j 0) path) db
  pub over : (k : ℕ) → k < length db → HasVariablesBelow variables (slice_index_or db k [])
  pub some : (k : ℕ) → k < length db → slice_index_or db k [] ≡ [] → ⊥
