-- A pass over the clauses that may watch a literal.
use Rattle.std.specs.Prelude.{◌≡◌, ℕ, ◌+◌, ◌*◌, ◌<◌, ◌≤◌, ◌⊎◌, List, [], length, slice_index_or, Option, Some, None, Contains}
use Rattle.cnf_clauses.specs.Literal.{Literal, code_of}
use Rattle.cnf_clauses.specs.declared.lit.ClauseId.{ClauseId}
use Rattle.clause_log.specs.Resolution.{clause_at}
use Rattle.clause_search.specs.declared.watch.Pair.{Pair}
use Rattle.clause_search.specs.declared.pass.Visit.{Visit}
use Rattle.clause_search.specs.declared.pass.Visit.TheVariants.{Kept, Moved, Falsified}
use Rattle.clause_search.specs.Path.{AllFalseIn, IsClosedFor}
use Rattle.clause_search.specs.Watch.{IsHeld, IsWatching}

abbrev pub id_of : ℕ → ClauseId
id_of k = record { 0 = k }

-- the clause is among those from i on
abbrev pub Waits : ℕ → List ClauseId → ℕ → Type 0
Waits i ids k = (j : ℕ) × (i ≤ j) × (j < length ids) × ((d : ClauseId) → slice_index_or ids j d ≡ id_of k)

-- each clause is held as far as q, and past it unless it waits
abbrev pub IsPassing : List (List Literal) → List Literal → ℕ → List ℕ → List (Option Pair) → List ClauseId → ℕ → Type 0
IsPassing db path q starts pairs ids i = (k : ℕ) → k < length db → IsHeld path q starts (slice_index_or db k []) (slice_index_or pairs k None) × (Waits i ids k ⊎ IsHeld path (q + 1) starts (slice_index_or db k []) (slice_index_or pairs k None))

-- each clause stands in the lists of the literals that it watches
abbrev pub IsListed : List (Option Pair) → List (List ClauseId) → Type 0
IsListed pairs lists = (k : ℕ) (p : Pair) → slice_index_or pairs k None ≡ Some p → Contains (slice_index_or lists (code_of p.first) []) (id_of k) × Contains (slice_index_or lists (code_of p.second) []) (id_of k)

-- the lists are complete, and there is one for each literal
pub record AreLists (db : List (List Literal)) (variables : ℕ) (pairs : List (Option Pair)) (lists : List (List ClauseId)) : Type 0 where
  pub listed : IsListed pairs lists
  pub for_each_clause : length pairs ≡ length db
  pub for_each_literal : length lists ≡ 2 * variables

abbrev pub IsVisit : List (List Literal) → List Literal → ℕ → List ℕ → List (Option Pair) → List ClauseId → List ClauseId → ℕ → Visit → Type 0
IsVisit db path q starts pairs was ids i Kept = IsPassing db path q starts pairs ids (i + 1) × (length ids ≡ length was)
IsVisit db path q starts pairs was ids i Moved = IsPassing db path q starts pairs ids i × (length ids + 1 ≡ length was)
IsVisit db path q starts pairs was ids i (Falsified id) = (id.0 < length db) × AllFalseIn path (clause_at db id) × IsPassing db path q starts pairs ids i

-- None where the pass went through, else a clause that is false
abbrev pub IsPassed : List (List Literal) → List Literal → ℕ → List ℕ → List (Option Pair) → Option ClauseId → Type 0
IsPassed db path q starts pairs None = IsWatching db path (q + 1) starts pairs
IsPassed db path q starts pairs (Some id) = (id.0 < length db) × AllFalseIn path (clause_at db id) × IsWatching db path q starts pairs

-- None where nothing follows, else a clause that is false
abbrev pub IsAtRest : List (List Literal) → List Literal → List ℕ → List (Option Pair) → Option ClauseId → Type 0
IsAtRest db path starts pairs None = IsClosedFor path db × IsWatching db path (length path) starts pairs
IsAtRest db path starts pairs (Some id) = (id.0 < length db) × AllFalseIn path (clause_at db id) × IsWatching db path 0 starts pairs

-- None where nothing follows and each variable has a place, else a clause that is false
abbrev pub IsDecidedWatched : List (List Literal) → List Literal → List ℕ → List (Option ℕ) → List (Option Pair) → Option ClauseId → Type 0
IsDecidedWatched db path starts places pairs None = IsClosedFor path db × ((v : ℕ) → v < length places → slice_index_or places v None ≡ None → ⊥)
IsDecidedWatched db path starts places pairs (Some id) = (id.0 < length db) × AllFalseIn path (clause_at db id) × IsWatching db path 0 starts pairs

abbrev pub pair_of : Literal → Option Literal → Option Pair
pair_of first None = None
pair_of first (Some w) = Some record { first = first; second = w }
