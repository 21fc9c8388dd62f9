-- What a search answers.
use Rattle.std.specs.Prelude.{◌≡◌, ℕ, ◌<◌, ◌≤◌, Bool, true, false, List, length, slice_index_or, Option, None, Contains}
use Rattle.cnf_clauses.specs.Literal.{Literal}
use Rattle.cnf_clauses.specs.Clause.{Models}
use Rattle.cnf_clauses.specs.Formula.{Cnf}
use Rattle.clause_log.specs.Log.{ClauseLog, clauses_of, EachFollows, EachIsNew, Refutes, IsSpentLog}
use Rattle.clause_search.specs.declared.outcome.Found.{Found}
use Rattle.clause_search.specs.declared.outcome.Found.TheVariants.{Model, Refuted, Spent}

-- the assignment of a list of values, false past its end
abbrev pub assigned : List Bool → ℕ → Bool
assigned values v = slice_index_or values v false

-- a log of at most so many lines, each of which follows and is new, that refutes its formula
pub record IsRefutation (lines : ℕ) (log : ClauseLog) : Type 0 where
  pub few : length log.lines ≤ lines
  pub follows : EachFollows log.formula.clauses log.lines
  pub new : EachIsNew log.formula.clauses log.lines
  pub refutes : Refutes (clauses_of log)

-- a model of the formula, a refutation of it within the lines, or a spent log of it
abbrev pub IsFound : Cnf → ℕ → Found → Type 0
IsFound f lines (Model values) = (length values.items ≡ f.variables) × Models (assigned values.items) f.clauses
IsFound f lines (Refuted log) = (log.formula ≡ f) × IsRefutation lines log
IsFound f lines (Spent log) = (log.formula ≡ f) × IsSpentLog lines log

-- a variable is true in the list exactly where it is true in the path
abbrev pub AreValues : List Literal → ℕ → List Bool → Type 0
AreValues path n values = (v : ℕ) → v < n → (assigned values v ≡ true → Contains path record { var = v; negated = false }) × (Contains path record { var = v; negated = false } → assigned values v ≡ true)

-- each variable has a place
abbrev pub AllArePlaced : List (Option ℕ) → Type 0
AllArePlaced places = (v : ℕ) → v < length places → slice_index_or places v None ≡ None → ⊥
