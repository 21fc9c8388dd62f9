-- Logs of resolution over a formula.
use Rattle.std.specs.Prelude.{◌≡◌, ℕ, ◌<◌, ◌^◌, List, [], ◌++◌, length, map, take, slice_index_or, Contains}
use Rattle.cnf_clauses.specs.Literal.{Literal}
use Rattle.cnf_clauses.specs.Clause.{HasVariablesBelow}
use Rattle.cnf_clauses.specs.Formula.{Cnf}
use Rattle.clause_log.specs.Resolution.{IsNew}
use Rattle.clause_log.specs.Line.{Line, clause_of, Follows}

-- a formula, and lines that follow from it
pub record ClauseLog : Type 0 where
  pub formula : Cnf
  pub lines : List Line

-- the formula's clauses, and then the lines
abbrev pub all_clauses : List (List Literal) → List Line → List (List Literal)
all_clauses fs ls = fs ++ map clause_of ls

abbrev pub clauses_of : ClauseLog → List (List Literal)
clauses_of log = all_clauses log.formula.clauses log.lines

-- each line follows from the clauses and lines before it
abbrev pub EachFollows : List (List Literal) → List Line → Type 0
EachFollows fs ls = (j : ℕ) (d : Line) → j < length ls → Follows (all_clauses fs (take j ls)) (slice_index_or ls j d)

-- each line is new: no clause of the formula and no earlier line has all its literals within it
abbrev pub EachIsNew : List (List Literal) → List Line → Type 0
EachIsNew fs ls = (j : ℕ) (d : Line) → j < length ls → IsNew (all_clauses fs (take j ls)) (slice_index_or ls j d).clause

-- the empty clause is one of the clauses
abbrev pub Refutes : List (List Literal) → Type 0
Refutes cs = Contains cs []

-- clauses and lines are few enough for their numbers, each line follows, and all are over the formula's variables
pub record IsLog (variables : ℕ) (fs : List (List Literal)) (ls : List Line) : Type 0 where
  pub few : length (all_clauses fs ls) < 2 ^ 32
  pub follows : EachFollows fs ls
  pub over : (k : ℕ) → k < length (all_clauses fs ls) → HasVariablesBelow variables (slice_index_or (all_clauses fs ls) k [])

-- a log of exactly k lines, each of which follows and is new, that doesn't refute
pub record IsSpentLog (k : ℕ) (log : ClauseLog) : Type 0 where
  pub lines : length log.lines ≡ k
  pub follows : EachFollows log.formula.clauses log.lines
  pub new : EachIsNew log.formula.clauses log.lines
  pub open_ : Refutes (clauses_of log) → ⊥
