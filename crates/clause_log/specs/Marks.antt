-- A clause with a mark for each literal that stands in it.
use Rattle.std.specs.Prelude.{◌≡◌, ℕ, ◌*◌, ◌<◌, Bool, false, List, length, slice_index_or, Contains}
use Rattle.cnf_clauses.specs.Literal.{Literal, code_of}
use Rattle.clause_log.specs.Resolution.{stands_in, first_places}

-- a clause over variables below a number
pub record Scratch : Type 0 where
  pub variables : ℕ
  pub literals : List Literal

-- a literal is marked exactly where it stands in the clause
abbrev pub AreMarks : List Bool → List Literal → Type 0
AreMarks marks c = (l : Literal) → code_of l < length marks → slice_index_or marks (code_of l) false ≡ stands_in c l

-- there is a mark for each literal of the clause
abbrev pub HasMarks : List Bool → List Literal → Type 0
HasMarks marks c = (l : Literal) → Contains c l → code_of l < length marks

-- the marks are those of the clause, which has each of its literals once
pub record IsMarked (marks : List Bool) (c : List Literal) : Type 0 where
  pub exact : AreMarks marks c
  pub inside : HasMarks marks c
  pub once : first_places c ≡ c

-- the same with a mark for each literal of so many variables
pub record IsScratch (variables : ℕ) (marks : List Bool) (c : List Literal) : Type 0 where
  pub size : length marks ≡ 2 * variables
  pub marked : IsMarked marks c
