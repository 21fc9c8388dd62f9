-- What a trail says of a literal.
use Rattle.std.specs.Prelude.{◌≡◌, ℕ, List, slice_index_or, Option, None, Contains}
use Rattle.cnf_clauses.specs.Literal.{Literal}
use Rattle.clause_search.specs.declared.trail.Value.{Value}
use Rattle.clause_search.specs.declared.trail.Value.TheVariants.{True, False, Free}
use Rattle.clause_search.specs.Path.{IsFalseIn}

-- the literal is true, or false, or its variable has no place
abbrev pub IsValue : List Literal → List (Option ℕ) → Literal → Value → Type 0
IsValue path places l True = Contains path l
IsValue path places l False = IsFalseIn path l
IsValue path places l Free = slice_index_or places l.var None ≡ None
