-- Which clause that a line names is not there.
use Rattle.std.specs.Prelude.{ℕ, nat_le, List, ◌∷◌, map, find, Option}
use Rattle.cnf_clauses.specs.declared.lit.ClauseId.{ClauseId}
use Rattle.clause_log.specs.Resolution.{Step}

-- the number of the clause that a step names
abbrev pub named : Step → ℕ
named s = s.0.0

-- of the clauses that a line names, its start first, the first that is none of the first n
abbrev pub first_missing : ℕ → ClauseId → List Step → Option ℕ
first_missing n start steps = find (nat_le n) (start.0 ∷ map named steps)
