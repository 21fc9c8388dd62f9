use Rattle.std.proofs.Common.{◌≡◌, take}
use Rattle.std.specs.List.{Contains}
use Rattle.cnf_clauses.specs.Literal.{Literal}
use Rattle.clause_search.proofs.start.other_than.Given as goal

abbrev pub invariant-loop-l : goal.invariant-loop-l
invariant-loop-l l = (m : Literal) → Contains (take l.l-index l.c) m → m ≡ l.first
