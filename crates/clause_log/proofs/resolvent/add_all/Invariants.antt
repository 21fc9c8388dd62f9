use Rattle.std.proofs.Common.{◌≡◌, ◌++◌, List, take, length}
use Rattle.cnf_clauses.specs.Literal.{Literal}
use Rattle.clause_log.specs.Resolution.{first_places}
use Rattle.clause_log.specs.Marks.{IsMarked}
use Rattle.clause_log.proofs.resolvent.add_all.Given as goal

abbrev pub invariant-loop-lit : goal.invariant-loop-lit
invariant-loop-lit l =
    ((xs : List Literal) → l.initial.literals.items ≡ first_places xs → l.literals.items ≡ first_places (xs ++ take l.lit-index l.clause))
    × IsMarked l.marks.items l.literals.items
    × (length l.marks.items ≡ length l.initial.marks.items)
