use Rattle.std.proofs.Common.{◌≡◌, ◌<◌, drop, get_or, length, true, false}
use Rattle.std.specs.List.{Contains}
use Rattle.cnf_clauses.specs.Literal.{Literal, code_of}
use Rattle.clause_log.proofs.resolvent.unmark.Given as goal

abbrev pub invariant-loop-lit : goal.invariant-loop-lit
invariant-loop-lit l =
    ((k : Literal) → code_of k < length l.marks.items → get_or l.marks.items (code_of k) false ≡ true → Contains (drop l.lit-index l.literals) k)
    × (length l.marks.items ≡ length l.initial.marks.items)
