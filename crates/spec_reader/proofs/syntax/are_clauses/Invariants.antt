use Rattle.std.proofs.Common.{◌≡◌, drop, map}
use Rattle.spec_reader.specs.Expressions.{reading, are_clauses}
use Rattle.spec_reader.proofs.syntax.are_clauses.Given as goal

abbrev pub invariant-loop-part : goal.invariant-loop-part
invariant-loop-part l = are_clauses (map reading (drop l.part-index l.parts)) ≡ are_clauses (map reading l.parts)
