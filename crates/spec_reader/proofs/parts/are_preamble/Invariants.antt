use Rattle.std.proofs.Common.{◌≡◌, drop, map}
use Rattle.spec_reader.specs.Expressions.{reading, are_preamble}
use Rattle.spec_reader.proofs.parts.are_preamble.Given as goal

abbrev pub invariant-loop-part : goal.invariant-loop-part
invariant-loop-part l = are_preamble (map reading (drop l.part-index l.parts)) ≡ are_preamble (map reading l.parts)
