use Rattle.std.proofs.Common.{◌≡◌, drop, map}
use Rattle.spec_reader.specs.Expressions.{reading, first_text}
use Rattle.spec_reader.proofs.parts.first_text.Given as goal

abbrev pub invariant-loop-part : goal.invariant-loop-part
invariant-loop-part l = first_text (map reading (drop l.part-index l.parts)) ≡ first_text (map reading l.parts)
