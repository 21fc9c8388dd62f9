use Rattle.std.proofs.Common.{◌≡◌, drop, map}
use Rattle.spec_reader.specs.Reading.{with_front}
use Rattle.spec_reader.specs.Expressions.{reading, definitions}
use Rattle.spec_reader.proofs.definition.definitions.Given as goal

abbrev pub invariant-loop-datum : goal.invariant-loop-datum
invariant-loop-datum l = with_front l.out (definitions (map reading (drop l.datum-index l.«data»))) ≡ definitions (map reading l.«data»)
