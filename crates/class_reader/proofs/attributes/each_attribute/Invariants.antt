use Rattle.std.proofs.Common.{◌≡◌, ◌-◌}
use Rattle.class_reader.specs.MemberReaders.{attribute_turn}
use Rattle.reading.specs.Readers.{turns}
use Rattle.class_reader.proofs.attributes.each_attribute.Given as goal

-- the turns that are left give what all of them give
abbrev pub invariant-loop : goal.invariant-loop
invariant-loop l = turns (attribute_turn l.pool l.end) (l.count - l.counter) tt l.rest ≡ turns (attribute_turn l.pool l.end) l.count tt l.bytes
