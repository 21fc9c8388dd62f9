use Rattle.std.proofs.Common.{◌≡◌, ◌-◌, None}
use Rattle.class_reader.specs.MemberReaders.{method_attribute_at}
use Rattle.reading.specs.Readers.{turns}
use Rattle.class_reader.proofs.methods.each_attribute.Given as goal

-- the turns that are left give what all of them give
abbrev pub invariant-loop : goal.invariant-loop
invariant-loop l = turns (method_attribute_at l.pool l.end) (l.count - l.counter) l.code l.rest ≡ turns (method_attribute_at l.pool l.end) l.count None l.bytes
