use Rattle.std.proofs.Common.{◌≡◌, ◌-◌}
use Rattle.class_reader.specs.MemberReaders.{field_at}
use Rattle.reading.specs.Readers.{turns, one_more, times}
use Rattle.class_reader.proofs.fields.each_field.Given as goal

-- the turns that are left give what all of them give
abbrev pub invariant-loop : goal.invariant-loop
invariant-loop l = turns (one_more (field_at l.pool l.end)) (l.count - l.counter) l.fields.items l.rest ≡ times l.count (field_at l.pool l.end) l.bytes
