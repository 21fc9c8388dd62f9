use Rattle.std.proofs.Common.{◌≡◌, ◌-◌}
use Rattle.class_reader.specs.MemberReaders.{row_at}
use Rattle.reading.specs.Readers.{turns, one_more, times}
use Rattle.class_reader.proofs.code.each_row.Given as goal

-- the turns that are left give what all of them give
abbrev pub invariant-loop : goal.invariant-loop
invariant-loop l = turns (one_more (row_at l.end)) (l.count - l.counter) l.rows.items l.rest ≡ times l.count (row_at l.end) l.bytes
