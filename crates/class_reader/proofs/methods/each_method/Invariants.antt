use Rattle.std.proofs.Common.{◌≡◌, ◌≤◌, ◌-◌, vec_len}
use Rattle.class_reader.specs.MemberReaders.{method_at}
use Rattle.reading.specs.Readers.{turns, one_more, times}
use Rattle.class_reader.proofs.methods.each_method.Given as goal

-- the turns that are left give what all of them give
abbrev pub invariant-loop : goal.invariant-loop
invariant-loop l = record { read : turns (one_more (method_at l.pool l.end)) (l.count - l.counter) l.methods.items l.rest ≡ times l.count (method_at l.pool l.end) l.bytes; few : vec_len l.methods ≤ l.counter }
