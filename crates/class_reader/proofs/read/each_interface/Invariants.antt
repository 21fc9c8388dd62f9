use Rattle.std.proofs.Common.{◌≡◌, ◌-◌}
use Rattle.class_reader.specs.ClassReaders.{interface_turn}
use Rattle.reading.specs.Readers.{turns}
use Rattle.class_reader.proofs.read.each_interface.Given as goal

-- the turns that are left give what all of them give
abbrev pub invariant-loop : goal.invariant-loop
invariant-loop l = turns (interface_turn l.pool l.end) (l.count - l.counter) tt l.rest ≡ turns (interface_turn l.pool l.end) l.count tt l.bytes
