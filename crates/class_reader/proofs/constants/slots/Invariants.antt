use Rattle.std.proofs.Common.{◌≡◌, ◌-◌, false, []}
use Rattle.class_reader.specs.ConstantReaders.{slot_turn}
use Rattle.reading.specs.Readers.{turns}
use Rattle.class_reader.proofs.constants.slots.Given as goal

-- the slots that are left give what all of them give
abbrev pub invariant-loop-number : goal.invariant-loop-number
invariant-loop-number l =
    turns (slot_turn l.end) (l.count - l.number) (l.slots.items, l.second) l.rest ≡ turns (slot_turn l.end) l.count ([], false) l.bytes
