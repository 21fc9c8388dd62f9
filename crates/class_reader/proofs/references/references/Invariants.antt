use Rattle.std.proofs.Common.{◌≡◌, drop}
use Rattle.class_reader.specs.References.{references}
use Rattle.class_reader.proofs.references.references.Given as goal

-- the references that are left give what all of them give
abbrev pub invariant-loop-slot : goal.invariant-loop-slot
invariant-loop-slot l = references l.end l.pool (drop l.slot-index l.pool) l.rest ≡ references l.end l.pool l.pool l.bytes
