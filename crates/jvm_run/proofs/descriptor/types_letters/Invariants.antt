use Rattle.std.proofs.Common.{◌≡◌, ◌+◌, ◌≤◌, length}
use Rattle.jvm_run.specs.Descriptors.{types_letters}
use Rattle.jvm_run.proofs.descriptor.types_letters.Given as goal

abbrev pub invariant-loop-first : goal.invariant-loop-first
invariant-loop-first l = record {
  so_far : l.count + types_letters l.depth l.rest ≡ types_letters 0 l.letters;
  few : l.count + length l.rest ≤ length l.letters;
}

abbrev pub decreases-loop-first : goal.decreases-loop-first
decreases-loop-first l = length l.rest
