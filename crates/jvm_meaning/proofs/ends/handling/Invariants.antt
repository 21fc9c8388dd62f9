use Rattle.std.proofs.Common.{◌≡◌, length, reverse, find}
use Rattle.jvm_meaning.specs.Steps.{handles, sites_of}
use Rattle.jvm_meaning.proofs.ends.handling.Given as goal

abbrev pub invariant-loop-inner : goal.invariant-loop-inner
invariant-loop-inner g l = find (handles l.class) (sites_of (reverse l.rest)) ≡ find (handles l.class) (sites_of l.callers)

abbrev pub decreases-loop-inner : goal.decreases-loop-inner
decreases-loop-inner g l = length l.rest
