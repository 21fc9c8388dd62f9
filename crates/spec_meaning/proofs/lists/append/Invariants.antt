use Rattle.std.proofs.Common.{◌≡◌, [], drop}
use Rattle.spec_meaning.specs.Checks.{joined_after}
use Rattle.spec_meaning.proofs.lists.append.Given as goal

abbrev pub invariant-loop-value : goal.invariant-loop-value
invariant-loop-value l = joined_after l.numbers.items (drop l.value-index l.values) ≡ joined_after [] l.values
