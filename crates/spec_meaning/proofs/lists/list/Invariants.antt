use Rattle.std.proofs.Common.{◌≡◌, [], drop}
use Rattle.spec_meaning.specs.Checks.{numbers_after}
use Rattle.spec_meaning.proofs.lists.list.Given as goal

abbrev pub invariant-loop-value : goal.invariant-loop-value
invariant-loop-value l = numbers_after l.numbers (drop l.value-index l.values) ≡ numbers_after [] l.values
