use Rattle.std.proofs.Common.{◌≡◌, ◌++◌, drop}
use Rattle.spec_meaning.proofs.stack.copy_all.Given as goal

abbrev pub invariant-loop-value : goal.invariant-loop-value
invariant-loop-value l = l.list.items ++ drop l.value-index l.values ≡ l.initial.list.items ++ l.values
