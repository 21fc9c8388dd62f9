use Rattle.std.proofs.Common.{◌≡◌, ◌++◌, drop}
use Rattle.spec_meaning.proofs.stack.lend_all.Given as goal

abbrev pub invariant-loop-arg : goal.invariant-loop-arg
invariant-loop-arg l = l.list.items ++ drop l.arg-index l.args ≡ l.initial.list.items ++ l.args
