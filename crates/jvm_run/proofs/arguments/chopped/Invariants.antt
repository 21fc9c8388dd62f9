use Rattle.std.proofs.Common.{◌≡◌, ◌++◌, drop}
use Rattle.jvm_meaning.specs.Runs.{chopped}
use Rattle.jvm_run.proofs.arguments.chopped.Given as goal

abbrev pub invariant-loop-leaf : goal.invariant-loop-leaf
invariant-loop-leaf l = l.elements ++ chopped l.kind (drop l.leaf-index l.leaves) ≡ chopped l.kind l.leaves
