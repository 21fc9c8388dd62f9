use Rattle.std.proofs.Common.{◌≡◌, ◌++◌, drop}
use Rattle.jvm_meaning.specs.Runs.{arguments}
use Rattle.jvm_run.proofs.arguments.arguments.Given as goal

abbrev pub invariant-loop-param : goal.invariant-loop-param
invariant-loop-param l = l.values.items ++ arguments l.arrays (drop l.param-index l.params) l.rest ≡ arguments 0 l.params l.leaves
