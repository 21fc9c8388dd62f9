use Rattle.std.proofs.Common.{◌≡◌, ◌++◌, drop}
use Rattle.spec_meaning.specs.Arguments.{spec_arguments}
use Rattle.spec_meaning.proofs.arguments.arguments.Given as goal

abbrev pub invariant-loop-param : goal.invariant-loop-param
invariant-loop-param l = l.args ++ spec_arguments (drop l.param-index l.params) l.left ≡ spec_arguments l.params l.leaves
