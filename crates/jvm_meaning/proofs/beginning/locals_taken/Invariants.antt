use Rattle.std.proofs.Common.{◌≡◌, ◌+◌, ◌*◌, ◌≤◌, drop}
use Rattle.jvm_meaning.specs.Runs.{locals_taken}
use Rattle.jvm_meaning.proofs.beginning.locals_taken.Given as goal

abbrev pub invariant-loop-param : goal.invariant-loop-param
invariant-loop-param l = record {
  so_far : l.taken + locals_taken (drop l.param-index l.params) ≡ locals_taken l.params;
  few : l.taken ≤ 2 * l.param-index;
}
