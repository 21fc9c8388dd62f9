use Rattle.std.proofs.Common.{◌≡◌, ◌<◌, ◌^◌, ◌++◌, length, drop}
use Rattle.axe_io.specs.Shapes.{leaf_widths}
use Rattle.jvm_meaning.specs.Runs.{parameter_arrays}
use Rattle.jvm_run.proofs.arguments.parameter_arrays.Given as goal

abbrev pub invariant-loop-param : goal.invariant-loop-param
invariant-loop-param l = record {
  so_far : l.arrays ++ parameter_arrays (drop l.param-index l.params) l.rest ≡ parameter_arrays l.params l.leaves;
  few : length (leaf_widths (drop l.param-index l.params)) < 2 ^ 31;
}
