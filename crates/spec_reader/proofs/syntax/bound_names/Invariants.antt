use Rattle.std.proofs.Common.{◌≡◌, ◌++◌, drop, map, option_map}
use Rattle.spec_reader.specs.Expressions.{reading, bound_names}
use Rattle.spec_reader.proofs.syntax.bound_names.Given as goal

abbrev pub invariant-loop-binding : goal.invariant-loop-binding
invariant-loop-binding l = option_map (λ more. l.names ++ more) (bound_names (map (λ part. part.binding) (map reading (drop l.binding-index l.bindings)))) ≡ bound_names (map (λ part. part.binding) (map reading l.bindings))
