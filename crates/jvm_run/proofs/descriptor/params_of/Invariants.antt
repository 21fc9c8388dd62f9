use Rattle.std.proofs.Common.{◌≡◌, ◌++◌, drop}
use Rattle.jvm_run.specs.Descriptors.{params_of}
use Rattle.jvm_run.proofs.descriptor.params_of.Given as goal

abbrev pub invariant-loop-field_type : goal.invariant-loop-field_type
invariant-loop-field_type l = l.params.items ++ params_of (drop l.field_type-index l.types) l.rest ≡ params_of l.types l.sizes
