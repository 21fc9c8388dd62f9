use Rattle.std.proofs.Common.{◌≡◌, ◌++◌, drop, map}
use Rattle.jvm_meaning.specs.Fields.{start_value, start_values}
use Rattle.jvm_run.proofs.statics.start_values.Given as goal

abbrev pub invariant-loop-field : goal.invariant-loop-field
invariant-loop-field l = l.statics ++ map (start_value l.class.pool) (drop l.field-index l.class.fields) ≡ start_values l.class
