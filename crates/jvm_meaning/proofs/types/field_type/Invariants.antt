use Rattle.std.proofs.Common.{◌≡◌, length}
use Rattle.jvm_meaning.specs.Types.{type_behind}
use Rattle.jvm_meaning.proofs.types.field_type.Given as goal

abbrev pub invariant-loop-first : goal.invariant-loop-first
invariant-loop-first l = type_behind l.most l.depth l.rest ≡ type_behind l.most 0 l.letters

abbrev pub decreases-loop-first : goal.decreases-loop-first
decreases-loop-first l = length l.rest
