-- What an operand of the evaluator stands for.
use Rattle.spec_meaning.specs.declared.value.Value.{Value}
use Rattle.spec_meaning.specs.declared.value.Value.TheVariants as value
use Rattle.spec_meaning.specs.declared.operand.Held.{Held}
use Rattle.spec_meaning.specs.declared.operand.Held.TheVariants as held

abbrev pub value_of : Held → Value
value_of (held.Number z) = value.Number z
value_of held.T = value.T
value_of (held.Lent zs) = value.List zs.now
value_of (held.Shared zs) = value.List zs.value
