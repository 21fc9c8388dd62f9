-- The data of a run: numbers stand for ints, longs and elements.
use Rattle.std.specs.Prelude.{ℕ}
use Rattle.jvm_state.specs.declared.value.Value.{Value as AnyValue}
use Rattle.jvm_state.specs.declared.value.Seen.{Seen as AnySeen}
use Rattle.jvm_state.specs.declared.value.End.{End as AnyEnd}
use Rattle.jvm_state.specs.declared.arrays.Array.{Array as AnyArray}
use Rattle.jvm_state.specs.declared.heap.Heap.{Heap as AnyHeap}
use Rattle.jvm_state.specs.declared.frame.Frame.{Frame as AnyFrame}
use Rattle.jvm_state.specs.declared.state.State.{State as AnyState}
use Rattle.jvm_state.specs.declared.state.Waiting.{Waiting as AnyWaiting}
use Rattle.jvm_state.specs.Stacks.{Operands as AnyOperands}
use Rattle.jvm_state.specs.Frames.{Locals as AnyLocals}
use Rattle.jvm_state.specs.Arrays.{Arrays as AnyArrays}
use Rattle.jvm_meaning.specs.Steps.{Step as AnyStep}

abbrev pub Value : Type 0
Value = AnyValue ℕ ℕ

abbrev pub Operands : Type 0
Operands = AnyOperands ℕ ℕ

abbrev pub Locals : Type 0
Locals = AnyLocals ℕ ℕ

abbrev pub Frame : Type 0
Frame = AnyFrame ℕ ℕ

abbrev pub Array : Type 0
Array = AnyArray ℕ

abbrev pub Arrays : Type 0
Arrays = AnyArrays ℕ

abbrev pub Heap : Type 0
Heap = AnyHeap ℕ ℕ ℕ

abbrev pub Waiting : Type 0
Waiting = AnyWaiting ℕ ℕ

abbrev pub State : Type 0
State = AnyState ℕ ℕ ℕ

abbrev pub Seen : Type 0
Seen = AnySeen ℕ

abbrev pub End : Type 0
End = AnyEnd ℕ

abbrev pub Step : Type 0
Step = AnyStep ℕ ℕ ℕ ℕ
