-- Operand stacks, seen from the top (JVM Specification SE 8, section 2.6.2).
use Rattle.std.specs.Prelude.{ℕ, nat_le, if◌then◌else◌, List, [], ◌∷◌, Option, Some, None, Ok}
use Rattle.jvm_state.specs.declared.value.Value.{Value}
use Rattle.jvm_state.specs.declared.value.Value.TheVariants.{Int, Long, Null, Array}
use Rattle.jvm_state.specs.declared.value.Reason.TheVariants.{WrongOperand, BadCode}
use Rattle.jvm_state.specs.declared.sorts.Sort.{Sort}
use Rattle.jvm_state.specs.declared.sorts.Width.{Width}
use Rattle.jvm_state.specs.declared.sorts.Width.TheVariants as width
use Rattle.jvm_state.specs.declared.block.Block.{Block}
use Rattle.jvm_state.specs.declared.block.Block.TheVariants.{NoValue, OneValue, TwoValues}
use Rattle.jvm_state.specs.declared.block.Span.{Span}
use Rattle.jvm_state.specs.declared.block.Span.TheVariants.{NoSlot, OneSlot, TwoSlots}
use Rattle.jvm_state.specs.Values.{depth_of, is_of}
use Rattle.jvm_state.specs.Stops.{Part, ◌>>=◌, refused}

abbrev pub Operands : Type 0 → Type 0 → Type 0
Operands I L = List (Value I L)

-- a value more, where the stack stays within its depth
abbrev pub push : {I L : Type 0} → ℕ → Value I L → Operands I L → Part (Operands I L)
push depth value stack = if nat_le (depth_of (value ∷ stack)) depth then Ok (value ∷ stack) else refused BadCode

-- the value at the top, and the stack under it
abbrev pub pop : {I L : Type 0} → Operands I L → Part (Value I L × Operands I L)
pop [] = refused WrongOperand
pop (v ∷ vs) = Ok (v, vs)

abbrev pub of_sort : {I L : Type 0} → Sort → Value I L → Operands I L → Part (Value I L × Operands I L)
of_sort sort v vs = if is_of sort v then Ok (v, vs) else refused WrongOperand

abbrev pub pop_sort : {I L : Type 0} → Sort → Operands I L → Part (Value I L × Operands I L)
pop_sort sort [] = refused WrongOperand
pop_sort sort (v ∷ vs) = of_sort sort v vs

-- the word at the top
abbrev pub pop_word : {W : Type 0} → Width → Operands W W → Part (W × Operands W W)
pop_word width.Int (Int n ∷ vs) = Ok (n, vs)
pop_word width.Long (Long n ∷ vs) = Ok (n, vs)
pop_word _ _ = refused WrongOperand

abbrev pub pop_int : {I L : Type 0} → Operands I L → Part (I × Operands I L)
pop_int (Int n ∷ vs) = Ok (n, vs)
pop_int _ = refused WrongOperand

-- the reference at the top: the number of an array, or none where it is null
abbrev pub pop_reference : {I L : Type 0} → Operands I L → Part (Option ℕ × Operands I L)
pop_reference (Null ∷ vs) = Ok (None, vs)
pop_reference (Array k ∷ vs) = Ok (Some k, vs)
pop_reference _ = refused WrongOperand

-- ---- 6.5, pop to swap: blocks of no slot, of one, and of two, which are one long or two other values

abbrev pub one_slot : {I L : Type 0} → Operands I L → Part (Block I L × Operands I L)
one_slot [] = refused WrongOperand
one_slot (Long n ∷ vs) = refused WrongOperand
one_slot (v ∷ vs) = Ok (OneValue v, vs)

abbrev pub second_slot : {I L : Type 0} → Value I L → Operands I L → Part (Block I L × Operands I L)
second_slot v [] = refused WrongOperand
second_slot v (Long n ∷ ws) = refused WrongOperand
second_slot v (w ∷ ws) = Ok (TwoValues v w, ws)

abbrev pub two_slots : {I L : Type 0} → Operands I L → Part (Block I L × Operands I L)
two_slots [] = refused WrongOperand
two_slots (Long n ∷ vs) = Ok (OneValue (Long n), vs)
two_slots (v ∷ vs) = second_slot v vs

abbrev pub pop_block : {I L : Type 0} → Span → Operands I L → Part (Block I L × Operands I L)
pop_block NoSlot stack = Ok (NoValue, stack)
pop_block OneSlot stack = one_slot stack
pop_block TwoSlots stack = two_slots stack

abbrev pub push_block : {I L : Type 0} → ℕ → Block I L → Operands I L → Part (Operands I L)
push_block depth NoValue stack = Ok stack
push_block depth (OneValue v) stack = push depth v stack
push_block depth (TwoValues v w) stack = push depth w stack >>= push depth v

-- pop, pop2
abbrev pub discard : {I L : Type 0} → Span → Operands I L → Part (Operands I L)
discard span stack = do
  block ← pop_block span stack
  Ok block.1

-- dup, dup_x1, dup_x2, dup2, dup2_x1, dup2_x2: the block at the top once more, under the block beneath it
abbrev pub duplicate : {I L : Type 0} → ℕ → Span → Span → Operands I L → Part (Operands I L)
duplicate depth top beneath stack = do
  first ← pop_block top stack
  second ← pop_block beneath first.1
  low ← push_block depth first.0 second.1
  middle ← push_block depth second.0 low
  push_block depth first.0 middle

-- swap
abbrev pub swap : {I L : Type 0} → ℕ → Operands I L → Part (Operands I L)
swap depth stack = do
  first ← one_slot stack
  second ← one_slot first.1
  low ← push_block depth first.0 second.1
  push_block depth second.0 low
