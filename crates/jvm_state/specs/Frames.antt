-- Local variables (JVM Specification SE 8, section 2.6.1), of which some hold nothing. A long stands at the first of
-- its two, and the second holds nothing.
use Rattle.std.specs.Prelude.{ℕ, zero, suc, ◌+◌, nat_lt, if◌then◌else◌, List, length, Option, Some, None, slice_get, slice_set, Ok}
use Rattle.jvm_state.specs.declared.value.Value.{Value}
use Rattle.jvm_state.specs.declared.value.Value.TheVariants.{Int, Long}
use Rattle.jvm_state.specs.declared.value.Reason.TheVariants.{WrongOperand, BadCode}
use Rattle.jvm_state.specs.declared.stop.Stop.TheVariants.{Refused}
use Rattle.jvm_state.specs.declared.sorts.Sort.{Sort}
use Rattle.jvm_state.specs.declared.sorts.Sort.TheVariants as sort
use Rattle.jvm_state.specs.Values.{is_of}
use Rattle.jvm_state.specs.Stops.{Part, ◌>>=◌, refused, check}
use Rattle.jvm_state.specs.Stacks.{Operands, push, pop_sort}

abbrev pub Locals : Type 0 → Type 0 → Type 0
Locals I L = List (Option (Value I L))

-- the last of the local variables that a value of a sort takes
abbrev pub last_local : Sort → ℕ → ℕ
last_local sort.Int k = k
last_local sort.Long k = k + 1
last_local sort.Reference k = k

-- both halves of a long have to be inside
abbrev pub inside : {I L : Type 0} → Sort → ℕ → Locals I L → Part (Unit {0})
inside sort k locals = check (nat_lt (last_local sort k) (length locals)) (Refused BadCode)

-- what a local variable holds, if it is of a sort
abbrev pub held : {I L : Type 0} → Sort → Option (Option (Value I L)) → Part (Value I L)
held sort (Some (Some v)) = if is_of sort v then Ok v else refused WrongOperand
held sort _ = refused WrongOperand

-- iload, lload, aload
abbrev pub load : {I L : Type 0} → Sort → ℕ → ℕ → Locals I L → Operands I L → Part (Operands I L)
load sort k depth locals stack = do
  ok ← inside sort k locals
  value ← held sort (slice_get locals k)
  push depth value stack

-- a long whose second half is this local variable, emptied
abbrev pub emptied : {I L : Type 0} → ℕ → Option (Option (Value I L)) → Locals I L → Locals I L
emptied j (Some (Some (Long n))) locals = slice_set locals j None
emptied j _ locals = locals

abbrev pub cut : {I L : Type 0} → ℕ → Locals I L → Locals I L
cut zero locals = locals
cut (suc j) locals = emptied j (slice_get locals j) locals

-- the second half of a long holds nothing
abbrev pub with_half : {I L : Type 0} → Value I L → ℕ → Locals I L → Locals I L
with_half (Long n) k locals = slice_set locals (k + 1) None
with_half _ k locals = locals

-- a value in a local variable; half a long that is overwritten empties the other half
abbrev pub put : {I L : Type 0} → Value I L → ℕ → Locals I L → Locals I L
put v k locals = with_half v k (slice_set (cut k locals) k (Some v))

-- istore, lstore, astore
abbrev pub store : {I L : Type 0} → Sort → ℕ → Locals I L → Operands I L → Part (Locals I L × Operands I L)
store sort k locals stack = do
  top ← pop_sort sort stack
  ok ← inside sort k locals
  Ok (put top.0 k locals, top.1)

abbrev pub int_held : {I L : Type 0} → Option (Option (Value I L)) → Part I
int_held (Some (Some (Int n))) = Ok n
int_held _ = refused WrongOperand
