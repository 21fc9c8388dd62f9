-- Where an instruction goes on (JVM Specification SE 8, section 6.5). An offset counts from the branch's opcode.
use Rattle.std.specs.Prelude.{ℕ, ◌+◌, ◌==◌, if◌then◌else◌, Bool, true, false, ◌&&◌, not, ℤ, pos, ◌+ℤ◌, int_le, int_lt, unsigned_abs, length, Option, Some, None, is_some, is_none, Ok, Err}
use Rattle.class_file.specs.declared.class.Code.{Code}
use Rattle.jvm_state.specs.declared.stop.Stop.TheVariants.{Refused}
use Rattle.jvm_state.specs.declared.value.Reason.TheVariants.{BadCode}
use Rattle.jvm_meaning.specs.declared.branches.Branch.{Branch}
use Rattle.jvm_meaning.specs.declared.operation.Condition.{Condition}
use Rattle.jvm_meaning.specs.declared.operation.Condition.TheVariants.{IfZero, IfInts}
use Rattle.jvm_meaning.specs.declared.operation.ReferenceTest.{ReferenceTest}
use Rattle.jvm_meaning.specs.declared.operation.ReferenceTest.TheVariants.{Same, NotSame, Null, NotNull}
use Rattle.jvm_meaning.specs.Words.{holds}
use Rattle.jvm_state.specs.Stops.{Part, ◌>>=◌, found}
use Rattle.jvm_state.specs.Stacks.{Operands, pop_int, pop_reference}

abbrev pub branch_in : Code → ℤ → ℕ → ℕ → Branch
branch_in code offset size pc = record { pc = pc; size = size; offset = offset; length = length code.bytes }

abbrev pub target : ℕ → ℤ → Option ℕ
target length place = if int_le (pos 0) place && int_lt place (pos length) then Some (unsigned_abs place) else None

-- the place that a branch leads to, which has to be in the code
abbrev pub jump : Branch → Option ℕ
jump b = target b.length (pos b.pc +ℤ b.offset)

-- the place is looked at only where the branch is taken
abbrev pub taken_if : Bool → Branch → Part ℕ
taken_if true b = found (jump b) (Refused BadCode)
taken_if false b = Ok (b.pc + b.size)

abbrev pub with_stack : {I L : Type 0} → Operands I L → Part ℕ → Part (ℕ × Operands I L)
with_stack stack (Ok pc) = Ok (pc, stack)
with_stack stack (Err stop) = Err stop

-- two references are the same: both null, or to one array
abbrev pub are_same : Option ℕ → Option ℕ → Bool
are_same None None = true
are_same (Some j) (Some k) = j == k
are_same _ _ = false

-- whether the two references at the top are the same
abbrev pub pop_same : {I L : Type 0} → Operands I L → Part (Bool × Operands I L)
pop_same stack = do
  second ← pop_reference stack
  first ← pop_reference second.1
  Ok (are_same first.0 second.0, first.1)

-- whether a test of the references at the top holds
abbrev pub tested : {I L : Type 0} → ReferenceTest → Operands I L → Part (Bool × Operands I L)
tested Same stack = pop_same stack
tested NotSame stack = do
  same ← pop_same stack
  Ok (not same.0, same.1)
tested Null stack = do
  x ← pop_reference stack
  Ok (is_none x.0, x.1)
tested NotNull stack = do
  x ← pop_reference stack
  Ok (is_some x.0, x.1)

-- if_acmpeq, if_acmpne, ifnull, ifnonnull
abbrev pub branched : {I L : Type 0} → ReferenceTest → Branch → Operands I L → Part (ℕ × Operands I L)
branched test b stack = do
  holds ← tested test stack
  with_stack holds.1 (taken_if holds.0 b)

-- ifeq, ifne, iflt, ifge, ifgt, ifle
-- if_icmpeq, if_icmpne, if_icmplt, if_icmpge, if_icmpgt, if_icmple
abbrev pub next_place : Condition → Branch → Operands ℕ ℕ → Part (ℕ × Operands ℕ ℕ)
next_place (IfZero test) b stack = do
  x ← pop_int stack
  with_stack x.1 (taken_if (holds test x.0 0) b)
next_place (IfInts test) b stack = do
  second ← pop_int stack
  first ← pop_int second.1
  with_stack first.1 (taken_if (holds test first.0 second.0) b)
