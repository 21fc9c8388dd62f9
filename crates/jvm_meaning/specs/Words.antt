-- Arithmetic on ints and longs (JVM Specification SE 8, section 6.5).
use Rattle.std.specs.Prelude.{ℕ, ◌+◌, ◌-◌, ◌%◌, ◌==◌, not, if◌then◌else◌, Bool, slice_get, slice_set, Some, ℤ, Ok, bit_and, bit_or, bit_xor}
use Rattle.std.specs.Int.{w32, cast_unsigned}
use Rattle.bv_words.specs.Words.{chop, plus, times, neg, sx, slice, shl, shr, slt, rotate_left, sdiv, srem}
use Rattle.jvm_meaning.specs.Numbers.{Operands, Locals}
use Rattle.jvm_state.specs.declared.value.Value.TheVariants.{Int, Long}
use Rattle.axe_io.specs.declared.parameters.Kind.{Kind}
use Rattle.jvm_state.specs.declared.sorts.Sort.TheVariants as sort
use Rattle.jvm_state.specs.declared.sorts.Width.{Width}
use Rattle.jvm_state.specs.declared.sorts.Width.TheVariants as width
use Rattle.jvm_meaning.specs.declared.operation.Binary.{Binary}
use Rattle.jvm_meaning.specs.declared.operation.Binary.TheVariants.{Add, Subtract, Multiply, And, Or, Xor}
use Rattle.jvm_meaning.specs.declared.operation.Division.{Division}
use Rattle.jvm_meaning.specs.declared.operation.Division.TheVariants.{Quotient, Remainder}
use Rattle.jvm_state.specs.declared.value.Throw.TheVariants.{Arithmetic}
use Rattle.jvm_state.specs.declared.stop.Stop.TheVariants.{Throws}
use Rattle.jvm_meaning.specs.declared.operation.Shift.{Shift}
use Rattle.jvm_meaning.specs.declared.operation.Shift.TheVariants.{Left, Right, UnsignedRight}
use Rattle.jvm_meaning.specs.declared.operation.Turn.{Turn}
use Rattle.jvm_meaning.specs.declared.operation.Turn.TheVariants as turn
use Rattle.jvm_meaning.specs.declared.operation.Test.{Test}
use Rattle.jvm_meaning.specs.declared.operation.Test.TheVariants.{Equal, NotEqual, Less, NotLess, Greater, NotGreater}
use Rattle.jvm_state.specs.Values.{bits_in, value_of, narrowed}
use Rattle.jvm_state.specs.Stops.{Part, ◌>>=◌, check}
use Rattle.jvm_state.specs.Stacks.{push, pop_word, pop_int}
use Rattle.jvm_state.specs.Frames.{inside, int_held}

-- add, sub, mul, and, or, xor, of words of so many bits, modulo 2^bits
abbrev pub binary_word : Binary → ℕ → ℕ → ℕ → ℕ
binary_word Add bits x y = plus bits x y
binary_word Subtract bits x y = plus bits x (neg bits y)
binary_word Multiply bits x y = times bits x y
binary_word And bits x y = bit_and x y
binary_word Or bits x y = bit_or x y
binary_word Xor bits x y = bit_xor x y

-- iadd, ladd, isub, lsub, imul, lmul, iand, land, ior, lor, ixor, lxor: the first operand stands beneath the second
abbrev pub binary : Binary → Width → ℕ → Operands → Part Operands
binary operation width depth stack = do
  second ← pop_word width stack
  first ← pop_word width second.1
  push depth (value_of width (binary_word operation (bits_in width) first.0 second.0)) first.1

-- the quotient is cut towards zero, and that of the least number and minus one wraps; the remainder has the sign of x
abbrev pub divided : Division → ℕ → ℕ → ℕ → ℕ
divided Quotient bits x y = sdiv bits x y
divided Remainder bits x y = srem bits x y

-- idiv, ldiv, irem, lrem: a divisor of 0 throws
abbrev pub divide : Division → Width → ℕ → Operands → Part Operands
divide division width depth stack = do
  second ← pop_word width stack
  first ← pop_word width second.1
  not_zero ← check (not (second.0 == 0)) (Throws Arithmetic)
  push depth (value_of width (divided division (bits_in width) first.0 second.0)) first.1

-- ineg, lneg
abbrev pub negate : Width → ℕ → Operands → Part Operands
negate width depth stack = do
  word ← pop_word width stack
  push depth (value_of width (neg (bits_in width) word.0)) word.1

-- shl; shr, which keeps the sign: the bits from the amount up, with the sign extended; ushr
abbrev pub shifted : Shift → ℕ → ℕ → ℕ → ℕ
shifted Left bits x amount = shl bits x amount
shifted Right bits x amount = sx bits (bits - 1 - amount + 1) (slice (bits - 1) amount x)
shifted UnsignedRight bits x amount = shr bits x amount

-- ishl, lshl, ishr, lshr, iushr, lushr: of the amount, an int, the low 5 or 6 bits count
abbrev pub shift : Shift → Width → ℕ → Operands → Part Operands
shift direction width depth stack = do
  amount ← pop_int stack
  word ← pop_word width amount.1
  push depth (value_of width (shifted direction (bits_in width) word.0 (amount.0 % bits_in width))) word.1

-- Integer.rotateLeft and rotateRight, and those of Long: the amount counts modulo the bits
abbrev pub turned : Turn → ℕ → ℕ → ℕ → ℕ
turned turn.Left bits x amount = rotate_left bits amount x
turned turn.Right bits x amount = rotate_left bits (bits - amount) x

abbrev pub rotate : Turn → Width → ℕ → Operands → Part Operands
rotate direction width depth stack = do
  amount ← pop_int stack
  word ← pop_word width amount.1
  push depth (value_of width (turned direction (bits_in width) word.0 (amount.0 % bits_in width))) word.1

-- i2l
abbrev pub to_long : ℕ → Operands → Part Operands
to_long depth stack = do
  word ← pop_int stack
  push depth (Long (sx 64 32 word.0)) word.1

-- l2i
abbrev pub to_int : ℕ → Operands → Part Operands
to_int depth stack = do
  word ← pop_word width.Long stack
  push depth (Int (chop 32 word.0)) word.1

-- i2b, i2c, i2s
abbrev pub narrow : Kind → ℕ → Operands → Part Operands
narrow kind depth stack = do
  word ← pop_int stack
  push depth (Int (narrowed kind word.0)) word.1

-- -1, 0 or 1, as a word of 32 bits
abbrev pub order_of : ℕ → ℕ → ℕ
order_of x y = if slt 64 x y then 4294967295 else if x == y then 0 else 1

-- lcmp
abbrev pub compare : ℕ → Operands → Part Operands
compare depth stack = do
  second ← pop_word width.Long stack
  first ← pop_word width.Long second.1
  push depth (Int (order_of first.0 second.0)) first.1

-- eq, ne, lt, ge, gt, le, of signed ints
abbrev pub holds : Test → ℕ → ℕ → Bool
holds Equal x y = x == y
holds NotEqual x y = not (x == y)
holds Less x y = slt 32 x y
holds NotLess x y = not (slt 32 x y)
holds Greater x y = slt 32 y x
holds NotGreater x y = not (slt 32 y x)

-- iinc
abbrev pub increment : ℕ → ℤ → Locals → Part Locals
increment k amount locals = do
  ok ← inside sort.Int k locals
  n ← int_held (slice_get locals k)
  Ok (slice_set locals k (Some (Int (plus 32 n (cast_unsigned w32 amount)))))
