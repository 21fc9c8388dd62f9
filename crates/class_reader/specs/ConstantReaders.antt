-- Reading the constant pool (4.4).
use Rattle.std.specs.Prelude.{ℕ, ◌-◌, ◌==◌, nat_lt, if◌then◌else◌, Bool, true, false, [], ◌∷◌, ◌++◌, Option, Some, None}
use Rattle.std.specs.Int.{w32, w64, cast_signed}
use Rattle.class_file.specs.declared.error.ClassError.{ClassError}
use Rattle.class_file.specs.declared.error.ClassError.TheVariants.{Truncated, BadTag, BadLength}
use Rattle.class_file.specs.declared.class.Constant.{Constant}
use Rattle.class_file.specs.declared.class.Constant.TheVariants.{Utf8, Integer, Float, Long, Double, Class, Str, Fieldref, Methodref, InterfaceMethodref, NameAndType, MethodHandle, MethodType, InvokeDynamic}
use Rattle.class_reader.specs.Numbers.{u1, u2, u4, u8}
use Rattle.class_file.specs.Pools.{Pool}
use Rattle.class_reader.specs.References.{references}
use Rattle.reading.specs.Readers.{Reader, ◌>>=◌, done, fail, requires_that, bytes, located, checked, turns}

unfoldable pub utf8_at : ℕ → Reader ClassError Constant
utf8_at end = do
  len ← u2 end
  text ← bytes len (Truncated end)
  done (Utf8 text)

unfoldable pub word_at : (ℕ → Constant) → ℕ → Reader ClassError Constant
word_at kind end = u4 end >>= λ bits. done (kind bits)

-- one that takes two numbers, where so many are left behind its first
unfoldable pub wide_bits_at : ℕ → ℕ → ℕ → Reader ClassError ℕ
wide_bits_at end left at = do
  has_second ← requires_that (nat_lt 0 left) (BadLength at)
  u8 end

unfoldable pub wide_at : (ℕ → Constant) → ℕ → ℕ → ℕ → Reader ClassError Constant
wide_at kind end left at = wide_bits_at end left at >>= λ bits. done (kind bits)

unfoldable pub index_at : (ℕ → Constant) → ℕ → Reader ClassError Constant
index_at kind end = u2 end >>= λ index. done (kind index)

unfoldable pub two_at : ℕ → Reader ClassError (ℕ × ℕ)
two_at end = do
  first ← u2 end
  second ← u2 end
  done (first, second)

unfoldable pub pair_at : (ℕ → ℕ → Constant) → ℕ → Reader ClassError Constant
pair_at kind end = two_at end >>= λ numbers. done (kind numbers.0 numbers.1)

unfoldable pub handle_at : ℕ → Reader ClassError Constant
handle_at end = do
  kind ← u1 end
  index ← u2 end
  done (MethodHandle kind index)

-- what stands behind a tag at an offset
unfoldable pub content_at : ℕ → ℕ → ℕ → ℕ → Reader ClassError Constant
content_at end left at tag =
    if tag == 1 then utf8_at end else (
    if tag == 3 then word_at (λ bits. Integer (cast_signed w32 bits)) end else (
    if tag == 4 then word_at Float end else (
    if tag == 5 then wide_at (λ bits. Long (cast_signed w64 bits)) end left at else (
    if tag == 6 then wide_at Double end left at else (
    if tag == 7 then index_at Class end else (
    if tag == 8 then index_at Str end else (
    if tag == 9 then pair_at Fieldref end else (
    if tag == 10 then pair_at Methodref end else (
    if tag == 11 then pair_at InterfaceMethodref end else (
    if tag == 12 then pair_at NameAndType end else (
    if tag == 15 then handle_at end else (
    if tag == 16 then index_at MethodType end else (
    if tag == 18 then pair_at InvokeDynamic end else
    fail (BadTag at tag))))))))))))))

abbrev pub constant_from : ℕ → ℕ → ℕ → Reader ClassError Constant
constant_from end left at = u1 end >>= λ tag. content_at end left at tag

-- an entry, where so many numbers are left behind it
unfoldable pub constant_at : ℕ → ℕ → Reader ClassError Constant
constant_at end left = located end (constant_from end left)

-- the next slot of the pool, which may be the second number of the entry before it
unfoldable pub slot_at : ℕ → Bool → ℕ → Reader ClassError (Option Constant)
slot_at end second left = if second then done None else (constant_at end left >>= λ entry. done (Some entry))

-- whether the next number is the second of this entry
abbrev pub takes_two : Option Constant → Bool
takes_two (Some (Long value)) = true
takes_two (Some (Double bits)) = true
takes_two _ = false

-- The slots so far, and whether the next is the second number of the last of them.
abbrev pub slot_turn : ℕ → ℕ → Pool × Bool → Reader ClassError (Pool × Bool)
slot_turn end left state = slot_at end state.1 left >>= λ slot. done (state.0 ++ slot ∷ [], takes_two slot)

unfoldable pub slots_at : ℕ → ℕ → Reader ClassError Pool
slots_at end count = turns (slot_turn end) count ([], false) >>= λ state. done state.0

-- the pool of a count, which is one more than its slots
unfoldable pub pool_at : ℕ → ℕ → Reader ClassError Pool
pool_at end count = checked (slots_at end (count - 1)) (λ pool start. references end pool pool start)
