-- How the constant pool is spelled (4.4).
use Rattle.std.specs.Prelude.{ℕ, ◌-◌, ◌==◌, nat_lt, Bool, false, [], ◌∷◌, ◌++◌, Option, Some, None}
use Rattle.std.specs.Int.{w32, w64, cast_signed}
use Rattle.class_file.specs.declared.class.Constant.{Constant}
use Rattle.class_file.specs.declared.class.Constant.TheVariants.{Utf8, Integer, Float, Long, Double, Class, Str, Fieldref, Methodref, InterfaceMethodref, NameAndType, MethodHandle, MethodType, InvokeDynamic}
use Rattle.class_reader.specs.Numbers.{u2_text, u4_text, u8_text}
use Rattle.class_file.specs.Pools.{Pool}
use Rattle.class_reader.specs.References.{all_refer}
use Rattle.class_reader.specs.ConstantReaders.{takes_two}
use Rattle.reading.specs.Grammars.{Grammar, ◌>>=◌, done, nothing, test, byte, bytes, either, such_that, turns}

abbrev pub utf8_text : Grammar Constant
utf8_text = do
  len ← u2_text
  text ← bytes len
  done (Utf8 text)

abbrev pub word_text : (ℕ → Constant) → Grammar Constant
word_text kind = u4_text >>= λ bits. done (kind bits)

-- one that takes two numbers, where so many are left behind its first
abbrev pub wide_bits_text : ℕ → Grammar ℕ
wide_bits_text left = do
  has_second ← test (nat_lt 0 left)
  u8_text

abbrev pub wide_text : (ℕ → Constant) → ℕ → Grammar Constant
wide_text kind left = wide_bits_text left >>= λ bits. done (kind bits)

abbrev pub index_text : (ℕ → Constant) → Grammar Constant
index_text kind = u2_text >>= λ index. done (kind index)

abbrev pub two_text : Grammar (ℕ × ℕ)
two_text = do
  first ← u2_text
  second ← u2_text
  done (first, second)

abbrev pub pair_text : (ℕ → ℕ → Constant) → Grammar Constant
pair_text kind = two_text >>= λ numbers. done (kind numbers.0 numbers.1)

abbrev pub handle_text : Grammar Constant
handle_text = do
  kind ← byte
  index ← u2_text
  done (MethodHandle kind index)

-- what stands behind a tag
abbrev pub content_text : ℕ → ℕ → Grammar Constant
content_text left tag =
    either (tag == 1) utf8_text (
    either (tag == 3) (word_text (λ bits. Integer (cast_signed w32 bits))) (
    either (tag == 4) (word_text Float) (
    either (tag == 5) (wide_text (λ bits. Long (cast_signed w64 bits)) left) (
    either (tag == 6) (wide_text Double left) (
    either (tag == 7) (index_text Class) (
    either (tag == 8) (index_text Str) (
    either (tag == 9) (pair_text Fieldref) (
    either (tag == 10) (pair_text Methodref) (
    either (tag == 11) (pair_text InterfaceMethodref) (
    either (tag == 12) (pair_text NameAndType) (
    either (tag == 15) handle_text (
    either (tag == 16) (index_text MethodType) (
    either (tag == 18) (pair_text InvokeDynamic)
    nothing)))))))))))))

-- an entry, where so many numbers are left behind it
abbrev pub constant_text : ℕ → Grammar Constant
constant_text left = byte >>= λ tag. content_text left tag

-- the next slot of the pool, which may be the second number of the entry before it
abbrev pub slot_text : Bool → ℕ → Grammar (Option Constant)
slot_text second left = either second (done None) (constant_text left >>= λ entry. done (Some entry))

-- the slots so far, and whether the next is the second number of the last of them
abbrev pub slot_turn_text : ℕ → Pool × Bool → Grammar (Pool × Bool)
slot_turn_text left state = slot_text state.1 left >>= λ slot. done (state.0 ++ slot ∷ [], takes_two slot)

abbrev pub slots_text : ℕ → Grammar Pool
slots_text count = turns slot_turn_text count ([], false) >>= λ state. done state.0

-- the pool of a count, which is one more than its slots; each reference is to an entry of its kind
abbrev pub pool_text : ℕ → Grammar Pool
pool_text count = such_that (slots_text (count - 1)) (λ pool. all_refer pool pool)
