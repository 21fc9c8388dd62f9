-- Values of local variables and operands (JVM Specification SE 8, sections 2.3, 2.4 and 2.6).
use Rattle.std.specs.Prelude.{ℕ, ◌+◌, Bool, true, false, List, [], ◌∷◌, Option, option_map}
use Rattle.axe_io.specs.declared.parameters.Kind.{Kind}
use Rattle.axe_io.specs.declared.parameters.Kind.TheVariants as kind
use Rattle.bv_words.specs.Words.{chop, sx}
use Rattle.jvm_state.specs.declared.value.Value.{Value}
use Rattle.jvm_state.specs.declared.value.Value.TheVariants.{Int, Long, Null, Array}
use Rattle.jvm_state.specs.declared.sorts.Sort.{Sort}
use Rattle.jvm_state.specs.declared.sorts.Sort.TheVariants as sort
use Rattle.jvm_state.specs.declared.sorts.Width.{Width}
use Rattle.jvm_state.specs.declared.sorts.Width.TheVariants as width

-- a long takes two slots of a stack and two local variables, every other value one
abbrev pub slots_of : {I L : Type 0} → Value I L → ℕ
slots_of (Int n) = 1
slots_of (Long n) = 2
slots_of Null = 1
slots_of (Array k) = 1

-- how deep a stack is, in slots
abbrev pub depth_of : {I L : Type 0} → List (Value I L) → ℕ
depth_of [] = 0
depth_of (v ∷ vs) = slots_of v + depth_of vs

-- whether a value is an int, a long, or a reference
abbrev pub is_of : {I L : Type 0} → Sort → Value I L → Bool
is_of sort.Int (Int n) = true
is_of sort.Long (Long n) = true
is_of sort.Reference Null = true
is_of sort.Reference (Array k) = true
is_of _ _ = false

-- what a value is told apart by: int, long, or reference; nothing of a local variable that holds nothing
abbrev pub sort_of : {I L : Type 0} → Value I L → Sort
sort_of (Int n) = sort.Int
sort_of (Long n) = sort.Long
sort_of Null = sort.Reference
sort_of (Array k) = sort.Reference

abbrev pub sort_held : {I L : Type 0} → Option (Value I L) → Option Sort
sort_held held = option_map sort_of held

-- the bits of an int and of a long
abbrev pub bits_in : Width → ℕ
bits_in width.Int = 32
bits_in width.Long = 64

-- the value of a word
abbrev pub value_of : {W : Type 0} → Width → W → Value W W
value_of width.Int n = Int n
value_of width.Long n = Long n

-- the int of a kind: narrowed to it, and extended again, a char with zeros
abbrev pub narrowed : Kind → ℕ → ℕ
narrowed kind.Byte x = sx 32 8 (chop 8 x)
narrowed kind.Char x = chop 16 x
narrowed kind.Short x = sx 32 16 (chop 16 x)
narrowed kind.Int x = x
narrowed kind.Long x = x
