-- The constant pool by numbers, which count from 1.
use Rattle.std.specs.Prelude.{ℕ, zero, suc, Bool, true, false, List, Option, Some, None, is_some, slice_get}
use Rattle.class_file.specs.declared.class.Constant.{Constant}
use Rattle.class_file.specs.declared.class.Constant.TheVariants.{Utf8, Integer, Float, Long, Double, Class, Str, NameAndType}

abbrev pub Pool : Type 0
Pool = List (Option Constant)

abbrev pub entry_in : Option (Option Constant) → Option Constant
entry_in (Some entry) = entry
entry_in None = None

-- the entry of a number; none at 0, past the pool, and at the second number of a long or double
abbrev pub constant_of : Pool → ℕ → Option Constant
constant_of pool zero = None
constant_of pool (suc k) = entry_in (slice_get pool k)

abbrev pub text_in : Option Constant → Option (List ℕ)
text_in (Some (Utf8 text)) = Some text
text_in _ = None

-- the bytes of a Utf8
abbrev pub text_of : Pool → ℕ → Option (List ℕ)
text_of pool number = text_in (constant_of pool number)

abbrev pub is_utf8 : Pool → ℕ → Bool
is_utf8 pool number = is_some (text_of pool number)

abbrev pub holds_class : Option Constant → Bool
holds_class (Some (Class name)) = true
holds_class _ = false

abbrev pub is_class : Pool → ℕ → Bool
is_class pool number = holds_class (constant_of pool number)

abbrev pub holds_name_and_type : Option Constant → Bool
holds_name_and_type (Some (NameAndType name desc)) = true
holds_name_and_type _ = false

abbrev pub is_name_and_type : Pool → ℕ → Bool
is_name_and_type pool number = holds_name_and_type (constant_of pool number)

abbrev pub holds_value : Option Constant → Bool
holds_value (Some (Integer value)) = true
holds_value (Some (Float bits)) = true
holds_value (Some (Long value)) = true
holds_value (Some (Double bits)) = true
holds_value (Some (Str text)) = true
holds_value _ = false

-- what a ConstantValue may name (JVM Specification SE 8, 4.7.2)
abbrev pub is_value : Pool → ℕ → Bool
is_value pool number = holds_value (constant_of pool number)
