-- What a class's constant pool says of an instruction's operand (JVM Specification SE 8, sections 4.4 and 5.1).
use Rattle.std.specs.Prelude.{ℕ, Bool, false, List, Option, Some, None, option_and_then}
use Rattle.std.specs.Str.{bytes_eq}
use Rattle.std.specs.Int.{w32, w64, cast_unsigned}
use Rattle.class_file.specs.Contents.{Contents}
use Rattle.class_file.specs.Pools.{Pool, constant_of, text_of}
use Rattle.class_file.specs.declared.class.Constant.{Constant}
use Rattle.class_file.specs.declared.class.Constant.TheVariants.{Integer, Long, Class, Fieldref, Methodref, NameAndType}
use Rattle.jvm_meaning.specs.declared.constants.Member.{Member as Named}
use Rattle.jvm_state.specs.declared.value.Value.{Value}
use Rattle.jvm_state.specs.declared.value.Value.TheVariants as value
use Rattle.jvm_state.specs.declared.value.Reason.TheVariants.{OutsideProfile}
use Rattle.jvm_state.specs.declared.stop.Stop.TheVariants.{Refused}
use Rattle.jvm_state.specs.declared.sorts.Width.{Width}
use Rattle.jvm_state.specs.declared.sorts.Width.TheVariants as width
use Rattle.jvm_state.specs.declared.types.ArrayType.{ArrayType}
use Rattle.jvm_state.specs.declared.types.FieldType.{FieldType}
use Rattle.jvm_state.specs.declared.types.FieldType.TheVariants.{Array}
use Rattle.jvm_meaning.specs.Types.{deepest, field_type}
use Rattle.jvm_state.specs.Stops.{Part, ◌>>=◌, found}
use Rattle.jvm_state.specs.Stacks.{Operands, push}

-- an Integer as an int, or a Long as a long
abbrev pub number_in : Width → Option Constant → Option (Value ℕ ℕ)
number_in width.Int (Some (Integer n)) = Some (value.Int (cast_unsigned w32 n))
number_in width.Long (Some (Long n)) = Some (value.Long (cast_unsigned w64 n))
number_in _ _ = None

-- ldc, ldc_w: an Integer; ldc2_w: a Long
abbrev pub load_constant : ℕ → Width → ℕ → Contents → ℕ → Operands ℕ ℕ → Part (Operands ℕ ℕ)
load_constant op width number class depth stack = do
  value ← found (number_in width (constant_of class.pool number)) (Refused (OutsideProfile op))
  push depth value stack

-- the name that a Class entry has
abbrev pub named_by : Pool → Option Constant → Option (List ℕ)
named_by pool (Some (Class name)) = text_of pool name
named_by pool _ = None

abbrev pub class_name : Contents → ℕ → Option (List ℕ)
class_name class number = named_by class.pool (constant_of class.pool number)

-- the array type that a Class entry names
abbrev pub as_array : Option FieldType → Option ArrayType
as_array (Some (Array type)) = Some type
as_array _ = None

abbrev pub array_class : Contents → ℕ → Option ArrayType
array_class class number = option_and_then (λ name. as_array (field_type deepest name)) (class_name class number)

-- a field or method: the name of its class, its own name, and its descriptor
pub record Member : Type 0 where
  pub owner : List ℕ
  pub name : List ℕ
  pub desc : List ℕ

abbrev pub member_seen : Named → Member
member_seen m = record { owner = m.owner.now; name = m.name.now; desc = m.desc.now }

abbrev pub with_texts : List ℕ → Option (List ℕ) → Option (List ℕ) → Option Member
with_texts owner (Some name) (Some desc) = Some (record { owner = owner; name = name; desc = desc })
with_texts _ _ _ = None

abbrev pub described : Pool → List ℕ → Option Constant → Option Member
described pool owner (Some (NameAndType name desc)) = with_texts owner (text_of pool name) (text_of pool desc)
described pool owner _ = None

abbrev pub member_of : Contents → ℕ → ℕ → Option Member
member_of class owner names = option_and_then (λ o. described class.pool o (constant_of class.pool names)) (class_name class owner)

-- the field of a Fieldref, the method of a Methodref
abbrev pub field_in : Contents → Option Constant → Option Member
field_in class (Some (Fieldref owner names)) = member_of class owner names
field_in class _ = None

abbrev pub field_named : Contents → ℕ → Option Member
field_named class number = field_in class (constant_of class.pool number)

abbrev pub method_in : Contents → Option Constant → Option Member
method_in class (Some (Methodref owner names)) = member_of class owner names
method_in class _ = None

abbrev pub method_named : Contents → ℕ → Option Member
method_named class number = method_in class (constant_of class.pool number)

-- whether a name is that of this class
abbrev pub is_name : List ℕ → Option (List ℕ) → Bool
is_name name None = false
is_name name (Some other) = bytes_eq other name

abbrev pub is_own : Contents → List ℕ → Bool
is_own class name = is_name name (class_name class class.this_class)
