-- Static fields (JVM Specification SE 8, sections 4.5, 4.7.2, 5.5 and 6.5).
use Rattle.std.specs.Prelude.{ℕ, if◌then◌else◌, Bool, true, false, List, map, slice_get, slice_set, Option, Some, None, position, option_and_then, option_map, Ok}
use Rattle.std.specs.Int.{w32, w64, cast_unsigned}
use Rattle.axe_io.specs.declared.parameters.Kind.TheVariants as kind
use Rattle.class_file.specs.Contents.{Contents}
use Rattle.class_file.specs.Members.{is_static, is_named}
use Rattle.class_file.specs.Pools.{Pool, constant_of}
use Rattle.class_file.specs.declared.class.Constant.{Constant}
use Rattle.class_file.specs.declared.class.Constant.TheVariants.{Integer, Long}
use Rattle.class_file.specs.declared.class.Field.{Field}
use Rattle.jvm_state.specs.declared.value.Value.{Value}
use Rattle.jvm_state.specs.declared.value.Value.TheVariants as value
use Rattle.jvm_state.specs.declared.value.Reason.TheVariants.{UnknownField, WrongOperand}
use Rattle.jvm_state.specs.declared.stop.Stop.TheVariants.{Refused}
use Rattle.jvm_state.specs.declared.types.FieldType.{FieldType}
use Rattle.jvm_state.specs.declared.types.FieldType.TheVariants.{Scalar, Array}
use Rattle.jvm_meaning.specs.declared.fields.Place.{Place}
use Rattle.jvm_state.specs.declared.heap.Heap.{Heap}
use Rattle.jvm_state.specs.Values.{narrowed}
use Rattle.jvm_meaning.specs.Types.{deepest, field_type}
use Rattle.jvm_state.specs.Arrays.{Arrays, refers_to}
use Rattle.jvm_meaning.specs.Constants.{Member, field_named, is_own}
use Rattle.jvm_state.specs.Stops.{Part, ◌>>=◌, refused, found}
use Rattle.jvm_state.specs.Stacks.{Operands, push, pop}

-- ---- values of a type

-- whether a value is of a type: an array is of its own type alone, and null of each array's
abbrev pub fits : {I L E : Type 0} → FieldType → Arrays E → Value I L → Bool
fits (Scalar kind.Long) arrays (value.Long n) = true
fits (Scalar kind.Long) arrays _ = false
fits (Scalar _) arrays (value.Int n) = true
fits (Scalar _) arrays _ = false
fits (Array type) arrays value.Null = true
fits (Array type) arrays (value.Array k) = refers_to type arrays (Some k)
fits (Array type) arrays _ = false

-- a value of a type as it is stored or returned: bytes, chars and shorts are narrowed, and extended again
abbrev pub stored : FieldType → Value ℕ ℕ → Value ℕ ℕ
stored (Scalar kind) (value.Int n) = value.Int (narrowed kind n)
stored _ v = v

-- the value of a type at the top
abbrev pub pop_typed : {I L E : Type 0} → FieldType → Arrays E → Operands I L → Part (Value I L × Operands I L)
pop_typed type arrays stack = do
  top ← pop stack
  if fits type arrays top.0 then Ok top else refused WrongOperand

-- 0 or null
abbrev pub default_value : FieldType → Value ℕ ℕ
default_value (Scalar kind.Long) = value.Long 0
default_value (Scalar _) = value.Int 0
default_value (Array type) = value.Null

-- ---- starting values

-- a ConstantValue of an Integer counts for B, C, S and I, one of a Long for J; every other is unread
abbrev pub constant_value : FieldType → Option Constant → Value ℕ ℕ
constant_value (Scalar kind.Long) (Some (Long n)) = value.Long (cast_unsigned w64 n)
constant_value (Scalar kind.Long) _ = value.Long 0
constant_value (Scalar kind) (Some (Integer n)) = value.Int (narrowed kind (cast_unsigned w32 n))
constant_value type _ = default_value type

abbrev pub start_typed : Pool → Option FieldType → Option ℕ → Value ℕ ℕ
start_typed pool None number = value.Null
start_typed pool (Some type) None = default_value type
start_typed pool (Some type) (Some number) = constant_value type (constant_of pool number)

-- the value that a field starts with; a field that isn't static is never read, and its ConstantValue doesn't count
abbrev pub start_value : Pool → Field → Value ℕ ℕ
start_value pool field = if is_static field.flags then start_typed pool (field_type deepest field.desc) field.value else value.Null

abbrev pub start_values : Contents → List (Value ℕ ℕ)
start_values class = map (start_value class.pool) class.fields

-- ---- getstatic, putstatic

abbrev pub place : ℕ → FieldType → Place
place at type = record { at = at; field_type = type }

abbrev pub placed : ℕ → Option FieldType → Option Place
placed at type = option_map (place at) type

abbrev pub static_in : Field → ℕ → Option Place
static_in field at = if is_static field.flags then placed at (field_type deepest field.desc) else None

abbrev pub static_at : Option Field → ℕ → Option Place
static_at None at = None
static_at (Some field) at = static_in field at

abbrev pub first_static : List Field → List ℕ → List ℕ → Option Place
first_static fields name desc = option_and_then (λ at. static_at (slice_get fields at) at) (position (is_named name desc) fields)

-- the first field of this class of the name and descriptor, if it is static
abbrev pub own_field : Contents → Member → Option Place
own_field class m = if is_own class m.owner then first_static class.fields m.name m.desc else None

abbrev pub static_field : Contents → ℕ → Option Place
static_field class number = option_and_then (own_field class) (field_named class number)

abbrev pub field_of : Contents → ℕ → Part Place
field_of class number = found (static_field class number) (Refused UnknownField)

-- getstatic
abbrev pub get_static : {I L : Type 0} → Contents → ℕ → ℕ → List (Value I L) → Operands I L → Part (Operands I L)
get_static class number depth statics stack = do
  field ← field_of class number
  value ← found (slice_get statics field.at) (Refused UnknownField)
  push depth value stack

abbrev pub with_static : {I L E : Type 0} → Heap I L E → ℕ → Value I L → Heap I L E
with_static heap at value = record { arrays = heap.arrays; statics = slice_set heap.statics at value; made = heap.made }

-- the value at the top for a static field, and the field
abbrev pub pop_static : {I L E : Type 0} → Contents → ℕ → Arrays E → Operands I L → Part ((Place × Value I L) × Operands I L)
pop_static class number arrays stack = do
  field ← field_of class number
  top ← pop_typed field.field_type arrays stack
  Ok ((field, top.0), top.1)

-- putstatic: the value is narrowed to the field's type
abbrev pub put_static : Contents → ℕ → Heap ℕ ℕ ℕ → Operands ℕ ℕ → Part (Heap ℕ ℕ ℕ × Operands ℕ ℕ)
put_static class number heap stack = do
  taken ← pop_static class number heap.arrays stack
  Ok (with_static heap taken.0.0.at (stored taken.0.0.field_type taken.0.1), taken.1)
