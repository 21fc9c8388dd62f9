-- What the entries of the constant pool refer to, checked when all of the pool is read (4.4).
use Rattle.std.specs.Prelude.{ℕ, ◌+◌, ◌-◌, ◌&&◌, Bool, true, List, [], ◌∷◌, length, drop, Option, Some, None, Result, Ok, Err}
use Rattle.class_file.specs.declared.error.ClassError.{ClassError}
use Rattle.class_file.specs.declared.error.ClassError.TheVariants.{BadIndex}
use Rattle.class_file.specs.declared.class.Constant.{Constant}
use Rattle.class_file.specs.declared.class.Constant.TheVariants.{Utf8, Integer, Float, Long, Double, Class, Str, Fieldref, Methodref, InterfaceMethodref, NameAndType, MethodHandle, MethodType, InvokeDynamic}
use Rattle.class_file.specs.Pools.{Pool, is_utf8, is_class, is_name_and_type}
use Rattle.reading.specs.Readers.{check}

-- whether each number of an entry is that of an entry of the kind that it has to be
abbrev pub entry_refers : Pool → Constant → Bool
entry_refers pool (Class name) = is_utf8 pool name
entry_refers pool (Str text) = is_utf8 pool text
entry_refers pool (Fieldref class member) = is_class pool class && is_name_and_type pool member
entry_refers pool (Methodref class member) = is_class pool class && is_name_and_type pool member
entry_refers pool (InterfaceMethodref class member) = is_class pool class && is_name_and_type pool member
entry_refers pool (NameAndType name desc) = is_utf8 pool name && is_utf8 pool desc
entry_refers pool _ = true

abbrev pub slot_refers : Pool → Option Constant → Bool
slot_refers pool None = true
slot_refers pool (Some entry) = entry_refers pool entry

abbrev pub all_refer : Pool → Pool → Bool
all_refer pool [] = true
all_refer pool (slot ∷ slots) = slot_refers pool slot && all_refer pool slots

-- ---- the same with its first fault, at the number that is wrong

abbrev pub then_check : {E : Type 0} → Result (Unit {0}) E → Result (Unit {0}) E → Result (Unit {0}) E
then_check (Ok x) next = next
then_check (Err e) next = Err e

-- a number at an offset that has to be one of a kind
abbrev pub reference : Bool → ℕ → ℕ → Result (Unit {0}) ClassError
reference is at index = check is (BadIndex at index)

-- the numbers of an entry that names a member of a class, whose tag stands at an offset
abbrev pub member_references : Pool → ℕ → ℕ → ℕ → Result (Unit {0}) ClassError
member_references pool at class member = then_check (reference (is_class pool class) (at + 1) class) (reference (is_name_and_type pool member) (at + 3) member)

-- the numbers of an entry whose tag stands at an offset
abbrev pub entry_references : Pool → ℕ → Constant → Result (Unit {0}) ClassError
entry_references pool at (Class name) = reference (is_utf8 pool name) (at + 1) name
entry_references pool at (Str text) = reference (is_utf8 pool text) (at + 1) text
entry_references pool at (Fieldref class member) = member_references pool at class member
entry_references pool at (Methodref class member) = member_references pool at class member
entry_references pool at (InterfaceMethodref class member) = member_references pool at class member
entry_references pool at (NameAndType name desc) = then_check (reference (is_utf8 pool name) (at + 1) name) (reference (is_utf8 pool desc) (at + 3) desc)
entry_references pool at _ = Ok tt

abbrev pub slot_references : Pool → ℕ → Option Constant → Result (Unit {0}) ClassError
slot_references pool at None = Ok tt
slot_references pool at (Some entry) = entry_references pool at entry

-- how many bytes spell an entry
abbrev pub entry_size : Constant → ℕ
entry_size (Utf8 text) = 3 + length text
entry_size (Integer value) = 5
entry_size (Float bits) = 5
entry_size (Long value) = 9
entry_size (Double bits) = 9
entry_size (Class name) = 3
entry_size (Str text) = 3
entry_size (Fieldref class member) = 5
entry_size (Methodref class member) = 5
entry_size (InterfaceMethodref class member) = 5
entry_size (NameAndType name desc) = 5
entry_size (MethodHandle kind index) = 4
entry_size (MethodType desc) = 3
entry_size (InvokeDynamic bootstrap member) = 5

abbrev pub slot_size : Option Constant → ℕ
slot_size None = 0
slot_size (Some entry) = entry_size entry

-- the slots from here on, in a file of this length, where the bytes begin with the first of them
unfoldable pub references : ℕ → Pool → Pool → List ℕ → Result (Unit {0}) ClassError
references end pool [] bytes = Ok tt
references end pool (slot ∷ slots) bytes =
    then_check (slot_references pool (end - length bytes) slot) (references end pool slots (drop (slot_size slot) bytes))
