-- Fields and methods by name and descriptor.
use Rattle.std.specs.Prelude.{ℕ, ◌==◌, ◌&&◌, not, Bool, true, List, Option, Some, None, is_some, bit_and}
use Rattle.std.specs.Str.{bytes_eq}
use Rattle.class_file.specs.declared.class.Field.{Field}
use Rattle.class_file.specs.declared.class.Method.{Method}

-- ACC_STATIC is 0x0008
abbrev pub is_static : ℕ → Bool
is_static flags = not (bit_and flags 8 == 0)

-- a descriptor that wasn't given is any
abbrev pub fits : Option (List ℕ) → List ℕ → Bool
fits None desc = true
fits (Some wanted) desc = bytes_eq desc wanted

-- a static method with Code of this name and, where one is given, of this descriptor
abbrev pub answers_to : List ℕ → Option (List ℕ) → Method → Bool
answers_to name desc method = is_static method.flags && (is_some method.code && (bytes_eq method.name name && fits desc method.desc))

-- a field of this name and descriptor
abbrev pub is_named : List ℕ → List ℕ → Field → Bool
is_named name desc field = bytes_eq field.name name && bytes_eq field.desc desc
