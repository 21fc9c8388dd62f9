-- How a class file is spelled: its parts, one after another (4.1).
use Rattle.std.specs.Prelude.{ℕ, ◌==◌, ◌&&◌, ◌||◌, nat_lt, nat_le, List}
use Rattle.class_file.specs.declared.class.Field.{Field}
use Rattle.class_file.specs.declared.class.Method.{Method}
use Rattle.class_file.specs.Contents.{Contents, contents}
use Rattle.class_reader.specs.Numbers.{u2_text, u4_text}
use Rattle.class_file.specs.Pools.{Pool, is_class}
use Rattle.class_reader.specs.ConstantTexts.{pool_text}
use Rattle.class_reader.specs.MemberTexts.{fields_text, methods_text, attributes_text}
use Rattle.reading.specs.Grammars.{Grammar, ◌>>=◌, done, test, turns}

-- the magic number, a version from 45 to 52, and the pool's count, which isn't 0
abbrev pub head_text : Grammar ℕ
head_text = do
  magic ← u4_text
  is_class_file ← test (magic == 3405691582)
  minor ← u2_text
  major ← u2_text
  is_known ← test (nat_le 45 major && nat_le major 52)
  count ← u2_text
  has_zero ← test (nat_lt 0 count)
  done count

-- the number of a Class
abbrev pub class_index_text : Pool → Grammar ℕ
class_index_text pool = do
  index ← u2_text
  is ← test (is_class pool index)
  done index

-- the number of a Class, or 0
abbrev pub super_index_text : Pool → Grammar ℕ
super_index_text pool = do
  index ← u2_text
  is ← test (index == 0 || is_class pool index)
  done index

abbrev pub interface_turn_text : Pool → ℕ → Unit {0} → Grammar (Unit {0})
interface_turn_text pool left state = class_index_text pool >>= λ index. done tt

abbrev pub interfaces_text : Pool → Grammar (Unit {0})
interfaces_text pool = u2_text >>= λ count. turns (interface_turn_text pool) count tt

-- flags, this class, the class above it, and the interfaces
abbrev pub this_class_text : Pool → Grammar ℕ
this_class_text pool = do
  flags ← u2_text
  this_class ← class_index_text pool
  super_class ← super_index_text pool
  interfaces ← interfaces_text pool
  done this_class

-- what stands behind the pool
abbrev pub members_text : Pool → Grammar (ℕ × List Field × List Method)
members_text pool = do
  this_class ← this_class_text pool
  fields ← fields_text pool
  methods ← methods_text pool
  skipped ← attributes_text pool
  done (this_class, fields, methods)

abbrev pub class_text : Grammar Contents
class_text = do
  count ← head_text
  pool ← pool_text count
  members ← members_text pool
  done (contents pool members.0 members.1 members.2)

-- the bytes are a class file, and this is what it holds
abbrev pub SpellsClass : List ℕ → Contents → Type 0
SpellsClass text class = class_text class text
