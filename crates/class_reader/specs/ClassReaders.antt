-- Reading a class file from left to right, with the first fault that is met (4.1).
use Rattle.std.specs.Prelude.{ℕ, ◌-◌, ◌==◌, ◌&&◌, ◌||◌, nat_lt, nat_le, List, length, Option, Some, None, Result, Ok, Err}
use Rattle.class_file.specs.declared.error.ClassError.{ClassError}
use Rattle.class_file.specs.declared.error.ClassError.TheVariants.{BadMagic, BadVersion, BadIndex, BadLength, Trailing}
use Rattle.class_file.specs.declared.class.Field.{Field}
use Rattle.class_file.specs.declared.class.Method.{Method}
use Rattle.class_file.specs.Contents.{Contents, contents}
use Rattle.class_reader.specs.Numbers.{u2, u4}
use Rattle.class_file.specs.Pools.{Pool, is_class}
use Rattle.class_reader.specs.ConstantReaders.{pool_at}
use Rattle.class_reader.specs.MemberReaders.{fields_at, methods_at, attributes_at}
use Rattle.reading.specs.Readers.{Reader, ◌>>=◌, done, requires_that, located, turns, whole}

-- what stands before the pool, and the pool's count
unfoldable pub head_at : ℕ → Reader ClassError ℕ
head_at end = do
  magic ← u4 end
  is_class_file ← requires_that (magic == 3405691582) BadMagic
  minor ← u2 end
  major ← u2 end
  is_known ← requires_that (nat_le 45 major && nat_le major 52) (BadVersion major)
  count ← u2 end
  has_zero ← requires_that (nat_lt 0 count) (BadLength 8)
  done count

abbrev pub class_index_from : Pool → ℕ → ℕ → Reader ClassError ℕ
class_index_from pool end at = do
  index ← u2 end
  is ← requires_that (is_class pool index) (BadIndex at index)
  done index

-- the number of a Class
unfoldable pub class_index_at : Pool → ℕ → Reader ClassError ℕ
class_index_at pool end = located end (class_index_from pool end)

abbrev pub super_index_from : Pool → ℕ → ℕ → Reader ClassError ℕ
super_index_from pool end at = do
  index ← u2 end
  is ← requires_that (index == 0 || is_class pool index) (BadIndex at index)
  done index

-- the number of a Class, or 0
unfoldable pub super_index_at : Pool → ℕ → Reader ClassError ℕ
super_index_at pool end = located end (super_index_from pool end)

abbrev pub interface_turn : Pool → ℕ → ℕ → Unit {0} → Reader ClassError (Unit {0})
interface_turn pool end left state = class_index_at pool end >>= λ index. done tt

unfoldable pub interfaces_at : Pool → ℕ → Reader ClassError (Unit {0})
interfaces_at pool end = u2 end >>= λ count. turns (interface_turn pool end) count tt

-- the class's own number, read with what stands beside it
unfoldable pub this_class_at : Pool → ℕ → Reader ClassError ℕ
this_class_at pool end = do
  flags ← u2 end
  this_class ← class_index_at pool end
  super_class ← super_index_at pool end
  interfaces ← interfaces_at pool end
  done this_class

-- what stands behind the pool
unfoldable pub members_at : Pool → ℕ → Reader ClassError (ℕ × List Field × List Method)
members_at pool end = do
  this_class ← this_class_at pool end
  fields ← fields_at pool end
  methods ← methods_at pool end
  skipped ← attributes_at pool end
  done (this_class, fields, methods)

unfoldable pub class_at : ℕ → Reader ClassError Contents
class_at end = do
  count ← head_at end
  pool ← pool_at end count
  members ← members_at pool end
  done (contents pool members.0 members.1 members.2)

-- the class that a file spells, or the first fault of the file
unfoldable pub class_of : List ℕ → Result Contents ClassError
class_of text = whole (λ left. Trailing (length text - left)) (class_at (length text)) text

abbrev pub fault_in : Result Contents ClassError → Option ClassError
fault_in (Ok class) = None
fault_in (Err fault) = Some fault

-- the first fault of a file, in the order in which it is read
abbrev pub first_class_fault : List ℕ → Option ClassError
first_class_fault text = fault_in (class_of text)
