-- Reading fields, methods and their attributes (4.5, 4.6, 4.7).
use Rattle.std.specs.Prelude.{ℕ, ◌==◌, ◌&&◌, nat_lt, if◌then◌else◌, List, Option, Some, None, is_none, codes}
use Rattle.std.specs.Str.{bytes_eq}
use Rattle.class_file.specs.declared.error.ClassError.{ClassError}
use Rattle.class_file.specs.declared.error.ClassError.TheVariants.{Truncated, BadIndex, BadLength}
use Rattle.class_file.specs.declared.class.ExceptionRow.{ExceptionRow}
use Rattle.class_file.specs.declared.class.Code.{Code}
use Rattle.class_file.specs.declared.class.Method.{Method}
use Rattle.class_file.specs.declared.class.Field.{Field}
use Rattle.class_reader.specs.Numbers.{u2, u4}
use Rattle.class_file.specs.Pools.{Pool, text_of, is_value}
use Rattle.reading.specs.Readers.{Reader, ◌>>=◌, done, requires_that, found, bytes, located, exactly, turns, times}

abbrev pub name_from : Pool → ℕ → ℕ → Reader ClassError (List ℕ)
name_from pool end at = u2 end >>= λ index. found (text_of pool index) (BadIndex at index)

-- the number of a Utf8
unfoldable pub name_at : Pool → ℕ → Reader ClassError (List ℕ)
name_at pool end = located end (name_from pool end)

-- the length and bytes of an attribute that isn't read
unfoldable pub skip_at : ℕ → Reader ClassError (Unit {0})
skip_at end = do
  len ← u4 end
  content ← bytes len (Truncated end)
  done tt

-- an attribute that isn't read, of which only the name is checked
unfoldable pub attribute_at : Pool → ℕ → Reader ClassError (Unit {0})
attribute_at pool end = do
  name ← name_at pool end
  skip_at end

abbrev pub attribute_turn : Pool → ℕ → ℕ → Unit {0} → Reader ClassError (Unit {0})
attribute_turn pool end left state = attribute_at pool end

-- a count of attributes that aren't read
unfoldable pub attributes_at : Pool → ℕ → Reader ClassError (Unit {0})
attributes_at pool end = u2 end >>= λ count. turns (attribute_turn pool end) count tt

-- ---- methods

unfoldable pub row_at : ℕ → Reader ClassError ExceptionRow
row_at end = do
  start ← u2 end
  stop ← u2 end
  handler ← u2 end
  catch ← u2 end
  done (record { start = start; end = stop; handler = handler; catch = catch })

unfoldable pub rows_at : ℕ → Reader ClassError (List ExceptionRow)
rows_at end = u2 end >>= λ count. times count (row_at end)

-- the bytes of a code, whose length is from 1 to 65,535; a length that isn't is a fault at this offset
unfoldable pub instructions_at : ℕ → ℕ → Reader ClassError (List ℕ)
instructions_at end at = do
  len ← u4 end
  in_range ← requires_that (nat_lt 0 len && nat_lt len 65536) (BadLength at)
  bytes len (Truncated end)

-- what a Code holds
unfoldable pub code_content_at : Pool → ℕ → ℕ → Reader ClassError Code
code_content_at pool end at = do
  max_stack ← u2 end
  max_locals ← u2 end
  instructions ← instructions_at end at
  rows ← rows_at end
  skipped ← attributes_at pool end
  done (record { max_stack = max_stack; max_locals = max_locals; bytes = instructions; rows = rows })

-- a length at an offset, and the Code that has just this length
abbrev pub code_from : Pool → ℕ → ℕ → Reader ClassError Code
code_from pool end at = u4 end >>= λ len. exactly len (BadLength at) (code_content_at pool end at)

unfoldable pub code_at : Pool → ℕ → Reader ClassError Code
code_at pool end = located end (code_from pool end)

-- an attribute of a method, of which the first Code is read
unfoldable pub method_content_at : Pool → ℕ → List ℕ → Option Code → Reader ClassError (Option Code)
method_content_at pool end name code =
    if bytes_eq name (codes "Code") && is_none code then (code_at pool end >>= λ first. done (Some first)) else
    (skip_at end >>= λ skipped. done code)

abbrev pub method_attribute_at : Pool → ℕ → ℕ → Option Code → Reader ClassError (Option Code)
method_attribute_at pool end left code = name_at pool end >>= λ name. method_content_at pool end name code

unfoldable pub method_attributes_at : Pool → ℕ → Reader ClassError (Option Code)
method_attributes_at pool end = u2 end >>= λ count. turns (method_attribute_at pool end) count None

unfoldable pub method_at : Pool → ℕ → Reader ClassError Method
method_at pool end = do
  flags ← u2 end
  name ← name_at pool end
  desc ← name_at pool end
  code ← method_attributes_at pool end
  done (record { flags = flags; name = name; desc = desc; code = code })

unfoldable pub methods_at : Pool → ℕ → Reader ClassError (List Method)
methods_at pool end = u2 end >>= λ count. times count (method_at pool end)

-- ---- fields

abbrev pub value_index_from : Pool → ℕ → ℕ → Reader ClassError ℕ
value_index_from pool end at = do
  index ← u2 end
  is ← requires_that (is_value pool index) (BadIndex at index)
  done index

-- the number of a value
unfoldable pub value_index_at : Pool → ℕ → Reader ClassError ℕ
value_index_at pool end = located end (value_index_from pool end)

-- a length of 2 at an offset, and the number of a value
abbrev pub value_from : Pool → ℕ → ℕ → Reader ClassError ℕ
value_from pool end at = do
  len ← u4 end
  is_two ← requires_that (len == 2) (BadLength at)
  value_index_at pool end

unfoldable pub value_at : Pool → ℕ → Reader ClassError ℕ
value_at pool end = located end (value_from pool end)

-- an attribute of a field, of which the first ConstantValue is read
unfoldable pub field_content_at : Pool → ℕ → List ℕ → Option ℕ → Reader ClassError (Option ℕ)
field_content_at pool end name value =
    if bytes_eq name (codes "ConstantValue") && is_none value then (value_at pool end >>= λ first. done (Some first)) else
    (skip_at end >>= λ skipped. done value)

abbrev pub field_attribute_at : Pool → ℕ → ℕ → Option ℕ → Reader ClassError (Option ℕ)
field_attribute_at pool end left value = name_at pool end >>= λ name. field_content_at pool end name value

unfoldable pub field_attributes_at : Pool → ℕ → Reader ClassError (Option ℕ)
field_attributes_at pool end = u2 end >>= λ count. turns (field_attribute_at pool end) count None

unfoldable pub field_at : Pool → ℕ → Reader ClassError Field
field_at pool end = do
  flags ← u2 end
  name ← name_at pool end
  desc ← name_at pool end
  value ← field_attributes_at pool end
  done (record { flags = flags; name = name; desc = desc; value = value })

unfoldable pub fields_at : Pool → ℕ → Reader ClassError (List Field)
fields_at pool end = u2 end >>= λ count. times count (field_at pool end)
