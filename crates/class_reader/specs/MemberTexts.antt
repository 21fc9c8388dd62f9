-- How fields, methods and their attributes are spelled (4.5, 4.6, 4.7).
use Rattle.std.specs.Prelude.{ℕ, ◌==◌, ◌&&◌, nat_lt, List, Option, Some, None, is_none, codes}
use Rattle.std.specs.Str.{bytes_eq}
use Rattle.class_file.specs.declared.class.ExceptionRow.{ExceptionRow}
use Rattle.class_file.specs.declared.class.Code.{Code}
use Rattle.class_file.specs.declared.class.Method.{Method}
use Rattle.class_file.specs.declared.class.Field.{Field}
use Rattle.class_reader.specs.Numbers.{u2_text, u4_text}
use Rattle.class_file.specs.Pools.{Pool, text_of, is_value}
use Rattle.reading.specs.Grammars.{Grammar, ◌>>=◌, done, test, found, bytes, exactly, either, turns, times}

-- the number of a Utf8
abbrev pub name_text : Pool → Grammar (List ℕ)
name_text pool = u2_text >>= λ index. found (text_of pool index)

-- the length and bytes of an attribute that isn't read
abbrev pub skip_text : Grammar (Unit {0})
skip_text = do
  len ← u4_text
  content ← bytes len
  done tt

-- an attribute that isn't read, of which only the name is checked
abbrev pub attribute_text : Pool → Grammar (Unit {0})
attribute_text pool = do
  name ← name_text pool
  skip_text

abbrev pub attribute_turn_text : Pool → ℕ → Unit {0} → Grammar (Unit {0})
attribute_turn_text pool left state = attribute_text pool

-- a count of attributes that aren't read
abbrev pub attributes_text : Pool → Grammar (Unit {0})
attributes_text pool = u2_text >>= λ count. turns (attribute_turn_text pool) count tt

-- ---- methods

abbrev pub row_text : Grammar ExceptionRow
row_text = do
  start ← u2_text
  stop ← u2_text
  handler ← u2_text
  catch ← u2_text
  done (record { start = start; end = stop; handler = handler; catch = catch })

abbrev pub rows_text : Grammar (List ExceptionRow)
rows_text = u2_text >>= λ count. times count row_text

-- the bytes of a code, whose length is from 1 to 65,535
abbrev pub instructions_text : Grammar (List ℕ)
instructions_text = do
  len ← u4_text
  in_range ← test (nat_lt 0 len && nat_lt len 65536)
  bytes len

-- what a Code holds
abbrev pub code_content_text : Pool → Grammar Code
code_content_text pool = do
  max_stack ← u2_text
  max_locals ← u2_text
  instructions ← instructions_text
  rows ← rows_text
  skipped ← attributes_text pool
  done (record { max_stack = max_stack; max_locals = max_locals; bytes = instructions; rows = rows })

-- a length, and the Code that has just this length
abbrev pub code_text : Pool → Grammar Code
code_text pool = u4_text >>= λ len. exactly len (code_content_text pool)

-- an attribute of a method, of which the first Code is read
abbrev pub method_content_text : Pool → List ℕ → Option Code → Grammar (Option Code)
method_content_text pool name code =
    either (bytes_eq name (codes "Code") && is_none code) (code_text pool >>= λ first. done (Some first))
    (skip_text >>= λ skipped. done code)

abbrev pub method_attribute_text : Pool → ℕ → Option Code → Grammar (Option Code)
method_attribute_text pool left code = name_text pool >>= λ name. method_content_text pool name code

abbrev pub method_attributes_text : Pool → Grammar (Option Code)
method_attributes_text pool = u2_text >>= λ count. turns (method_attribute_text pool) count None

abbrev pub method_text : Pool → Grammar Method
method_text pool = do
  flags ← u2_text
  name ← name_text pool
  desc ← name_text pool
  code ← method_attributes_text pool
  done (record { flags = flags; name = name; desc = desc; code = code })

abbrev pub methods_text : Pool → Grammar (List Method)
methods_text pool = u2_text >>= λ count. times count (method_text pool)

-- ---- fields

-- the number of a value
abbrev pub value_index_text : Pool → Grammar ℕ
value_index_text pool = do
  index ← u2_text
  is ← test (is_value pool index)
  done index

-- a length of 2, and the number of a value
abbrev pub value_text : Pool → Grammar ℕ
value_text pool = do
  len ← u4_text
  is_two ← test (len == 2)
  value_index_text pool

-- an attribute of a field, of which the first ConstantValue is read
abbrev pub field_content_text : Pool → List ℕ → Option ℕ → Grammar (Option ℕ)
field_content_text pool name value =
    either (bytes_eq name (codes "ConstantValue") && is_none value) (value_text pool >>= λ first. done (Some first))
    (skip_text >>= λ skipped. done value)

abbrev pub field_attribute_text : Pool → ℕ → Option ℕ → Grammar (Option ℕ)
field_attribute_text pool left value = name_text pool >>= λ name. field_content_text pool name value

abbrev pub field_attributes_text : Pool → Grammar (Option ℕ)
field_attributes_text pool = u2_text >>= λ count. turns (field_attribute_text pool) count None

abbrev pub field_text : Pool → Grammar Field
field_text pool = do
  flags ← u2_text
  name ← name_text pool
  desc ← name_text pool
  value ← field_attributes_text pool
  done (record { flags = flags; name = name; desc = desc; value = value })

abbrev pub fields_text : Pool → Grammar (List Field)
fields_text pool = u2_text >>= λ count. times count (field_text pool)
