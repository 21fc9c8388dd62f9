-- The readers of fields, methods and attributes read what spells them.
use Rattle.std.proofs.Common.{ℕ, ◌&&◌, List, Option, None, is_none, codes}
use Rattle.std.specs.Str.{bytes_eq}
use Rattle.class_file.specs.declared.error.ClassError.TheVariants.{Truncated, BadIndex, BadLength}
use Rattle.class_file.specs.declared.class.Code.{Code}
use Rattle.class_file.specs.Pools.{Pool, text_of}
use Rattle.class_reader.specs.MemberReaders.{name_at, skip_at, attribute_at, attribute_turn, attributes_at, row_at, rows_at, instructions_at, code_content_at, code_at, method_content_at, method_attribute_at, method_attributes_at, method_at, methods_at, value_index_at, value_at, field_content_at, field_attribute_at, field_attributes_at, field_at, fields_at}
use Rattle.class_reader.specs.MemberTexts.{name_text, skip_text, attribute_text, attribute_turn_text, attributes_text, row_text, rows_text, instructions_text, code_content_text, code_text, method_content_text, method_attribute_text, method_attributes_text, method_text, methods_text, value_index_text, value_text, field_content_text, field_attribute_text, field_attributes_text, field_text, fields_text}
use Rattle.class_reader.proofs.ConstantLaws.{number_reads}
use Rattle.reading.specs.Reads.{Reads}
use Rattle.reading.proofs.Laws.{bind_reads, done_reads, test_reads, found_reads, bytes_reads, located_reads, exactly_reads, either_reads, turns_read, times_read}

name_reads : (pool : Pool) (end : ℕ) → Reads (Truncated end) (name_at pool end) (name_text pool)
unfolding name_at
name_reads pool end = located_reads end _ _ (λ at. bind_reads _ _ _ _ (number_reads 2 end) (λ index. found_reads (text_of pool index) (BadIndex at index)))

skip_reads : (end : ℕ) → Reads (Truncated end) (skip_at end) skip_text
unfolding skip_at
skip_reads end = bind_reads _ _ _ _ (number_reads 4 end) (λ len. bind_reads _ _ _ _ (bytes_reads len (Truncated end)) (λ content. done_reads tt))

attribute_reads : (pool : Pool) (end : ℕ) → Reads (Truncated end) (attribute_at pool end) (attribute_text pool)
unfolding attribute_at
attribute_reads pool end = bind_reads _ _ _ _ (name_reads pool end) (λ name. skip_reads end)

pub attributes_read : (pool : Pool) (end : ℕ) → Reads (Truncated end) (attributes_at pool end) (attributes_text pool)
unfolding attributes_at
attributes_read pool end =
    bind_reads _ _ _ _ (number_reads 2 end) (λ count. turns_read (attribute_turn pool end) (attribute_turn_text pool) count tt (λ left state. attribute_reads pool end))

-- ---- methods

row_reads : (end : ℕ) → Reads (Truncated end) (row_at end) row_text
unfolding row_at
row_reads end =
    bind_reads _ _ _ _ (number_reads 2 end) (λ start.
    bind_reads _ _ _ _ (number_reads 2 end) (λ stop.
    bind_reads _ _ _ _ (number_reads 2 end) (λ handler.
    bind_reads _ _ _ _ (number_reads 2 end) (λ catch.
    done_reads _))))

rows_read : (end : ℕ) → Reads (Truncated end) (rows_at end) rows_text
unfolding rows_at
rows_read end = bind_reads _ _ _ _ (number_reads 2 end) (λ count. times_read count _ _ (row_reads end))

instructions_read : (end at : ℕ) → Reads (Truncated end) (instructions_at end at) instructions_text
unfolding instructions_at
instructions_read end at =
    bind_reads _ _ _ _ (number_reads 4 end) (λ len.
    bind_reads _ _ _ _ (test_reads _ (BadLength at)) (λ in_range.
    bytes_reads len (Truncated end)))

code_content_reads : (pool : Pool) (end at : ℕ) → Reads (Truncated end) (code_content_at pool end at) (code_content_text pool)
unfolding code_content_at
code_content_reads pool end at =
    bind_reads _ _ _ _ (number_reads 2 end) (λ max_stack.
    bind_reads _ _ _ _ (number_reads 2 end) (λ max_locals.
    bind_reads _ _ _ _ (instructions_read end at) (λ instructions.
    bind_reads _ _ _ _ (rows_read end) (λ rows.
    bind_reads _ _ _ _ (attributes_read pool end) (λ skipped.
    done_reads _)))))

code_reads : (pool : Pool) (end : ℕ) → Reads (Truncated end) (code_at pool end) (code_text pool)
unfolding code_at
code_reads pool end =
    located_reads end _ _ (λ at. bind_reads _ _ _ _ (number_reads 4 end) (λ len. exactly_reads len (BadLength at) _ _ (code_content_reads pool end at)))

method_content_reads : (pool : Pool) (end : ℕ) (name : List ℕ) (code : Option Code) → Reads (Truncated end) (method_content_at pool end name code) (method_content_text pool name code)
unfolding method_content_at
method_content_reads pool end name code =
    either_reads (bytes_eq name (codes "Code") && is_none code) _ _ _ _
    (bind_reads _ _ _ _ (code_reads pool end) (λ first. done_reads _))
    (bind_reads _ _ _ _ (skip_reads end) (λ skipped. done_reads _))

method_attributes_read : (pool : Pool) (end : ℕ) → Reads (Truncated end) (method_attributes_at pool end) (method_attributes_text pool)
unfolding method_attributes_at
method_attributes_read pool end =
    bind_reads _ _ _ _ (number_reads 2 end) (λ count.
    turns_read (method_attribute_at pool end) (method_attribute_text pool) count None (λ left code.
    bind_reads _ _ _ _ (name_reads pool end) (λ name. method_content_reads pool end name code)))

method_reads : (pool : Pool) (end : ℕ) → Reads (Truncated end) (method_at pool end) (method_text pool)
unfolding method_at
method_reads pool end =
    bind_reads _ _ _ _ (number_reads 2 end) (λ flags.
    bind_reads _ _ _ _ (name_reads pool end) (λ name.
    bind_reads _ _ _ _ (name_reads pool end) (λ desc.
    bind_reads _ _ _ _ (method_attributes_read pool end) (λ code.
    done_reads _))))

pub methods_read : (pool : Pool) (end : ℕ) → Reads (Truncated end) (methods_at pool end) (methods_text pool)
unfolding methods_at
methods_read pool end = bind_reads _ _ _ _ (number_reads 2 end) (λ count. times_read count _ _ (method_reads pool end))

-- ---- fields

value_index_reads : (pool : Pool) (end : ℕ) → Reads (Truncated end) (value_index_at pool end) (value_index_text pool)
unfolding value_index_at
value_index_reads pool end =
    located_reads end _ _ (λ at.
    bind_reads _ _ _ _ (number_reads 2 end) (λ index.
    bind_reads _ _ _ _ (test_reads _ (BadIndex at index)) (λ is.
    done_reads _)))

value_reads : (pool : Pool) (end : ℕ) → Reads (Truncated end) (value_at pool end) (value_text pool)
unfolding value_at
value_reads pool end =
    located_reads end _ _ (λ at.
    bind_reads _ _ _ _ (number_reads 4 end) (λ len.
    bind_reads _ _ _ _ (test_reads _ (BadLength at)) (λ is_two.
    value_index_reads pool end)))

field_content_reads : (pool : Pool) (end : ℕ) (name : List ℕ) (value : Option ℕ) → Reads (Truncated end) (field_content_at pool end name value) (field_content_text pool name value)
unfolding field_content_at
field_content_reads pool end name value =
    either_reads (bytes_eq name (codes "ConstantValue") && is_none value) _ _ _ _
    (bind_reads _ _ _ _ (value_reads pool end) (λ first. done_reads _))
    (bind_reads _ _ _ _ (skip_reads end) (λ skipped. done_reads _))

field_attributes_read : (pool : Pool) (end : ℕ) → Reads (Truncated end) (field_attributes_at pool end) (field_attributes_text pool)
unfolding field_attributes_at
field_attributes_read pool end =
    bind_reads _ _ _ _ (number_reads 2 end) (λ count.
    turns_read (field_attribute_at pool end) (field_attribute_text pool) count None (λ left value.
    bind_reads _ _ _ _ (name_reads pool end) (λ name. field_content_reads pool end name value)))

field_reads : (pool : Pool) (end : ℕ) → Reads (Truncated end) (field_at pool end) (field_text pool)
unfolding field_at
field_reads pool end =
    bind_reads _ _ _ _ (number_reads 2 end) (λ flags.
    bind_reads _ _ _ _ (name_reads pool end) (λ name.
    bind_reads _ _ _ _ (name_reads pool end) (λ desc.
    bind_reads _ _ _ _ (field_attributes_read pool end) (λ value.
    done_reads _))))

pub fields_read : (pool : Pool) (end : ℕ) → Reads (Truncated end) (fields_at pool end) (fields_text pool)
unfolding fields_at
fields_read pool end = bind_reads _ _ _ _ (number_reads 2 end) (λ count. times_read count _ _ (field_reads pool end))
