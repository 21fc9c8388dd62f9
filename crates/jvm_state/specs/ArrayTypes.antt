-- Types of arrays (JVM Specification SE 8, section 4.3.2).
use Rattle.std.specs.Prelude.{ℕ, ◌-◌, ◌==◌, ◌&&◌, nat_le, if◌then◌else◌, Bool, true, false}
use Rattle.axe_io.specs.declared.parameters.Kind.{Kind}
use Rattle.axe_io.specs.declared.parameters.Kind.TheVariants as kind
use Rattle.jvm_state.specs.declared.types.ArrayType.{ArrayType}
use Rattle.jvm_state.specs.declared.types.FieldType.{FieldType}
use Rattle.jvm_state.specs.declared.types.FieldType.TheVariants.{Scalar, Array}

abbrev pub is_same_kind : Kind → Kind → Bool
is_same_kind kind.Byte kind.Byte = true
is_same_kind kind.Char kind.Char = true
is_same_kind kind.Short kind.Short = true
is_same_kind kind.Int kind.Int = true
is_same_kind kind.Long kind.Long = true
is_same_kind _ _ = false

-- so many brackets before a kind
abbrev pub of_depth : ℕ → Kind → ArrayType
of_depth depth kind = record { depth = depth; kind = kind }

abbrev pub is_same_type : ArrayType → ArrayType → Bool
is_same_type s t = (s.depth == t.depth) && is_same_kind s.kind t.kind

-- the type of the elements of an array
abbrev pub inner_type : ArrayType → FieldType
inner_type t = if nat_le t.depth 1 then Scalar t.kind else Array (of_depth (t.depth - 1) t.kind)
