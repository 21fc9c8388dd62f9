-- Shapes of parameters, and the leaves of their inputs.
use Rattle.std.specs.Prelude.{ℕ, Bool, List, [], ◌∷◌, ◌++◌, unwrap_or, replicate}
use Rattle.axe_io.specs.declared.parameters.Kind.{Kind}
use Rattle.axe_io.specs.declared.parameters.Kind.TheVariants.{Byte, Char, Short, Int, Long}
use Rattle.axe_io.specs.declared.parameters.Param.{Param}
use Rattle.axe_io.specs.declared.parameters.OutPlace.{OutPlace}

-- the width of a kind in bits
abbrev pub width_of : Kind → ℕ
width_of Byte = 8
width_of Char = 16
width_of Short = 16
width_of Int = 32
width_of Long = 64

-- a scalar parameter is one leaf; an array is one leaf for each element
abbrev pub leaf_count : Param → ℕ
leaf_count param = unwrap_or param.len 1

-- the widths of the leaves of parameters, in their order
abbrev pub leaf_widths : List Param → List ℕ
leaf_widths [] = []
leaf_widths (param ∷ params) = replicate (leaf_count param) (width_of param.kind) ++ leaf_widths params

-- what a shape consists of
pub record ShapeParts : Type 0 where
  pub params : List Param
  pub out : OutPlace
  pub kind : Kind
  pub is_array : Bool
