-- The arguments of a function that an input stands for.
use Rattle.std.specs.Prelude.{ℕ, pos, List, [], ◌∷◌, take, drop, map, slice_index, Option, Some, None}
use Rattle.axe_io.specs.declared.parameters.Param.{Param}
use Rattle.axe_io.specs.Shapes.{leaf_count}
use Rattle.spec_meaning.specs.declared.value.Value.{Value}
use Rattle.spec_meaning.specs.declared.value.Value.TheVariants.{Number, List as Numbers}

-- a scalar's leaf as a number, or an array's leaves as a list of numbers, without signs
abbrev pub argument : Option ℕ → List ℕ → Value
argument None leaves = Number (pos (slice_index leaves 0))
argument (Some length) leaves = Numbers (map pos leaves)

-- an argument for each parameter
abbrev pub spec_arguments : List Param → List ℕ → List Value
spec_arguments [] leaves = []
spec_arguments (param ∷ params) leaves = argument param.len (take (leaf_count param) leaves) ∷ spec_arguments params (drop (leaf_count param) leaves)
