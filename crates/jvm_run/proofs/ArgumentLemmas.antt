-- Leaves of parameters as elements of arrays.
use Rattle.std.proofs.Common.{◌≡◌, ℕ, ◌<◌, List, length}
use Rattle.std.proofs.lemmas.List.{length-map}
use Rattle.bv_words.specs.Words.{chop}
use Rattle.axe_io.specs.declared.parameters.Kind.{Kind}
use Rattle.axe_io.specs.Shapes.{width_of}
use Rattle.jvm_meaning.specs.Runs.{chopped}

pub chopped_count : (kind : Kind) (leaves : List ℕ) → length (chopped kind leaves) ≡ length leaves
chopped_count kind leaves = length-map leaves (chop (width_of kind))
