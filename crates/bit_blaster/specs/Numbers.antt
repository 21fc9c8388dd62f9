-- The number that bits spell, the lowest first.
use Rattle.std.specs.Prelude.{ℕ, ◌+◌, ◌*◌, Bool, true, false, List, [], ◌∷◌}

abbrev pub bit : Bool → ℕ
bit true = 1
bit false = 0

abbrev pub number : List Bool → ℕ
number [] = 0
number (b ∷ bs) = bit b + 2 * number bs
