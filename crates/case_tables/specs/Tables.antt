-- Tables of rows by key.
use Rattle.std.specs.Prelude.{ℕ, nat_lt, if◌then◌else◌, Bool, true, false, List, [], ◌∷◌}

-- each key is above the one before it, and the first above this one
abbrev pub rise_above : ℕ → List ℕ → Bool
rise_above last [] = true
rise_above last (key ∷ keys) = if nat_lt last key then rise_above key keys else false

-- each key is above the one before it
abbrev pub rise : List ℕ → Bool
rise [] = true
rise (key ∷ keys) = rise_above key keys
