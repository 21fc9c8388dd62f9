-- Marked places.
use Rattle.std.specs.Prelude.{ℕ, Bool, List, length, slice_index, nat_eq, nat_lt, ◌&&◌}

-- a place has the mark 1
abbrev pub is_marked : List ℕ → ℕ → Bool
is_marked marks k = nat_lt k (length marks) && nat_eq (slice_index marks k) 1
