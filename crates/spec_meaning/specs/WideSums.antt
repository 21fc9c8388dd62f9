-- Sums that leave 128 bits on the way.
use Rattle.std.specs.Prelude.{ℤ, pos, ◌+ℤ◌, ◌*ℤ◌, ◌^◌}

-- a number and how often 2 ^ 128 is added to it
unfoldable pub whole : ℤ → ℤ → ℤ
whole low turns = low +ℤ turns *ℤ pos (2 ^ 128)
