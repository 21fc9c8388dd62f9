-- The least width of an index.
use Rattle.std.proofs.Common.{◌≡◌, ℕ, zero, suc, ◌+◌, ◌-◌, ◌^◌, ◌<◌, ◌≤◌, true, false, refl, arith}
use Rattle.std.specs.Prelude.{nat_le}
use Rattle.spec_meaning.specs.Table.{least_width}

pub found : (len k : ℕ) → k < 16 → nat_le len (2 ^ k) ≡ true → least_width len k (16 - k) ≡ k
unfolding least_width
found len k below is = let e : 16 - k ≡ suc (15 - k) = omega arith in rw (e, is) refl

pub next : (len k : ℕ) → k < 16 → nat_le len (2 ^ k) ≡ false → least_width len k (16 - k) ≡ least_width len (k + 1) (16 - (k + 1))
unfolding least_width
next len k below not = let e : 16 - k ≡ suc (16 - (k + 1)) = omega arith in rw (e, not) refl

pub last : (len k : ℕ) → 16 ≤ k → least_width len k (16 - k) ≡ k
unfolding least_width
last len k above = let e : 16 - k ≡ zero = omega arith in rw e refl
