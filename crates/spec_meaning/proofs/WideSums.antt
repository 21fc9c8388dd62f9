-- Sums that leave 128 bits on the way.
use Rattle.std.proofs.Common.{◌≡◌, ℕ, zero, suc, ◌+◌, ◌-◌, ◌*◌, ◌^◌, ◌<◌, ◌≤◌, true, false, rules, refl, sym, ◌∙◌, ap, arith, List, ◌∷◌, drop, length, get_or, drop-cons, add-one}
use mir.Syntax.{w128}
use Rattle.std.specs.Prelude.{ℤ, pos, negsuc, ◌+ℤ◌, ◌*ℤ◌, FitsSigned, nat_lt, Result, Ok, Err}
use Rattle.std.proofs.lemmas.Int.{ints}
use Rattle.spec_meaning.specs.declared.value.Value.{Value}
use Rattle.spec_meaning.specs.declared.value.Value.TheVariants.{Number}
use Rattle.spec_meaning.specs.declared.value.Why.{Why}
use Rattle.spec_meaning.specs.declared.value.Why.TheVariants.{TooWide}
use Rattle.spec_meaning.specs.Checks.{fits, narrow, number}
use Rattle.spec_meaning.specs.Table.{sum_from}
use Rattle.spec_meaning.specs.WideSums.{whole}

pub none_yet : whole (pos 0) (pos 0) ≡ pos 0
unfolding whole
none_yet = refl

pub one_more : (low z sum turns turn : ℤ) → whole sum turn ≡ low +ℤ z → whole sum (turns +ℤ turn) ≡ whole low turns +ℤ z
unfolding whole
one_more low z sum turns turn is = omega (arith, ints, is)

fits_low : (z : ℤ) → FitsSigned w128 z → fits z ≡ true
fits_low (pos n) f = let below : n < 2 ^ 127 = f.sfits in search rules
fits_low (negsuc n) f = let below : n < 2 ^ 127 = f.sfits in search rules

pub within : (low turns : ℤ) → FitsSigned w128 low → turns ≡ pos 0 → narrow (whole low turns) ≡ Ok (Number low)
unfolding whole
within low turns f none =
    let same : low +ℤ pos 0 *ℤ pos (2 ^ 128) ≡ low = omega (arith, ints) in
    rw none (rw (same, fits_low low f) refl)

too_high : (z : ℤ) (n : ℕ) → z ≡ pos n → 2 ^ 127 ≤ n → narrow z ≡ Err TooWide
too_high z n is high = let not : nat_lt n (2 ^ 127) ≡ false = search rules in rw (is, not) refl

too_low : (z : ℤ) (n : ℕ) → z ≡ negsuc n → 2 ^ 127 ≤ n → narrow z ≡ Err TooWide
too_low z n is low = let not : nat_lt n (2 ^ 127) ≡ false = search rules in rw (is, not) refl

-- a turn is wider than the range
above : (low : ℤ) (m : ℕ) → FitsSigned w128 low → 2 ^ 128 ≤ m → narrow (low +ℤ pos m) ≡ Err TooWide
above (pos n) m f far = too_high (pos n +ℤ pos m) (n + m) (omega (arith, ints)) (omega (arith, far))
above (negsuc n) m f far =
    let below : n < 2 ^ 127 = f.sfits in
    too_high (negsuc n +ℤ pos m) (m - suc n) (omega (arith, ints, far, below)) (omega (arith, far, below))

under : (low : ℤ) (m : ℕ) → FitsSigned w128 low → 2 ^ 128 ≤ suc m → narrow (low +ℤ negsuc m) ≡ Err TooWide
under (pos n) m f far =
    let below : n < 2 ^ 127 = f.sfits in
    too_low (pos n +ℤ negsuc m) (m - n) (omega (arith, ints, far, below)) (omega (arith, far, below))
under (negsuc n) m f far = too_low (negsuc n +ℤ negsuc m) (suc (n + m)) (omega (arith, ints)) (omega (arith, far))

pub beyond : (low turns : ℤ) → FitsSigned w128 low → (turns ≡ pos 0 → ⊥) → narrow (whole low turns) ≡ Err TooWide
unfolding whole
beyond low (pos zero) f some = absurd (some refl)
beyond low (pos (suc k)) f some = above low (suc k * 2 ^ 128) f (omega arith)
beyond low (negsuc k) f some =
    let m : ℕ = suc k * 2 ^ 128 - 1 in
    let is : negsuc k *ℤ pos (2 ^ 128) ≡ negsuc m = omega (arith, ints) in
    rw is (under low m f (omega arith))

-- a sum with one number more
pub stepped : (before after z : ℤ) (values : List Value) (v : Value) (i : ℕ) (all : Result Value Why) → i < length values → v ≡ get_or values i v → number v ≡ Ok z → after ≡ before +ℤ z → sum_from before (drop i values) ≡ all → sum_from after (drop (i + 1) values) ≡ all
stepped before after z values v i all inside is here sum start =
    let first : drop i values ≡ v ∷ drop (i + 1) values = rw (add-one, drop-cons values i v inside, ← is) refl in
    let step : sum_from before (v ∷ drop (i + 1) values) ≡ sum_from after (drop (i + 1) values) = rw (here, sum) refl in
    sym step ∙ ap (sum_from before) (sym first) ∙ start
