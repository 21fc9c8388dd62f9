-- The leaves of parameters: how many there are, how many bits they have, and where each lies.
use Rattle.std.proofs.Common.{◌≡◌, ℕ, zero, suc, ◌+◌, ◌-◌, ◌*◌, ◌^◌, ◌<◌, ◌≤◌, List, [], ◌∷◌, ◌++◌, length, refl, sym, ap, ◌∙◌, subst, arith, length-append, drop, drop-cons, get_or, add-one}
use Rattle.std.proofs.lemmas.List.{length-replicate}
use Rattle.std.proofs.lemmas.Option.{none-some, slice_get-get_or}
use Rattle.std.proofs.Math.Nat.{pow-le-pow_right}
use Rattle.std.specs.Prelude.{replicate, Some, None, slice_get, slice_index}
use Rattle.axe_io.specs.declared.parameters.Param.{Param}
use Rattle.axe_io.specs.declared.parameters.Kind.{Kind}
use Rattle.axe_io.specs.declared.parameters.Kind.TheVariants.{Byte, Char, Short, Int, Long}
use Rattle.axe_io.specs.Shapes.{leaf_widths, leaf_count, width_of}
use Rattle.axe_io.specs.Inputs.{bits_of}

pub bits_of-replicate : (n w : ℕ) (ws : List ℕ) → bits_of (replicate n w ++ ws) ≡ n * w + bits_of ws
bits_of-replicate zero w ws = omega arith
bits_of-replicate (suc n) w ws = omega (arith, bits_of-replicate n w ws)

pub length-leaf_widths : (p : Param) (ps : List Param) → length (leaf_widths (p ∷ ps)) ≡ leaf_count p + length (leaf_widths ps)
length-leaf_widths p ps = length-append (replicate (leaf_count p) (width_of p.kind)) (leaf_widths ps) ∙ ap (λ n. n + length (leaf_widths ps)) (length-replicate (leaf_count p) (width_of p.kind))

some_is : {A : Type 0} (x y d : A) → Some x ≡ Some y → x ≡ y
some_is x y d is = ap (λ o. elim o [ Some v ↦ v | None ↦ d ]) is

kind_narrow : (k : Kind) → width_of k ≤ 64
kind_narrow Byte = omega arith
kind_narrow Char = omega arith
kind_narrow Short = omega arith
kind_narrow Int = omega arith
kind_narrow Long = omega arith

kind_bits : (n : ℕ) (k : Kind) → n * width_of k ≤ 64 * n
kind_bits n Byte = omega arith
kind_bits n Char = omega arith
kind_bits n Short = omega arith
kind_bits n Int = omega arith
kind_bits n Long = omega arith

-- no leaf has more than 64 bits
pub bits_of-le : (ps : List Param) → bits_of (leaf_widths ps) ≤ 64 * length (leaf_widths ps)
bits_of-le [] = omega arith
bits_of-le (p ∷ ps) = rw (length-leaf_widths p ps, bits_of-replicate (leaf_count p) (width_of p.kind) (leaf_widths ps)) (omega (arith, bits_of-le ps, kind_bits (leaf_count p) p.kind))

narrow_more : (n w : ℕ) (ws : List ℕ) → w ≤ 64 → ((k v : ℕ) → slice_get ws k ≡ Some v → v ≤ 64) → (k v : ℕ) → slice_get (replicate n w ++ ws) k ≡ Some v → v ≤ 64
narrow_more zero w ws le rest k v is = rest k v is
narrow_more (suc n) w ws le rest zero v is = let same : w ≡ v = some_is w v w is in subst (λ (m : ℕ). m ≤ 64) same le
narrow_more (suc n) w ws le rest (suc k) v is = narrow_more n w ws le rest k v is

pub narrow : (ps : List Param) (k w : ℕ) → slice_get (leaf_widths ps) k ≡ Some w → w ≤ 64
narrow [] k w is = absurd (none-some w is)
narrow (p ∷ ps) k w is = narrow_more (leaf_count p) (width_of p.kind) (leaf_widths ps) (kind_narrow p.kind) (narrow ps) k w is

pub slice_get-replicate_before : (n w : ℕ) (ws : List ℕ) (k : ℕ) → k < n → slice_get (replicate n w ++ ws) k ≡ Some w
slice_get-replicate_before zero w ws k lt = absurd (omega (arith, lt))
slice_get-replicate_before (suc n) w ws zero lt = refl
slice_get-replicate_before (suc n) w ws (suc k) lt = slice_get-replicate_before n w ws k (omega (arith, lt))

pub slice_get-replicate_after : (n w : ℕ) (ws : List ℕ) (k : ℕ) → n ≤ k → slice_get (replicate n w ++ ws) k ≡ slice_get ws (k - n)
slice_get-replicate_after zero w ws k le = let e : k ≡ k - 0 = omega arith in ap (slice_get ws) e
slice_get-replicate_after (suc n) w ws zero le = absurd (omega (arith, le))
slice_get-replicate_after (suc n) w ws (suc k) le = let e : k - n ≡ suc k - suc n = omega arith in slice_get-replicate_after n w ws k (omega (arith, le)) ∙ ap (slice_get ws) e

-- the first of the parameters that are left
pub bits_next : (ps : List Param) (i : ℕ) (d : Param) → i < length ps → bits_of (leaf_widths (drop i ps)) ≡ leaf_count (get_or ps i d) * width_of (get_or ps i d).kind + bits_of (leaf_widths (drop (i + 1) ps))
bits_next ps i d lt = rw (add-one, drop-cons ps i d lt) (bits_of-replicate (leaf_count (get_or ps i d)) (width_of (get_or ps i d).kind) (leaf_widths (drop (suc i) ps)))

pub found : (ps : List Param) (i : ℕ) (d : Param) (left : ℕ) → i < length ps → left < leaf_count (get_or ps i d) → slice_get (leaf_widths (drop i ps)) left ≡ Some (width_of (get_or ps i d).kind)
found ps i d left lt before = rw (drop-cons ps i d lt) (slice_get-replicate_before (leaf_count (get_or ps i d)) (width_of (get_or ps i d).kind) (leaf_widths (drop (suc i) ps)) left before)

pub passed : (ps : List Param) (i : ℕ) (d : Param) (left : ℕ) → i < length ps → leaf_count (get_or ps i d) ≤ left → slice_get (leaf_widths (drop (i + 1) ps)) (left - leaf_count (get_or ps i d)) ≡ slice_get (leaf_widths (drop i ps)) left
passed ps i d left lt after = rw (add-one, drop-cons ps i d lt) (sym (slice_get-replicate_after (leaf_count (get_or ps i d)) (width_of (get_or ps i d).kind) (leaf_widths (drop (suc i) ps)) left after))

-- what a read past the end of parameters would give
abbrev pub no_param : Param
no_param = record { kind = Byte; len = None }

-- a number below the power of a leaf's width is below 2^64
pub below_word : (ps : List Param) (k n : ℕ) → k < length (leaf_widths ps) → n < 2 ^ slice_index (leaf_widths ps) k → n < 2 ^ 64
below_word ps k n lt below =
    let le : slice_index (leaf_widths ps) k ≤ 64 = narrow ps k (slice_index (leaf_widths ps) k) (slice_get-get_or (leaf_widths ps) k 0 lt) in
    omega (arith, below, pow-le-pow_right {n = 2} (omega arith) le)
