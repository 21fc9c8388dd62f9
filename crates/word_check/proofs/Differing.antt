-- What a difference that comes to nothing tells.
use Rattle.std.proofs.Common.{◌≡◌, ℕ, ◌+◌, ◌-◌, ◌*◌, ◌%◌, ◌^◌, ◌<◌, List, length, sym, ◌∙◌, ap, subst, arith}
use Rattle.std.specs.Prelude.{slice_index, replicate}
use Rattle.std.proofs.lemmas.Option.{slice_get-get_or}
use Rattle.std.proofs.lemmas.Nat.{pow_pos}
use Rattle.dag.specs.declared.node.Node.{Node}
use Rattle.word_check.specs.Valuation.{AreValuesOf, AlwaysSame}
use Rattle.word_check.specs.Overlaps.{overlaps}
use Rattle.word_check.specs.Sums.{total, weighed, Begins, KeepsTotal, IsZero}
use Rattle.word_check.specs.declared.sums.Sum.{Sum}
use Rattle.word_check.proofs.Modular.{equal_from}
use Rattle.word_check.proofs.Weighing.{weighed_none, replicate_zero}

-- the value at a place is below 2 ^ its width
pub value_below : (nodes : List Node) (ws vs : List ℕ) (k : ℕ) → AreValuesOf nodes ws vs → k < length ws → slice_index vs k < 2 ^ slice_index ws k
value_below nodes ws vs k h lt = (h.words k (slice_index ws k) (slice_get-get_or ws k 0 lt)).within

pub no_difference : (nodes : List Node) (ws : List ℕ) (first second : ℕ) (s0 s1 s2 : Sum) (n : ℕ) → length ws ≡ length nodes → first < length nodes → second < length nodes → slice_index ws first ≡ slice_index ws second
    → s0.constant ≡ 0 → s0.factors.items ≡ replicate n 0 → s0.overlaps.items ≡ replicate n 0 → Begins (slice_index ws first) s0 s1 first second → KeepsTotal nodes ws (slice_index ws first) s1 s2 → IsZero s2 → AlwaysSame nodes ws first second
no_difference nodes ws first second s0 s1 s2 n size one two same constant factors both begins keeps none_left vs h =
    let w : ℕ = slice_index ws first in
    let clear : (us : List ℕ) → weighed (replicate n 0) us ≡ 0 = λ us. weighed_none (replicate n 0) us (λ i lt. replicate_zero n i) in
    let none : total nodes s0 vs ≡ 0 = rw (constant, factors, both) (nothing (weighed (replicate n 0) (overlaps nodes vs)) (weighed (replicate n 0) vs) (clear (overlaps nodes vs)) (clear vs)) in
    let a : ℕ = slice_index vs first in
    let b : ℕ = slice_index vs second in
    let e : 0 % 2 ^ w ≡ (0 + (1 * a + (2 ^ w - 1) * b)) % 2 ^ w =
    ap (λ (k : ℕ). k % 2 ^ w) (sym (none_left nodes vs)) ∙ keeps vs h ∙ begins nodes vs ∙ ap (λ (k : ℕ). (k + (1 * a + (2 ^ w - 1) * b)) % 2 ^ w) none in
    let q : b < 2 ^ w = subst (λ (k : ℕ). b < 2 ^ k) (sym same) (value_below nodes ws vs second h (omega (arith, two, size))) in
    equal_from (2 ^ w) a b (pow_pos w) (value_below nodes ws vs first h (omega (arith, one, size))) q (e ∙ ap (λ (k : ℕ). k % 2 ^ w) (start (1 * a + (2 ^ w - 1) * b)))
  where
    start : (k : ℕ) → 0 + k ≡ k
    start k = omega arith

    nothing : (a b : ℕ) → a ≡ 0 → b ≡ 0 → 0 + a + b ≡ 0
    nothing a b p q = omega (arith, p, q)
