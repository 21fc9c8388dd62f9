-- What the parts of bitwise nodes come to.
use Rattle.std.proofs.Common.{◌≡◌, ℕ, zero, suc, ◌+◌, ◌-◌, ◌*◌, ◌%◌, ◌^◌, ◌<◌, List, refl, sym, ◌∙◌, ap, arith, Some}
use Rattle.std.specs.Prelude.{option_map, slice_get, slice_index, bit_and, bit_or, bit_xor}
use Rattle.std.specs.Int.Bits.{or_add_and, xor_add_and}
use Rattle.std.proofs.Math.Nat.{mod-eq_of_lt}
use Rattle.std.proofs.lemmas.Nat.{pow_pos, and_comm}
use Rattle.std.proofs.lemmas.Option.{slice_get-map, get_or_from_slice_get}
use Rattle.bv_words.specs.Words.{times}
use Rattle.dag.specs.declared.node.NodeId.{NodeId}
use Rattle.dag.specs.declared.node.Node.{Node}
use Rattle.dag.specs.declared.node.Node.TheVariants.{And, Or, Xor}
use Rattle.word_check.specs.Overlaps.{overlap, overlaps, IsOverlapOf, HasOverlap}
use Rattle.word_check.specs.Sums.{IsSame, AreBitParts}
use Rattle.word_check.specs.declared.sums.Term.{Term}
use Rattle.word_check.proofs.Modular.{add_same, same_mul, same_less, add_multiple}
use Rattle.word_check.proofs.PartLaws.{opposite, times_same}

-- the overlap at a place is that of the node there
pub overlap_at : (nodes : List Node) (a b : NodeId) (place : ℕ) (n : Node) → slice_get nodes place ≡ Some n → IsOverlapOf a b n → HasOverlap nodes a b place
overlap_at nodes a b place n at is vs =
    get_or_from_slice_get (overlaps nodes vs) place (overlap vs n) 0 (slice_get-map (overlap vs) nodes place ∙ ap (option_map (overlap vs)) at) ∙ is vs

pub overlap_turned : (a b : NodeId) (n : Node) → IsOverlapOf b a n → IsOverlapOf a b n
overlap_turned a b n is vs = is vs ∙ and_comm (slice_index vs b.0) (slice_index vs a.0)

-- what two numbers are less a third one, times a factor
pub less_share : (w k v o a b : ℕ) → v + o ≡ a + b → IsSame w (k * a + k * b + times w k (2 ^ w - 1) * o) (k * v)
less_share w k v o a b e =
    let m : ℕ = 2 ^ w in
    let none : (k * ((m - 1) * o + o)) % m ≡ 0 = ap (λ (n : ℕ). n % m) (all m (pow_pos w)) ∙ add_multiple m 0 (k * o) ∙ mod-eq_of_lt (pow_pos w) in
    let less : IsSame w (times w k (2 ^ w - 1) * o) (k * ((m - 1) * o)) = opposite w k o ((m - 1) * o) none in
    let p : (k * a + k * b + times w k (2 ^ w - 1) * o + k * o) % m ≡ (k * a + k * b + k * o + k * ((m - 1) * o)) % m =
    ap (λ (n : ℕ). n % m) (group (k * a + k * b) (times w k (2 ^ w - 1) * o) (k * o)) ∙ add_same m (k * a + k * b + k * o) (k * a + k * b + k * o) (times w k (2 ^ w - 1) * o) (k * ((m - 1) * o)) refl less in
    let q : k * a + k * b + k * o + k * ((m - 1) * o) ≡ k * v + k * o + m * (k * o) = last m (pow_pos w) in
    same_less m (k * a + k * b + times w k (2 ^ w - 1) * o) (k * v) (k * o) (pow_pos w) (p ∙ ap (λ (n : ℕ). n % m) q ∙ add_multiple m (k * v + k * o) (k * o))
  where
    group : (s t u : ℕ) → s + t + u ≡ s + u + t
    group s t u = omega arith

    all : (m : ℕ) → 0 < m → k * ((m - 1) * o + o) ≡ 0 + m * (k * o)
    all zero h = absurd (omega (arith, h))
    all (suc n) h = let d : suc n - 1 ≡ n = omega arith in rw d (omega arith)

    both : k * v + k * o ≡ k * a + k * b
    both = let f : k * (v + o) ≡ k * (a + b) = ap (λ (n : ℕ). k * n) e in omega (arith, f)

    last : (m : ℕ) → 0 < m → k * a + k * b + k * o + k * ((m - 1) * o) ≡ k * v + k * o + m * (k * o)
    last zero h = absurd (omega (arith, h))
    last (suc n) h = let d : suc n - 1 ≡ n = omega arith in rw d (omega (arith, both))

-- the same less twice the third one
pub twice_less_share : (w k v o a b : ℕ) → v + o * 2 ≡ a + b → IsSame w (k * a + k * b + times w (times w k (2 ^ w - 1)) 2 * o) (k * v)
twice_less_share w k v o a b e =
    let m : ℕ = 2 ^ w in
    let t : ℕ = times w k (2 ^ w - 1) in
    let p : (times w t 2 * o) % m ≡ (t * (o * 2)) % m = same_mul m o (times w t 2) (t * 2) (times_same w t 2) ∙ ap (λ (n : ℕ). n % m) (turn t o) in
    add_same m (k * a + k * b) (k * a + k * b) (times w t 2 * o) (t * (o * 2)) refl p ∙ less_share w k v (o * 2) a b e
  where
    turn : (t o : ℕ) → t * 2 * o ≡ t * (o * 2)
    turn t o = omega arith

pub both_parts : (nodes : List Node) (w : ℕ) (t : Term) (a b : NodeId) (x y place : ℕ) → slice_get nodes t.place ≡ Some (And a b) → HasOverlap nodes a b place
    → AreBitParts nodes w t (record { left = record { factor = 0; place = x }; right = record { factor = 0; place = y }; both = record { factor = t.factor; place = place } })
both_parts nodes w t a b x y place at has ws vs h =
    ap (λ (n : ℕ). n % 2 ^ w) (none (slice_index vs x) (slice_index vs y) (t.factor * slice_index (overlaps nodes vs) place)) ∙ ap (λ (n : ℕ). (t.factor * n) % 2 ^ w) (has vs ∙ sym (h.each t.place (And a b) at))
  where
    none : (p q r : ℕ) → 0 * p + 0 * q + r ≡ r
    none p q r = omega arith

pub either_parts : (nodes : List Node) (w : ℕ) (t : Term) (a b : NodeId) (f place : ℕ) → slice_get nodes t.place ≡ Some (Or a b) → HasOverlap nodes a b place → f ≡ times w t.factor (2 ^ w - 1)
    → AreBitParts nodes w t (record { left = record { factor = t.factor; place = a.0 }; right = record { factor = t.factor; place = b.0 }; both = record { factor = f; place = place } })
either_parts nodes w t a b f place at has is ws vs h =
    let x : ℕ = slice_index vs a.0 in
    let y : ℕ = slice_index vs b.0 in
    let k : ℕ = t.factor in
    ap (λ (n : ℕ). (k * x + k * y + f * n) % 2 ^ w) (has vs) ∙ ap (λ (n : ℕ). (k * x + k * y + n * bit_and x y) % 2 ^ w) is
    ∙ less_share w k (bit_or x y) (bit_and x y) x y (or_add_and x y) ∙ ap (λ (n : ℕ). (k * n) % 2 ^ w) (sym (h.each t.place (Or a b) at))

pub one_of_parts : (nodes : List Node) (w : ℕ) (t : Term) (a b : NodeId) (f place : ℕ) → slice_get nodes t.place ≡ Some (Xor a b) → HasOverlap nodes a b place → f ≡ times w (times w t.factor (2 ^ w - 1)) 2
    → AreBitParts nodes w t (record { left = record { factor = t.factor; place = a.0 }; right = record { factor = t.factor; place = b.0 }; both = record { factor = f; place = place } })
one_of_parts nodes w t a b f place at has is ws vs h =
    let x : ℕ = slice_index vs a.0 in
    let y : ℕ = slice_index vs b.0 in
    let k : ℕ = t.factor in
    ap (λ (n : ℕ). (k * x + k * y + f * n) % 2 ^ w) (has vs) ∙ ap (λ (n : ℕ). (k * x + k * y + n * bit_and x y) % 2 ^ w) is
    ∙ twice_less_share w k (bit_xor x y) (bit_and x y) x y (xor_add_and x y) ∙ ap (λ (n : ℕ). (k * n) % 2 ^ w) (sym (h.each t.place (Xor a b) at))
