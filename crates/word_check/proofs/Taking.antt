-- Each input gives the leaves the bits of some number.
use Rattle.std.proofs.Common.{◌≡◌, ℕ, zero, suc, ◌+◌, ◌*◌, ◌/◌, ◌%◌, ◌^◌, ◌<◌, ◌≤◌, List, [], ◌∷◌, ◌++◌, refl, arith}
use Rattle.std.specs.Prelude.{slice_index}
use Rattle.std.proofs.Math.Nat.{div-one}
use Rattle.std.proofs.lemmas.Nat.{mul-le, pow-add, shr_high, mod_low}
use Rattle.dag.specs.Node.{node_value, values_from}
use Rattle.dag.specs.declared.node.Node.{Node}
use Rattle.dag.specs.declared.node.Node.TheVariants.{Leaf, Const, Not, And, Or, Xor, Neg, Plus, Times, Eq, Ult, Slt, Ite, Slice, Cat, Sext, Shl, Shr, Udiv, Urem}
use Rattle.bit_blaster.specs.Circuit.{FitsLeaves}
use Rattle.word_check.specs.Trying.{bits_of, leaf_bits, taken_value, taken_from}

-- a number whose bits give the leaves of nodes what the input gives them
pub record Gives (input ws vs : List ℕ) (ns : List Node) : Type 0 where
  pub number : ℕ
  pub below : number < 2 ^ leaf_bits ns
  pub same : taken_from number ws vs ns ≡ values_from input ws vs ns

gives_leaf : (input ws vs : List ℕ) (w i : ℕ) (ns : List Node) → slice_index input i < 2 ^ w → Gives input ws (vs ++ slice_index input i ∷ []) ns → Gives input ws vs (Leaf w i ∷ ns)
unfolding leaf_bits taken_from
gives_leaf input ws vs w i ns lt g =
    let x : ℕ = slice_index input i in
    let low : (g.number * 2 ^ w + x) % 2 ^ w ≡ x = mod_low g.number w x lt in
    let high : (g.number * 2 ^ w + x) / 2 ^ w ≡ g.number = shr_high g.number w x lt in
    record {
      number = g.number * 2 ^ w + x;
      below = rw (pow-add 2 w (leaf_bits ns)) (under g.number x (2 ^ w) (2 ^ leaf_bits ns) lt g.below);
      same = rw (low, high) g.same;
    }
  where
    le_times : (a n b : ℕ) → n ≤ b → n * a ≤ b * a
    le_times a n b h = mul-le n a b a h (omega arith)

    under : (n x a b : ℕ) → x < a → n < b → n * a + x < a * b
    under n x a zero p q = absurd (omega (arith, q))
    under n x a (suc b) p q = let le : n * a ≤ b * a = le_times a n b (omega (arith, q)) in omega (arith, p, le)

gives_plain : (input ws vs : List ℕ) (n : Node) (ns : List Node) → bits_of n ≡ 0 → ((k : ℕ) → taken_value k ws vs n ≡ node_value input ws vs n) → Gives input ws (vs ++ node_value input ws vs n ∷ []) ns → Gives input ws vs (n ∷ ns)
unfolding leaf_bits taken_from
gives_plain input ws vs n ns none same g =
    let all : 0 + leaf_bits ns ≡ leaf_bits ns = omega arith in
    record {
      number = g.number;
      below = rw (none, all) g.below;
      same = rw (none, div-one g.number, same g.number) g.same;
    }

pub gives : (input ws vs : List ℕ) (ns : List Node) → FitsLeaves input ns → Gives input ws vs ns
unfolding leaf_bits taken_from
gives input ws vs [] h = record { number = 0; below = omega arith; same = refl }
gives input ws vs (Leaf w i ∷ ns) h = gives_leaf input ws vs w i ns h.0 (gives input ws (vs ++ slice_index input i ∷ []) ns h.1)
gives input ws vs (Const u v ∷ ns) h = gives_plain input ws vs (Const u v) ns refl (λ k. refl) (gives input ws _ ns h.1)
gives input ws vs (Not a ∷ ns) h = gives_plain input ws vs (Not a) ns refl (λ k. refl) (gives input ws _ ns h.1)
gives input ws vs (And a b ∷ ns) h = gives_plain input ws vs (And a b) ns refl (λ k. refl) (gives input ws _ ns h.1)
gives input ws vs (Or a b ∷ ns) h = gives_plain input ws vs (Or a b) ns refl (λ k. refl) (gives input ws _ ns h.1)
gives input ws vs (Xor a b ∷ ns) h = gives_plain input ws vs (Xor a b) ns refl (λ k. refl) (gives input ws _ ns h.1)
gives input ws vs (Neg a ∷ ns) h = gives_plain input ws vs (Neg a) ns refl (λ k. refl) (gives input ws _ ns h.1)
gives input ws vs (Plus a b ∷ ns) h = gives_plain input ws vs (Plus a b) ns refl (λ k. refl) (gives input ws _ ns h.1)
gives input ws vs (Times a b ∷ ns) h = gives_plain input ws vs (Times a b) ns refl (λ k. refl) (gives input ws _ ns h.1)
gives input ws vs (Eq a b ∷ ns) h = gives_plain input ws vs (Eq a b) ns refl (λ k. refl) (gives input ws _ ns h.1)
gives input ws vs (Ult a b ∷ ns) h = gives_plain input ws vs (Ult a b) ns refl (λ k. refl) (gives input ws _ ns h.1)
gives input ws vs (Slt a b ∷ ns) h = gives_plain input ws vs (Slt a b) ns refl (λ k. refl) (gives input ws _ ns h.1)
gives input ws vs (Ite a b c ∷ ns) h = gives_plain input ws vs (Ite a b c) ns refl (λ k. refl) (gives input ws _ ns h.1)
gives input ws vs (Slice t l a ∷ ns) h = gives_plain input ws vs (Slice t l a) ns refl (λ k. refl) (gives input ws _ ns h.1)
gives input ws vs (Cat a b ∷ ns) h = gives_plain input ws vs (Cat a b) ns refl (λ k. refl) (gives input ws _ ns h.1)
gives input ws vs (Sext u a ∷ ns) h = gives_plain input ws vs (Sext u a) ns refl (λ k. refl) (gives input ws _ ns h.1)
gives input ws vs (Shl a b ∷ ns) h = gives_plain input ws vs (Shl a b) ns refl (λ k. refl) (gives input ws _ ns h.1)
gives input ws vs (Shr a b ∷ ns) h = gives_plain input ws vs (Shr a b) ns refl (λ k. refl) (gives input ws _ ns h.1)
gives input ws vs (Udiv a b ∷ ns) h = gives_plain input ws vs (Udiv a b) ns refl (λ k. refl) (gives input ws _ ns h.1)
gives input ws vs (Urem a b ∷ ns) h = gives_plain input ws vs (Urem a b) ns refl (λ k. refl) (gives input ws _ ns h.1)
