-- Nodes of width 1 as truth values: And, Or, Not, Xor, Eq, Ult and Ite on bits are the connectives.
use Rattle.std.proofs.Common.{◌≡◌, ℕ, zero, suc, ◌<◌, Bool, true, false, ◌&&◌, ◌||◌, not, cond, nat_eq, nat_lt, Option, Some, List, refl, ap, ◌∙◌, arith}
use Rattle.std.specs.Prelude.{slice_get, slice_index, bit_and, bit_or, bit_xor}
use Rattle.std.proofs.lemmas.Option.{get_or_from_slice_get}
use Rattle.std.proofs.lemmas.Bool.Decides.{nat_tests}
use Rattle.bv_words.specs.Words.{bit_not, one_if}
use Rattle.dag.specs.declared.node.NodeId.{NodeId}
use Rattle.dag.specs.declared.node.Node.TheVariants.{And, Or, Not, Eq, Ult}
use Rattle.dag.specs.Node.{same_width, test_width}
use Rattle.dag.specs.Graph.{Graph, AreValues, Makes, HasWidth, is_on}

-- ---- bits

pub bit_below : (g : Graph) (input values : List ℕ) (id : NodeId) → AreValues g input values → HasWidth g.widths id.0 1 → slice_index values id.0 < 2
bit_below g input values id are wide = let w = (are.words id.0 1 wide).within in omega (arith, w)

pub one_if_on : (b : Bool) → nat_eq (one_if b) 1 ≡ b
one_if_on true = refl
one_if_on false = refl

-- a bit is the number of its truth value
pub on_bit : (a : ℕ) → a < 2 → one_if (nat_eq a 1) ≡ a
on_bit zero p = refl
on_bit (suc zero) p = refl
on_bit (suc (suc a)) p = absurd (omega arith)

pub and_bits : (a b : ℕ) → a < 2 → b < 2 → nat_eq (bit_and a b) 1 ≡ (nat_eq a 1 && nat_eq b 1)
and_bits zero zero p q = refl
and_bits zero (suc zero) p q = refl
and_bits zero (suc (suc b)) p q = absurd (omega arith)
and_bits (suc zero) zero p q = refl
and_bits (suc zero) (suc zero) p q = refl
and_bits (suc zero) (suc (suc b)) p q = absurd (omega arith)
and_bits (suc (suc a)) b p q = absurd (omega arith)

pub or_bits : (a b : ℕ) → a < 2 → b < 2 → nat_eq (bit_or a b) 1 ≡ (nat_eq a 1 || nat_eq b 1)
or_bits zero zero p q = refl
or_bits zero (suc zero) p q = refl
or_bits zero (suc (suc b)) p q = absurd (omega arith)
or_bits (suc zero) zero p q = refl
or_bits (suc zero) (suc zero) p q = refl
or_bits (suc zero) (suc (suc b)) p q = absurd (omega arith)
or_bits (suc (suc a)) b p q = absurd (omega arith)

-- exclusive or is that they differ
pub xor_bits : (a b : ℕ) → a < 2 → b < 2 → nat_eq (bit_xor a b) 1 ≡ cond (nat_eq a 1) (not (nat_eq b 1)) (nat_eq b 1)
xor_bits zero zero p q = refl
xor_bits zero (suc zero) p q = refl
xor_bits zero (suc (suc b)) p q = absurd (omega arith)
xor_bits (suc zero) zero p q = refl
xor_bits (suc zero) (suc zero) p q = refl
xor_bits (suc zero) (suc (suc b)) p q = absurd (omega arith)
xor_bits (suc (suc a)) b p q = absurd (omega arith)

pub not_bit : (w a : ℕ) → w ≡ 1 → a < 2 → nat_eq (bit_not w a) 1 ≡ not (nat_eq a 1)
unfolding bit_not
not_bit w zero e p = rw e refl
not_bit w (suc zero) e p = rw e refl
not_bit w (suc (suc a)) e p = absurd (omega arith)

-- two bits are equal where both or none is 1
pub eq_bits : (a b : ℕ) → a < 2 → b < 2 → nat_eq a b ≡ cond (nat_eq a 1) (nat_eq b 1) (not (nat_eq b 1))
eq_bits zero zero p q = refl
eq_bits zero (suc zero) p q = refl
eq_bits zero (suc (suc b)) p q = absurd (omega arith)
eq_bits (suc zero) zero p q = refl
eq_bits (suc zero) (suc zero) p q = refl
eq_bits (suc zero) (suc (suc b)) p q = absurd (omega arith)
eq_bits (suc (suc a)) b p q = absurd (omega arith)

-- one bit is below another where just the other is 1
pub ult_bits : (a b : ℕ) → a < 2 → b < 2 → nat_lt a b ≡ (not (nat_eq a 1) && nat_eq b 1)
ult_bits zero zero p q = refl
ult_bits zero (suc zero) p q = refl
ult_bits zero (suc (suc b)) p q = absurd (omega arith)
ult_bits (suc zero) zero p q = refl
ult_bits (suc zero) (suc zero) p q = refl
ult_bits (suc zero) (suc (suc b)) p q = absurd (omega arith)
ult_bits (suc (suc a)) b p q = absurd (omega arith)

-- ---- nodes that were made of bits

both_widths : (a b : Option ℕ) → a ≡ Some 1 → b ≡ Some 1 → same_width a b ≡ Some 1
both_widths a b p q = rw (p, q) refl

tested : (a b : Option ℕ) (w : ℕ) → a ≡ Some w → same_width a b ≡ Some w → test_width (same_width a b) ≡ Some 1
tested a b w p q = rw q refl

-- two bits of a graph, in a longer one
record Bits (g : Graph) (values : List ℕ) (a b : NodeId) : Type 0 where
  first : slice_index values a.0 < 2
  second : slice_index values b.0 < 2

bits : (old new : Graph) (input values : List ℕ) (a b c : NodeId) (n : _) → HasWidth old.widths a.0 1 → HasWidth old.widths b.0 1 → Makes old new n c.0 → AreValues new input values → Bits new values a b
bits old new input values a b c n p q m are = record {
  first = bit_below new input values a are (m.grows.widths a.0 1 p);
  second = bit_below new input values b are (m.grows.widths b.0 1 q);
}

pub and_width : (old new : Graph) (a b c : NodeId) → HasWidth old.widths a.0 1 → HasWidth old.widths b.0 1 → Makes old new (And a b) c.0 → HasWidth new.widths c.0 1
and_width old new a b c p q m = m.width ∙ both_widths _ _ p q

pub and_on : (old new : Graph) (a b c : NodeId) → HasWidth old.widths a.0 1 → HasWidth old.widths b.0 1 → Makes old new (And a b) c.0 → (input values : List ℕ) → AreValues new input values → is_on values c ≡ (is_on values a && is_on values b)
and_on old new a b c p q m input values are = let s = bits old new input values a b c (And a b) p q m are in ap (λ (n : ℕ). nat_eq n 1) (m.value input values are) ∙ and_bits (slice_index values a.0) (slice_index values b.0) s.first s.second

pub or_width : (old new : Graph) (a b c : NodeId) → HasWidth old.widths a.0 1 → HasWidth old.widths b.0 1 → Makes old new (Or a b) c.0 → HasWidth new.widths c.0 1
or_width old new a b c p q m = m.width ∙ both_widths _ _ p q

pub or_on : (old new : Graph) (a b c : NodeId) → HasWidth old.widths a.0 1 → HasWidth old.widths b.0 1 → Makes old new (Or a b) c.0 → (input values : List ℕ) → AreValues new input values → is_on values c ≡ (is_on values a || is_on values b)
or_on old new a b c p q m input values are = let s = bits old new input values a b c (Or a b) p q m are in ap (λ (n : ℕ). nat_eq n 1) (m.value input values are) ∙ or_bits (slice_index values a.0) (slice_index values b.0) s.first s.second

pub not_width : (old new : Graph) (a c : NodeId) → HasWidth old.widths a.0 1 → Makes old new (Not a) c.0 → HasWidth new.widths c.0 1
not_width old new a c p m = m.width ∙ p

pub not_on : (old new : Graph) (a c : NodeId) → HasWidth old.widths a.0 1 → Makes old new (Not a) c.0 → (input values : List ℕ) → AreValues new input values → is_on values c ≡ not (is_on values a)
not_on old new a c p m input values are =
    let wide : HasWidth new.widths a.0 1 = m.grows.widths a.0 1 p in
    ap (λ (n : ℕ). nat_eq n 1) (m.value input values are) ∙ not_bit (slice_index new.widths a.0) (slice_index values a.0) (get_or_from_slice_get new.widths a.0 1 0 wide) (bit_below new input values a are wide)

-- a test has width 1, and is on where it holds of words of any one width
pub eq_width : (old new : Graph) (a b c : NodeId) (w : ℕ) → HasWidth old.widths a.0 w → HasWidth old.widths b.0 w → Makes old new (Eq a b) c.0 → HasWidth new.widths c.0 1
eq_width old new a b c w p q m = m.width ∙ tested _ _ w p (words_width w p q)
  where
    words_width : (w : ℕ) → HasWidth old.widths a.0 w → HasWidth old.widths b.0 w → same_width (slice_get old.widths a.0) (slice_get old.widths b.0) ≡ Some w
    words_width w p q = let t : nat_eq w w ≡ true = grind (arith, nat_tests) in rw (p, q, t) refl

pub eq_on : (old new : Graph) (a b c : NodeId) → Makes old new (Eq a b) c.0 → (input values : List ℕ) → AreValues new input values → is_on values c ≡ nat_eq (slice_index values a.0) (slice_index values b.0)
eq_on old new a b c m input values are = ap (λ (n : ℕ). nat_eq n 1) (m.value input values are) ∙ one_if_on (nat_eq (slice_index values a.0) (slice_index values b.0))

pub eq_bits_on : (old new : Graph) (a b c : NodeId) → HasWidth old.widths a.0 1 → HasWidth old.widths b.0 1 → Makes old new (Eq a b) c.0 → (input values : List ℕ) → AreValues new input values → is_on values c ≡ cond (is_on values a) (is_on values b) (not (is_on values b))
eq_bits_on old new a b c p q m input values are = let s = bits old new input values a b c (Eq a b) p q m are in eq_on old new a b c m input values are ∙ eq_bits (slice_index values a.0) (slice_index values b.0) s.first s.second

pub ult_on : (old new : Graph) (a b c : NodeId) → Makes old new (Ult a b) c.0 → (input values : List ℕ) → AreValues new input values → is_on values c ≡ nat_lt (slice_index values a.0) (slice_index values b.0)
ult_on old new a b c m input values are = ap (λ (n : ℕ). nat_eq n 1) (m.value input values are) ∙ one_if_on (nat_lt (slice_index values a.0) (slice_index values b.0))

pub ult_bits_on : (old new : Graph) (a b c : NodeId) → HasWidth old.widths a.0 1 → HasWidth old.widths b.0 1 → Makes old new (Ult a b) c.0 → (input values : List ℕ) → AreValues new input values → is_on values c ≡ (not (is_on values a) && is_on values b)
ult_bits_on old new a b c p q m input values are = let s = bits old new input values a b c (Ult a b) p q m are in ult_on old new a b c m input values are ∙ ult_bits (slice_index values a.0) (slice_index values b.0) s.first s.second
