-- The bits of each kind of node.
use Rattle.std.proofs.Common.{◌≡◌, ℕ, zero, suc, ◌+◌, ◌-◌, ◌*◌, ◌/◌, ◌%◌, ◌^◌, ◌<◌, ◌≤◌, Bool, true, false, not, cond, ◌&&◌, List, [], ◌∷◌, ◌++◌, length, refl, sym, ◌∙◌, ap, subst, arith, map, nat_lt, nat_eq, nat_le, get_or, Option, Some, None, take, drop, replicate, ⊎_elim}
use Rattle.std.specs.Prelude.{bit_and, bit_or, bit_xor, slice_get, IsSome}
use Rattle.std.proofs.lemmas.Bool.{cases_lt, lt-ltb}
use Rattle.std.proofs.lemmas.Bool.Decides.{nat_tests}
use Rattle.std.proofs.Math.Nat.{mul-le-mul, mod-eq_of_lt}
use Rattle.cnf_clauses.specs.Literal.{Literal}
use Rattle.cnf_clauses.specs.Formula.{Cnf}
use Rattle.cnf_clauses.specs.Literal.{value_of, opposite}
use Rattle.cnf_clauses.specs.Clause.{IsOver}
use Rattle.bit_blaster.specs.Gates.{HasRoom, bits}
use Rattle.bit_blaster.specs.Spelling.{spelled, IsSpelled, IsTest, IsConstant}
use Rattle.bit_blaster.specs.Shifting.{moved_by}
use Rattle.bit_blaster.specs.Dividing.{IsDivision}
use Rattle.bit_blaster.specs.Numbers.{bit, number}
use Rattle.bit_blaster.specs.Circuit.{width_in}
use Rattle.bit_blaster.specs.NodeBits.{widths, IsNodeBits}
use Rattle.bit_blaster.proofs.NodeLemmas.{node_from, at_widths, at_numbers}
use Rattle.bit_blaster.proofs.WireLemmas.{single_spelled, flipped_xor, below_width, top_of, repeated_number, bits-repeated}
use Rattle.bit_blaster.proofs.ShiftLemmas.{moved_far, over_drop, bits-drop}
use Rattle.bit_blaster.proofs.Growing.{grows_refl, length-bits, bits-append}
use Rattle.bit_blaster.proofs.Spells.{bits-flipped, length-flipped, over_flipped}
use Rattle.bit_blaster.proofs.Arithmetic.{number-append, take_number, drop_number}
use Rattle.bit_blaster.proofs.ProductLemmas.{over_append, over_take, bits-take, over_at}
use Rattle.std.proofs.lemmas.List.{length-append, length-replicate, length-take, length-drop}
use Rattle.std.proofs.lemmas.Nat.{pow-add, pow_pos}
use Rattle.std.proofs.lemmas.Bool.{ltb-true, leb-true, ltb-false, eqb-true, and_parts}
use Rattle.bit_blaster.proofs.Spells.{over_repeated}
use Rattle.bv_words.specs.Words.{one_if, plus, chop, times, bit_not, slice, cat, sx, slt, shl, shr, udiv, urem}
use Rattle.bv_words.proofs.DivisionLaws.{udiv_is, urem_is}
use Rattle.bv_words.proofs.CodeLemmas.{neg_nat, sx_low, sx_high}
use Rattle.dag.specs.Node.{same_width, choice_width, cut_width, joined_width, widened_width, when, is_width}
use Rattle.dag.specs.declared.node.NodeId.{NodeId}
use Rattle.dag.specs.declared.node.Node.TheVariants.{Const, Not, And, Or, Xor, Neg, Plus, Times, Eq, Ult, Slt, Ite, Slice, Cat, Sext, Shl, Shr, Udiv, Urem}

squares_up : (w g : ℕ) → w ≤ g → 1 ≤ w → 3 * w * w + 1 ≤ 4 * (g * g)
squares_up w g h low = let e : w * w ≤ g * g = mul-le-mul h h in let one : 1 * 1 ≤ w * w = mul-le-mul low low in omega (arith, e, one)

same_bit : (b : Bool) → bit b ≡ one_if b
same_bit true = refl
same_bit false = refl

lt_width : (v : ℕ → Bool) (xs : List Literal) → spelled v xs < 2 ^ length xs
lt_width v xs = below_width v xs

le_width : (v : ℕ → Bool) (xs : List Literal) → spelled v xs ≤ 2 ^ length xs
le_width v xs = omega (arith, below_width v xs)

not_spelled : (f : Cnf) (xs out : List Literal) → IsOver f.variables xs → out ≡ map opposite xs → IsSpelled f f 0 (length xs) out (λ v. bit_xor (spelled v xs) (2 ^ length xs - 1))
not_spelled f xs out o e = rw e record {
  grows = grows_refl f 0;
  inside = over_flipped f.variables xs o;
  size = length-flipped xs;
  means = λ v m. ap number (bits-flipped v xs) ∙ (flipped_xor (bits v xs) ∙ rw (length-bits v xs) refl);
}

far_test : (a w : ℕ) → w ≤ a → nat_lt a w ≡ false
far_test a w h = grind (arith, nat_tests)

shl_is : (w x a : ℕ) → x < 2 ^ w → moved_by true w x a ≡ shl w x a
unfolding shl chop
shl_is w x a h = ⊎_elim (λ lt. rw (lt-ltb a w lt) refl) (λ ge. rw (far_test a w ge) (moved_far true w x a h ge)) (cases_lt a w)

shr_is : (w x a : ℕ) → x < 2 ^ w → moved_by false w x a ≡ shr w x a
unfolding shr
shr_is w x a h = ⊎_elim (λ lt. rw (lt-ltb a w lt) refl) (λ ge. rw (far_test a w ge) (moved_far false w x a h ge)) (cases_lt a w)

pub and_node : (old new : Cnf) (rows : List (List Literal)) (a b : NodeId) (out : List Literal) → same_width (slice_get (widths rows) a.0) (slice_get (widths rows) b.0) ≡ Some (length (get_or rows a.0 [])) → 1 ≤ length (get_or rows a.0 []) → length (get_or rows a.0 []) ≤ 64
    → IsSpelled old new (length (get_or rows a.0 [])) (length (get_or rows a.0 [])) out (λ v. bit_and (spelled v (get_or rows a.0 [])) (spelled v (get_or rows b.0 []))) → IsNodeBits old new rows (And a b) out
and_node old new rows a b out at low high s = node_from old new rows (And a b) out _ _ _ s (rw at (omega arith)) at low high (λ v leaves. rw (at_numbers v rows a.0, at_numbers v rows b.0) refl) (λ leaves x. tt)

pub or_node : (old new : Cnf) (rows : List (List Literal)) (a b : NodeId) (out : List Literal) → same_width (slice_get (widths rows) a.0) (slice_get (widths rows) b.0) ≡ Some (length (get_or rows a.0 [])) → 1 ≤ length (get_or rows a.0 []) → length (get_or rows a.0 []) ≤ 64
    → IsSpelled old new (length (get_or rows a.0 [])) (length (get_or rows a.0 [])) out (λ v. bit_or (spelled v (get_or rows a.0 [])) (spelled v (get_or rows b.0 []))) → IsNodeBits old new rows (Or a b) out
or_node old new rows a b out at low high s = node_from old new rows (Or a b) out _ _ _ s (rw at (omega arith)) at low high (λ v leaves. rw (at_numbers v rows a.0, at_numbers v rows b.0) refl) (λ leaves x. tt)

pub xor_node : (old new : Cnf) (rows : List (List Literal)) (a b : NodeId) (out : List Literal) → same_width (slice_get (widths rows) a.0) (slice_get (widths rows) b.0) ≡ Some (length (get_or rows a.0 [])) → 1 ≤ length (get_or rows a.0 []) → length (get_or rows a.0 []) ≤ 64
    → IsSpelled old new (length (get_or rows a.0 [])) (length (get_or rows a.0 [])) out (λ v. bit_xor (spelled v (get_or rows a.0 [])) (spelled v (get_or rows b.0 []))) → IsNodeBits old new rows (Xor a b) out
xor_node old new rows a b out at low high s = node_from old new rows (Xor a b) out _ _ _ s (rw at (omega arith)) at low high (λ v leaves. rw (at_numbers v rows a.0, at_numbers v rows b.0) refl) (λ leaves x. tt)

pub plus_node : (old new : Cnf) (rows : List (List Literal)) (a b : NodeId) (out : List Literal) → same_width (slice_get (widths rows) a.0) (slice_get (widths rows) b.0) ≡ Some (length (get_or rows a.0 [])) → 1 ≤ length (get_or rows a.0 []) → length (get_or rows a.0 []) ≤ 64
    → IsSpelled old new (2 * length (get_or rows a.0 [])) (length (get_or rows a.0 [])) out (λ v. (spelled v (get_or rows a.0 []) + spelled v (get_or rows b.0 [])) % 2 ^ length (get_or rows a.0 [])) → IsNodeBits old new rows (Plus a b) out
unfolding plus chop
plus_node old new rows a b out at low high s = node_from old new rows (Plus a b) out _ _ _ s (rw at (omega arith)) at low high (λ v leaves. rw (at_widths rows a.0, at_numbers v rows a.0, at_numbers v rows b.0) refl) (λ leaves x. tt)

pub times_node : (old new : Cnf) (rows : List (List Literal)) (a b : NodeId) (out : List Literal) → same_width (slice_get (widths rows) a.0) (slice_get (widths rows) b.0) ≡ Some (length (get_or rows a.0 [])) → 1 ≤ length (get_or rows a.0 []) → length (get_or rows a.0 []) ≤ 64
    → IsSpelled old new (3 * length (get_or rows a.0 []) * length (get_or rows a.0 [])) (length (get_or rows a.0 [])) out (λ v. (spelled v (get_or rows a.0 []) * spelled v (get_or rows b.0 [])) % 2 ^ length (get_or rows a.0 [])) → IsNodeBits old new rows (Times a b) out
unfolding times chop
times_node old new rows a b out at low high s = node_from old new rows (Times a b) out _ _ _ s (rw at (squares_up (length (get_or rows a.0 [])) _ (omega arith) low)) at low high (λ v leaves. rw (at_widths rows a.0, at_numbers v rows a.0, at_numbers v rows b.0) refl) (λ leaves x. tt)

divisions_up : (w g : ℕ) → w ≤ g → 1 ≤ w → 3 * w * w + 4 * w + 1 ≤ 8 * (g * g)
divisions_up w g h low = let e : w * w ≤ g * g = mul-le-mul h h in let one : w * 1 ≤ w * w = mul-le-mul (le_self w) low in omega (arith, e, one)
  where
    le_self : (n : ℕ) → n ≤ n
    le_self n = omega arith

quotient_spelled : (old new : Cnf) (xs ys q r : List Literal) → IsDivision old new xs ys q r → IsSpelled old new (3 * length xs * length xs + 4 * length xs) (length xs) q (λ v. udiv (spelled v xs) (spelled v ys))
quotient_spelled old new xs ys q r d = record { grows = d.grows; inside = d.q_in; size = d.q_size; means = λ v m. d.quotient v m ∙ sym (udiv_is (spelled v xs) (spelled v ys)) }

remainder_spelled : (old new : Cnf) (xs ys q r : List Literal) → IsDivision old new xs ys q r → IsSpelled old new (3 * length xs * length xs + 4 * length xs) (length xs) r (λ v. urem (spelled v xs) (spelled v ys))
remainder_spelled old new xs ys q r d = record { grows = d.grows; inside = d.r_in; size = d.r_size; means = λ v m. d.remainder v m ∙ sym (urem_is (spelled v xs) (spelled v ys)) }

pub udiv_node : (old new : Cnf) (rows : List (List Literal)) (a b : NodeId) (out rest : List Literal) → same_width (slice_get (widths rows) a.0) (slice_get (widths rows) b.0) ≡ Some (length (get_or rows a.0 [])) → 1 ≤ length (get_or rows a.0 []) → length (get_or rows a.0 []) ≤ 64
    → IsDivision old new (get_or rows a.0 []) (get_or rows b.0 []) out rest → IsNodeBits old new rows (Udiv a b) out
udiv_node old new rows a b out rest at low high d = node_from old new rows (Udiv a b) out _ _ _ (quotient_spelled _ _ _ _ out rest d) (rw at (divisions_up (length (get_or rows a.0 [])) _ (omega arith) low)) at low high (λ v leaves. rw (at_numbers v rows a.0, at_numbers v rows b.0) refl) (λ leaves x. tt)

pub urem_node : (old new : Cnf) (rows : List (List Literal)) (a b : NodeId) (part out : List Literal) → same_width (slice_get (widths rows) a.0) (slice_get (widths rows) b.0) ≡ Some (length (get_or rows a.0 [])) → 1 ≤ length (get_or rows a.0 []) → length (get_or rows a.0 []) ≤ 64
    → IsDivision old new (get_or rows a.0 []) (get_or rows b.0 []) part out → IsNodeBits old new rows (Urem a b) out
urem_node old new rows a b part out at low high d = node_from old new rows (Urem a b) out _ _ _ (remainder_spelled _ _ _ _ part out d) (rw at (divisions_up (length (get_or rows a.0 [])) _ (omega arith) low)) at low high (λ v leaves. rw (at_numbers v rows a.0, at_numbers v rows b.0) refl) (λ leaves x. tt)

pub equal_node : (old new : Cnf) (rows : List (List Literal)) (a b : NodeId) (l : Literal) (out : List Literal) → same_width (slice_get (widths rows) a.0) (slice_get (widths rows) b.0) ≡ Some (length (get_or rows a.0 [])) → 1 ≤ length (get_or rows a.0 []) → IsTest old new (2 * length (get_or rows a.0 [])) l (λ v. nat_eq (spelled v (get_or rows a.0 [])) (spelled v (get_or rows b.0 []))) → out ≡ l ∷ [] → IsNodeBits old new rows (Eq a b) out
equal_node old new rows a b l out at low t e = node_from old new rows (Eq a b) out _ _ _ (single_spelled _ _ _ l out _ e t) (rw (at, at_widths rows a.0) (omega arith)) (rw at refl) (omega arith) (omega arith) (λ v leaves. same_bit _ ∙ rw (at_numbers v rows a.0, at_numbers v rows b.0) refl) (λ leaves x. tt)

pub ult_node : (old new : Cnf) (rows : List (List Literal)) (a b : NodeId) (l : Literal) (out : List Literal) → same_width (slice_get (widths rows) a.0) (slice_get (widths rows) b.0) ≡ Some (length (get_or rows a.0 [])) → 1 ≤ length (get_or rows a.0 []) → IsTest old new (length (get_or rows a.0 [])) l (λ v. nat_lt (spelled v (get_or rows a.0 [])) (spelled v (get_or rows b.0 []))) → out ≡ l ∷ [] → IsNodeBits old new rows (Ult a b) out
ult_node old new rows a b l out at low t e = node_from old new rows (Ult a b) out _ _ _ (single_spelled _ _ _ l out _ e t) (rw (at, at_widths rows a.0) (omega arith)) (rw at refl) (omega arith) (omega arith) (λ v leaves. same_bit _ ∙ rw (at_numbers v rows a.0, at_numbers v rows b.0) refl) (λ leaves x. tt)

pub slt_node : (old new : Cnf) (rows : List (List Literal)) (a b : NodeId) (l : Literal) (out : List Literal) → same_width (slice_get (widths rows) a.0) (slice_get (widths rows) b.0) ≡ Some (length (get_or rows a.0 [])) → 1 ≤ length (get_or rows a.0 []) → IsTest old new (2 + length (get_or rows a.0 [])) l (λ v. slt (length (get_or rows a.0 [])) (spelled v (get_or rows a.0 [])) (spelled v (get_or rows b.0 []))) → out ≡ l ∷ [] → IsNodeBits old new rows (Slt a b) out
slt_node old new rows a b l out at low t e = node_from old new rows (Slt a b) out _ _ _ (single_spelled _ _ _ l out _ e t) (rw (at, at_widths rows a.0) (omega arith)) (rw at refl) (omega arith) (omega arith) (λ v leaves. same_bit _ ∙ rw (at_widths rows a.0, at_numbers v rows a.0, at_numbers v rows b.0) refl) (λ leaves x. tt)

pub not_node : (f : Cnf) (rows : List (List Literal)) (a : NodeId) (out : List Literal) → slice_get (widths rows) a.0 ≡ Some (length (get_or rows a.0 [])) → 1 ≤ length (get_or rows a.0 []) → length (get_or rows a.0 []) ≤ 64 → IsOver f.variables (get_or rows a.0 []) → out ≡ map opposite (get_or rows a.0 []) → IsNodeBits f f rows (Not a) out
unfolding bit_not
not_node f rows a out at low high o e = node_from f f rows (Not a) out 0 (length (get_or rows a.0 [])) (λ v. bit_xor (spelled v (get_or rows a.0 [])) (2 ^ length (get_or rows a.0 []) - 1)) (not_spelled f (get_or rows a.0 []) out o e) (rw at (omega arith)) at low high (λ v leaves. rw (at_widths rows a.0, at_numbers v rows a.0) refl) (λ leaves x. tt)

pub neg_node : (old new : Cnf) (rows : List (List Literal)) (a : NodeId) (out : List Literal) → slice_get (widths rows) a.0 ≡ Some (length (get_or rows a.0 [])) → 1 ≤ length (get_or rows a.0 []) → length (get_or rows a.0 []) ≤ 64 → IsSpelled old new (2 * length (get_or rows a.0 [])) (length (get_or rows a.0 [])) out (λ v. (2 ^ length (get_or rows a.0 []) - spelled v (get_or rows a.0 [])) % 2 ^ length (get_or rows a.0 [])) → IsNodeBits old new rows (Neg a) out
neg_node old new rows a out at low high s = node_from old new rows (Neg a) out _ _ _ s (rw at (omega arith)) at low high (λ v leaves. rw (at_widths rows a.0, at_numbers v rows a.0) (sym (neg_nat (length (get_or rows a.0 [])) (spelled v (get_or rows a.0 [])) (le_width v (get_or rows a.0 []))))) (λ leaves x. tt)

pub shl_node : (old new : Cnf) (rows : List (List Literal)) (a b : NodeId) (out : List Literal) → slice_get (widths rows) a.0 ≡ Some (length (get_or rows a.0 [])) → slice_get (widths rows) b.0 ≡ Some (length (get_or rows b.0 [])) → 1 ≤ length (get_or rows a.0 []) → length (get_or rows a.0 []) ≤ 64 → IsSpelled old new (7 * length (get_or rows a.0 []) + length (get_or rows b.0 [])) (length (get_or rows a.0 [])) out (λ v. moved_by true (length (get_or rows a.0 [])) (spelled v (get_or rows a.0 [])) (spelled v (get_or rows b.0 []))) → IsNodeBits old new rows (Shl a b) out
shl_node old new rows a b out at bt low high s = node_from old new rows (Shl a b) out _ _ _ s (rw (at, bt, at_widths rows b.0) (omega arith)) (rw (at, bt) refl) low high (λ v leaves. rw (at_widths rows a.0, at_numbers v rows a.0, at_numbers v rows b.0) (shl_is (length (get_or rows a.0 [])) (spelled v (get_or rows a.0 [])) (spelled v (get_or rows b.0 [])) (lt_width v (get_or rows a.0 [])))) (λ leaves x. tt)

pub shr_node : (old new : Cnf) (rows : List (List Literal)) (a b : NodeId) (out : List Literal) → slice_get (widths rows) a.0 ≡ Some (length (get_or rows a.0 [])) → slice_get (widths rows) b.0 ≡ Some (length (get_or rows b.0 [])) → 1 ≤ length (get_or rows a.0 []) → length (get_or rows a.0 []) ≤ 64 → IsSpelled old new (7 * length (get_or rows a.0 []) + length (get_or rows b.0 [])) (length (get_or rows a.0 [])) out (λ v. moved_by false (length (get_or rows a.0 [])) (spelled v (get_or rows a.0 [])) (spelled v (get_or rows b.0 []))) → IsNodeBits old new rows (Shr a b) out
shr_node old new rows a b out at bt low high s = node_from old new rows (Shr a b) out _ _ _ s (rw (at, bt, at_widths rows b.0) (omega arith)) (rw (at, bt) refl) low high (λ v leaves. rw (at_widths rows a.0, at_numbers v rows a.0, at_numbers v rows b.0) (shr_is (length (get_or rows a.0 [])) (spelled v (get_or rows a.0 [])) (spelled v (get_or rows b.0 [])) (lt_width v (get_or rows a.0 [])))) (λ leaves x. tt)

-- wires that are there already
wired : (f : Cnf) (out : List Literal) (w : ℕ) (value : (ℕ → Bool) → ℕ) → IsOver f.variables out → length out ≡ w → ((v : ℕ → Bool) → spelled v out ≡ value v) → IsSpelled f f 0 w out value
wired f out w value o e h = record { grows = grows_refl f 0; inside = o; size = e; means = λ v m. h v }

bit_test : (b : Bool) → nat_eq (bit b + 2 * 0) 1 ≡ b
bit_test true = refl
bit_test false = refl

one_bit_test : (v : ℕ → Bool) (xs : List Literal) (d : Literal) → length xs ≡ 1 → nat_eq (spelled v xs) 1 ≡ value_of v (get_or xs 0 d)
one_bit_test v [] d e = absurd (omega arith)
one_bit_test v (x ∷ y ∷ xs) d e = absurd (omega arith)
one_bit_test v (x ∷ []) d e = bit_test (value_of v x)

chosen_on : (k w : ℕ) (t : Bool) → t ≡ nat_eq k 1 → IsSome (cond (nat_eq k 1) (let o : Option ℕ = Some w in o) None) → (cond (nat_eq k 1) (let o : Option ℕ = Some w in o) None ≡ Some w) × (k ≡ 1)
chosen_on k w true e s = rw (← e) (refl, eqb-true k 1 (sym e))
chosen_on k w false e s = let f : false ≡ true = rw (← e) at s in cc

chosen_is : (o p : Option ℕ) (k w : ℕ) → IsSome (choice_width o p) → o ≡ Some k → p ≡ Some w → (choice_width o p ≡ Some w) × (k ≡ 1)
chosen_is o p k w s e f = rw (e, f) (chosen_on k w (nat_eq k 1) refl (rw (e, f) at s))

pub ite_node : (old new : Cnf) (rows : List (List Literal)) (a b c : NodeId) (t d : Literal) (out : List Literal) → IsSome (choice_width (slice_get (widths rows) a.0) (same_width (slice_get (widths rows) b.0) (slice_get (widths rows) c.0)))
    → slice_get (widths rows) a.0 ≡ Some (length (get_or rows a.0 [])) → same_width (slice_get (widths rows) b.0) (slice_get (widths rows) c.0) ≡ Some (length (get_or rows b.0 [])) → 1 ≤ length (get_or rows b.0 []) → length (get_or rows b.0 []) ≤ 64
    → IsSpelled old new (length (get_or rows b.0 [])) (length (get_or rows b.0 [])) out (λ v. cond (value_of v t) (spelled v (get_or rows b.0 [])) (spelled v (get_or rows c.0 []))) → t ≡ get_or (get_or rows a.0 []) 0 d → IsNodeBits old new rows (Ite a b c) out
ite_node old new rows a b c t d out fits at bt low high s t-is =
    let p = chosen_is _ _ _ _ fits at bt in
    node_from old new rows (Ite a b c) out _ _ _ s (rw p.0 (omega arith)) p.0 low high
    (λ v leaves. rw (at_numbers v rows a.0, at_numbers v rows b.0, at_numbers v rows c.0, one_bit_test v (get_or rows a.0 []) d p.1, t-is) refl) (λ leaves x. tt)

cut_on : (h l w : ℕ) (t : Bool) → t ≡ (nat_le l h && nat_lt h w) → IsSome (when (nat_le l h && nat_lt h w) (h - l + 1)) → (when (nat_le l h && nat_lt h w) (h - l + 1) ≡ Some (h - l + 1)) × (l ≤ h) × (h < w)
cut_on h l w true e s = let p = and_parts (nat_le l h) (nat_lt h w) (sym e) in rw (← e) (refl, leb-true l h p.0, ltb-true h w p.1)
cut_on h l w false e s = let f : false ≡ true = rw (← e) at s in cc

cut_is : (h l w : ℕ) (o : Option ℕ) → IsSome (cut_width h l o) → o ≡ Some w → (cut_width h l o ≡ Some (h - l + 1)) × (l ≤ h) × (h < w)
cut_is h l w o s e = rw e (cut_on h l w (nat_le l h && nat_lt h w) refl (rw e at s))

pub slice_node : (f : Cnf) (rows : List (List Literal)) (h l : ℕ) (a : NodeId) (out : List Literal) → IsSome (cut_width h l (slice_get (widths rows) a.0)) → slice_get (widths rows) a.0 ≡ Some (length (get_or rows a.0 [])) → length (get_or rows a.0 []) ≤ 64
    → IsOver f.variables (get_or rows a.0 []) → out ≡ take (h - l + 1) (drop l (get_or rows a.0 [])) → IsNodeBits f f rows (Slice h l a) out
unfolding slice chop
slice_node f rows h l a out fits at high o e =
    let p = cut_is _ _ _ _ fits at in
    let x : List Literal = get_or rows a.0 [] in
    node_from f f rows (Slice h l a) out 0 (h - l + 1) (λ v. spelled v x / 2 ^ l % 2 ^ (h - l + 1))
    (wired f out _ _ (rw e (over_take _ _ (drop l x) (over_drop _ l x o))) (rw e (omega (arith, p.1, p.2, length-take (h - l + 1) (drop l x), length-drop l x)))
    (λ v. rw e (ap number (bits-take v (h - l + 1) (drop l x)) ∙ rw (take_number (h - l + 1) (bits v (drop l x)), bits-drop v l x, drop_number l (bits v x)) refl)))
    (rw p.0 (omega arith)) p.0 (omega arith) (omega (arith, p.1, p.2)) (λ v leaves. rw (at_numbers v rows a.0) refl) (λ leaves y. tt)

joined_on : (x y : ℕ) (t : Bool) → t ≡ nat_le (x + y) 64 → IsSome (when (nat_le (x + y) 64) (x + y)) → (when (nat_le (x + y) 64) (x + y) ≡ Some (x + y)) × (x + y ≤ 64)
joined_on x y true e s = rw (← e) (refl, leb-true (x + y) 64 (sym e))
joined_on x y false e s = let f : false ≡ true = rw (← e) at s in cc

joined_is : (o p : Option ℕ) (x y : ℕ) → IsSome (joined_width o p) → o ≡ Some x → p ≡ Some y → (joined_width o p ≡ Some (x + y)) × (x + y ≤ 64)
joined_is o p x y s e f = rw (e, f) (joined_on x y (nat_le (x + y) 64) refl (rw (e, f) at s))

pub cat_node : (f : Cnf) (rows : List (List Literal)) (a b : NodeId) (out : List Literal) → IsSome (joined_width (slice_get (widths rows) a.0) (slice_get (widths rows) b.0)) → slice_get (widths rows) a.0 ≡ Some (length (get_or rows a.0 [])) → slice_get (widths rows) b.0 ≡ Some (length (get_or rows b.0 []))
    → 1 ≤ length (get_or rows a.0 []) → IsOver f.variables (get_or rows a.0 []) → IsOver f.variables (get_or rows b.0 []) → out ≡ get_or rows b.0 [] ++ get_or rows a.0 [] → IsNodeBits f f rows (Cat a b) out
unfolding cat
cat_node f rows a b out fits at bt low o q e =
    let p = joined_is _ _ _ _ fits at bt in
    let x : List Literal = get_or rows a.0 [] in
    let y : List Literal = get_or rows b.0 [] in
    node_from f f rows (Cat a b) out 0 (length x + length y) (λ v. spelled v x * 2 ^ length y + spelled v y)
    (wired f out _ _ (rw e (over_append _ y x q o)) (rw e (omega (arith, length-append y x)))
    (λ v. rw e (ap number (bits-append v y x) ∙ (number-append (bits v y) (bits v x) ∙ rw (length-bits v y) (omega arith)))))
    (rw p.0 (omega (arith, low))) p.0 (omega (arith, low)) p.1 (λ v leaves. rw (at_widths rows b.0, at_numbers v rows a.0, at_numbers v rows b.0) refl) (λ leaves z. tt)

widened_on : (n w : ℕ) (t : Bool) → t ≡ (nat_le w n && nat_le n 64) → IsSome (when (nat_le w n && nat_le n 64) n) → (when (nat_le w n && nat_le n 64) n ≡ Some n) × (w ≤ n) × (n ≤ 64)
widened_on n w true e s = let p = and_parts (nat_le w n) (nat_le n 64) (sym e) in rw (← e) (refl, leb-true w n p.0, leb-true n 64 p.1)
widened_on n w false e s = let f : false ≡ true = rw (← e) at s in cc

less_one : (a b : ℕ) → 0 < b → a * (b - 1) + a ≡ a * b
less_one a zero h = absurd (omega arith)
less_one a (suc b) h = let e : suc b - 1 ≡ b = omega arith in rw e (omega arith)

widened_is : (n w : ℕ) (o : Option ℕ) → IsSome (widened_width n o) → o ≡ Some w → (widened_width n o ≡ Some n) × (w ≤ n) × (n ≤ 64)
widened_is n w o s e = rw e (widened_on n w (nat_le w n && nat_le n 64) refl (rw e at s))

sext_value : (w n x : ℕ) (top : Bool) → 1 ≤ w → w ≤ n → x < 2 ^ w → nat_lt x (2 ^ (w - 1)) ≡ not top → x + 2 ^ w * cond top (2 ^ (n - w) - 1) 0 ≡ sx n w x
sext_value w n x true l h k e =
    let whole : w + (n - w) ≡ n = omega arith in
    let two : 2 ^ n ≡ 2 ^ w * 2 ^ (n - w) = subst (λ (j : ℕ). 2 ^ j ≡ 2 ^ w * 2 ^ (n - w)) whole (pow-add 2 w (n - w)) in
    let pos : 0 < 2 ^ (n - w) = pow_pos (n - w) in
    let one : 0 < 2 ^ w = pow_pos w in
    let tail : 2 ^ w * (2 ^ (n - w) - 1) + 2 ^ w ≡ 2 ^ w * 2 ^ (n - w) = less_one (2 ^ w) (2 ^ (n - w)) pos in
    let rest : 2 ^ w * (2 ^ (n - w) - 1) ≡ (2 ^ n - 1) - (2 ^ w - 1) = omega (arith, two, tail) in
    rw rest (sx_high n w x l h k (ltb-false x (2 ^ (w - 1)) e))
sext_value w n x false l h k e = omega (arith, sx_low n w x l h (ltb-true x (2 ^ (w - 1)) e))

pub sext_node : (f : Cnf) (rows : List (List Literal)) (n : ℕ) (a : NodeId) (d : Literal) (out : List Literal) → IsSome (widened_width n (slice_get (widths rows) a.0)) → slice_get (widths rows) a.0 ≡ Some (length (get_or rows a.0 [])) → 1 ≤ length (get_or rows a.0 [])
    → IsOver f.variables (get_or rows a.0 []) → out ≡ get_or rows a.0 [] ++ replicate (n - length (get_or rows a.0 [])) (get_or (get_or rows a.0 []) (length (get_or rows a.0 []) - 1) d) → IsNodeBits f f rows (Sext n a) out
sext_node f rows n a d out fits at low o e =
    let p = widened_is _ _ _ fits at in
    let x : List Literal = get_or rows a.0 [] in
    let t : Literal = get_or x (length x - 1) d in
    let k : ℕ = n - length x in
    let lt : length x - 1 < length x = omega (arith, low) in
    node_from f f rows (Sext n a) out 0 n (λ v. sx n (length x) (spelled v x))
    (wired f out _ _ (rw e (over_append _ x (replicate k t) o (over_repeated _ k t (over_at _ _ x d lt o)))) (rw e (omega (arith, p.1, length-append x (replicate k t), length-replicate k t)))
    (λ v. rw e (ap number (bits-append v x (replicate k t)) ∙ (number-append (bits v x) (bits v (replicate k t)) ∙ rw (length-bits v x, bits-repeated v k t, repeated_number k (value_of v t)) (sext_value (length x) n (spelled v x) (value_of v t) low p.1 (below_width v x) (top_of v x d (length x) refl low))))))
    (rw p.0 (omega (arith, low, p.1))) p.0 (omega (arith, low, p.1)) p.2 (λ v leaves. rw (at_widths rows a.0, at_numbers v rows a.0) refl) (λ leaves y. tt)

const_is : (w x : ℕ) (t : Bool) → t ≡ (is_width w && nat_lt x (2 ^ w)) → IsSome (when (is_width w && nat_lt x (2 ^ w)) w) → (when (is_width w && nat_lt x (2 ^ w)) w ≡ Some w) × (1 ≤ w) × (w ≤ 64) × (x < 2 ^ w)
const_is w x true e s =
    let p = and_parts (is_width w) (nat_lt x (2 ^ w)) (sym e) in
    let q = and_parts (nat_lt 0 w) (nat_le w 64) p.0 in rw (← e) (refl, ltb-true 0 w q.0, leb-true w 64 q.1, ltb-true x (2 ^ w) p.1)
const_is w x false e s = let f : false ≡ true = rw (← e) at s in cc

pub const_node : (f : Cnf) (rows : List (List Literal)) (w x n : ℕ) (out : List Literal) → HasRoom f n → IsSome (width_in (widths rows) (Const w x)) → IsConstant w x out → IsNodeBits f f rows (Const w x) out
const_node f rows w x n out room fits s =
    let p = const_is w x (is_width w && nat_lt x (2 ^ w)) refl fits in
    node_from f f rows (Const w x) out 0 w (λ v. x % 2 ^ w) (record { grows = grows_refl f 0; inside = s.inside f.variables room.begun; size = s.size; means = λ v m. s.means v (room.on v m) })
    (rw p.0 (omega (arith, p.1))) p.0 p.1 p.2 (λ v leaves. mod-eq_of_lt p.3) (λ leaves y. tt)
