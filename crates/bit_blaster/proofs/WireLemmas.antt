-- Wires, tops, signed comparison, constants.
use Rattle.std.proofs.Common.{◌≡◌, ℕ, zero, suc, ◌+◌, ◌-◌, ◌*◌, ◌/◌, ◌%◌, ◌^◌, ◌<◌, ◌≤◌, Bool, true, false, not, cond, List, [], ◌∷◌, ◌++◌, length, refl, sym, ◌∙◌, ap, subst, arith, replicate, get_or, nat_lt, nat_eq}
use Rattle.std.specs.Prelude.{bit_xor}
use Rattle.std.proofs.lemmas.Nat.{xor_block, pow_pos}
use Rattle.std.proofs.lemmas.Bool.Decides.{nat_tests}
use Rattle.std.proofs.Math.Nat.{mod-eq_of_lt, add-mul-mod_self_left}
use Rattle.cnf_clauses.specs.Literal.{Literal}
use Rattle.cnf_clauses.specs.Formula.{Cnf}
use Rattle.cnf_clauses.specs.Literal.{value_of, opposite}
use Rattle.bit_blaster.specs.Gates.{Meets, IsGate, bits, differ, choose}
use Rattle.bit_blaster.specs.Numbers.{number, bit}
use Rattle.bit_blaster.specs.Spelling.{spelled, IsSpelled, IsTest}
use Rattle.cnf_clauses.proofs.Meeting.{value_of-opposite}
use Rattle.bit_blaster.proofs.Growing.{grows_trans, bits-append, length-bits}
use Rattle.bit_blaster.proofs.Arithmetic.{number-append, number_below, double, flipped, bit_below, as_block}
use Rattle.bit_blaster.proofs.ProductLemmas.{get_or-bits}
use Rattle.bv_words.specs.Words.{slt}
use Rattle.bv_words.proofs.CodeLemmas.{slt_both, slt_apart}

-- all bits turned, as an exclusive or
turned_bit : (b : Bool) → bit (not b) ≡ bit_xor (bit b) 1
turned_bit true = refl
turned_bit false = refl

pub flipped_xor : (bs : List Bool) → number (flipped bs) ≡ bit_xor (number bs) (2 ^ length bs - 1)
flipped_xor [] = refl
flipped_xor (b ∷ bs) =
    let p : 0 < 2 ^ length bs = pow_pos (length bs) in
    let e : 2 ^ suc (length bs) - 1 ≡ (2 ^ length bs - 1) * 2 ^ 1 + 1 = rw (double (length bs)) (omega arith) in
    let one : 1 < 2 ^ 1 = omega arith in
    rw (e, as_block b (number bs), xor_block 1 (number bs) (2 ^ length bs - 1) (bit b) 1 (bit_below b) one, flipped_xor bs, turned_bit b) (omega arith)

half_step : (b : Bool) (n h : ℕ) → nat_lt (bit b + 2 * n) (2 * h) ≡ nat_lt n h
half_step true n h = grind (arith, nat_tests)
half_step false n h = grind (arith, nat_tests)

-- the top bit tells whether the number is below half
pub top_bit : (bs : List Bool) → 1 ≤ length bs → nat_lt (number bs) (2 ^ (length bs - 1)) ≡ not (get_or bs (length bs - 1) false)
top_bit [] h = absurd (omega arith)
top_bit (true ∷ []) h = refl
top_bit (false ∷ []) h = refl
top_bit (b ∷ c ∷ bs) h =
    let less : suc (suc (length bs)) - 1 ≡ suc (length bs) = omega arith in
    let least : suc (length bs) - 1 ≡ length bs = omega arith in
    rw (less, double (length bs)) (half_step b (number (c ∷ bs)) (2 ^ length bs) ∙ (rw least at (top_bit (c ∷ bs) (omega arith))))

slt_on : (w x y : ℕ) (tx ty : Bool) → 1 ≤ w → x < 2 ^ w → y < 2 ^ w → nat_lt x (2 ^ (w - 1)) ≡ not tx → nat_lt y (2 ^ (w - 1)) ≡ not ty → choose (differ tx ty) tx (nat_lt x y) ≡ slt w x y
slt_on w x y true true h p q e f = slt_both w x y h p q (e ∙ sym f)
slt_on w x y false false h p q e f = slt_both w x y h p q (e ∙ sym f)
slt_on w x y true false h p q e f = sym f ∙ slt_apart w x y h p q (λ k. let g : false ≡ true = sym e ∙ (k ∙ f) in cc)
slt_on w x y false true h p q e f = sym f ∙ slt_apart w x y h p q (λ k. let g : true ≡ false = sym e ∙ (k ∙ f) in cc)

pub below_width : (v : ℕ → Bool) (xs : List Literal) → spelled v xs < 2 ^ length xs
below_width v xs = subst (λ (n : ℕ). spelled v xs < 2 ^ n) (length-bits v xs) (number_below (bits v xs))

pub top_of : (v : ℕ → Bool) (xs : List Literal) (d : Literal) (n : ℕ) → n ≡ length xs → 1 ≤ length xs → nat_lt (spelled v xs) (2 ^ (n - 1)) ≡ not (value_of v (get_or xs (length xs - 1) d))
top_of v xs d n e h =
    let low : 1 ≤ length (bits v xs) = omega (arith, length-bits v xs) in
    let lt : length xs - 1 < length xs = omega arith in
    rw e (subst (λ (k : ℕ). nat_lt (spelled v xs) (2 ^ (k - 1)) ≡ not (get_or (bits v xs) (k - 1) false)) (length-bits v xs) (top_bit (bits v xs) low) ∙ ap not (get_or-bits v (length xs - 1) xs d lt))

pub signed_test : (a b c d : Cnf) (xs ys : List Literal) (x y p q lower apart out : Literal) → 1 ≤ length xs → length xs ≡ length ys → x ≡ get_or xs (length xs - 1) p → y ≡ get_or ys (length ys - 1) q
    → IsTest a b (length xs) lower (λ v. nat_lt (spelled v xs) (spelled v ys)) → IsGate b c 1 apart (λ v. differ (value_of v x) (value_of v y)) → IsGate c d 1 out (λ v. choose (value_of v apart) (value_of v x) (value_of v lower))
    → IsTest a d (2 + length xs) out (λ v. slt (length xs) (spelled v xs) (spelled v ys))
signed_test a b c d xs ys x y p q lower apart out low same x-is y-is s g h = record {
  grows = grows_trans a c d (1 + length xs) 1 (2 + length xs) (grows_trans a b c (length xs) 1 (1 + length xs) s.grows g.grows (omega arith)) h.grows (omega arith);
  inside = h.inside;
  means = λ v m.
      let mc : Meets v c = h.grows.kept v m in
      let low_y : 1 ≤ length ys = omega arith in
      h.means v m ∙ (rw (g.means v mc, s.means v (g.grows.kept v mc)) (slt_on (length xs) (spelled v xs) (spelled v ys) _ _ low (below_width v xs) (subst (λ (n : ℕ). spelled v ys < 2 ^ n) (sym same) (below_width v ys))
      (top_of v xs p (length xs) refl low ∙ ap (λ (l : Literal). not (value_of v l)) (sym x-is)) (top_of v ys q (length xs) same low_y ∙ ap (λ (l : Literal). not (value_of v l)) (sym y-is))));
}

pub single_spelled : (a b : Cnf) (cost : ℕ) (l : Literal) (out : List Literal) (value : (ℕ → Bool) → Bool) → out ≡ l ∷ [] → IsTest a b cost l value → IsSpelled a b cost 1 out (λ v. bit (value v))
single_spelled a b cost l out value e t = rw e record { grows = t.grows; inside = (t.inside, tt); size = refl; means = λ v m. rw (t.means v m) (omega arith) }

pub repeated_number : (n : ℕ) (b : Bool) → number (replicate n b) ≡ cond b (2 ^ n - 1) 0
repeated_number zero true = refl
repeated_number zero false = refl
repeated_number (suc n) true = let p : 0 < 2 ^ n = pow_pos n in rw (repeated_number n true, double n) (omega arith)
repeated_number (suc n) false = rw (repeated_number n false) refl

pub bits-repeated : (v : ℕ → Bool) (n : ℕ) (l : Literal) → bits v (replicate n l) ≡ replicate n (value_of v l)
bits-repeated v zero l = refl
bits-repeated v (suc n) l = ap (λ (bs : List Bool). value_of v l ∷ bs) (bits-repeated v n l)

pub lit_value : (v : ℕ → Bool) (one l : Literal) (b : Bool) → l ≡ cond b one (opposite one) → value_of v one ≡ true → value_of v l ≡ b
lit_value v one l true e h = ap (value_of v) e ∙ h
lit_value v one l false e h = ap (value_of v) e ∙ (value_of-opposite v one ∙ ap not h)

pub constant_more : (v : ℕ → Bool) (out : List Literal) (l : Literal) (b : Bool) (i rest next value : ℕ) → length out ≡ i → value_of v l ≡ b → bit b + 2 * next ≡ rest → spelled v out + 2 ^ i * rest ≡ value → spelled v (out ++ l ∷ []) + 2 ^ (i + 1) * next ≡ value
constant_more v out l b i rest next value size e f g =
    let next_i : i + 1 ≡ suc i = omega arith in
    let two : 2 ^ (i + 1) ≡ 2 * 2 ^ i = ap (λ (k : ℕ). 2 ^ k) next_i ∙ double i in
    let long : spelled v (out ++ l ∷ []) ≡ spelled v out + 2 ^ i * bit b = ap number (bits-append v out (l ∷ [])) ∙ (number-append (bits v out) (value_of v l ∷ []) ∙ rw (length-bits v out, size, e) (omega arith)) in
    let whole : 2 ^ i * rest ≡ 2 ^ i * bit b + 2 ^ i * (2 * next) = rw (← f) (omega arith) in
    rw (long, two) (omega (arith, whole, g))

pub constant_all : (v : ℕ → Bool) (out : List Literal) (w rest value : ℕ) → length out ≡ w → spelled v out + 2 ^ w * rest ≡ value → spelled v out ≡ value % 2 ^ w
constant_all v out w rest value size e =
    let lt : spelled v out < 2 ^ w = subst (λ (n : ℕ). spelled v out < 2 ^ n) size (below_width v out) in
    sym (ap (λ (k : ℕ). k % 2 ^ w) (sym e) ∙ (add-mul-mod_self_left (spelled v out) (2 ^ w) rest ∙ mod-eq_of_lt lt))

half_on : (r k : ℕ) → k ≡ r % 2 → k < 2 → bit (nat_eq k 1) + 2 * (r / 2) ≡ r
half_on r zero e h = omega arith
half_on r (suc zero) e h = omega arith
half_on r (suc (suc k)) e h = absurd (omega arith)

pub half_of : (r : ℕ) → bit (nat_eq (r % 2) 1) + 2 * (r / 2) ≡ r
half_of r = half_on r (r % 2) refl (omega arith)

pub constant_none : (value : ℕ) → spelled (λ k. false) [] + 2 ^ 0 * value ≡ value
constant_none value = omega arith

pub lit_var : (n : ℕ) (one l : Literal) (b : Bool) → l ≡ cond b one (opposite one) → one.var < n → l.var < n
lit_var n one l true e h = rw e h
lit_var n one l false e h = rw e h
