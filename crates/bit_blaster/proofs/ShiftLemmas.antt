-- Shifts.
use Rattle.std.proofs.Common.{◌≡◌, ℕ, zero, suc, ◌+◌, ◌-◌, ◌*◌, ◌/◌, ◌%◌, ◌^◌, ◌<◌, ◌≤◌, Bool, true, false, not, cond, ◌&&◌, List, [], ◌∷◌, ◌++◌, length, refl, sym, ◌∙◌, ap, subst, arith, replicate, take, drop, get_or, nat_lt, min, ⊎_elim}
use Rattle.std.proofs.lemmas.Bool.{cases_lt}
use Rattle.std.proofs.lemmas.Bool.Decides.{nat_tests}
use Rattle.std.proofs.lemmas.List.{length-replicate, length-append, length-drop, take_all}
use Rattle.std.proofs.lemmas.Nat.{mul-mod_first, pow-add, pow_pos}
use Rattle.std.proofs.lemmas.Bool.{lt-ltb}
use Rattle.std.proofs.Math.Nat.{mod-eq_of_lt, div-eq_of_lt, mul-mod_left, div-div-eq-div-mul, pow-le-pow_right, mul-le-mul_left}
use Rattle.cnf_clauses.specs.Literal.{Literal}
use Rattle.cnf_clauses.specs.Formula.{Cnf}
use Rattle.cnf_clauses.specs.Literal.{value_of, opposite}
use Rattle.cnf_clauses.specs.Clause.{IsOver}
use Rattle.bit_blaster.proofs.Over.{IsOver-more}
use Rattle.bit_blaster.specs.Gates.{Meets, Grows, IsGate, bits}
use Rattle.bit_blaster.specs.Numbers.{number, bit}
use Rattle.bit_blaster.specs.Spelling.{spelled, IsSpelled}
use Rattle.bit_blaster.specs.Shifting.{moved_by, IsMoved, IsStage, kept, stage_cost}
use Rattle.cnf_clauses.proofs.Meeting.{value_of-opposite}
use Rattle.bit_blaster.proofs.Growing.{grows_refl, grows_trans, bits-append, length-bits}
use Rattle.bit_blaster.proofs.Spells.{zeros, over_repeated}
use Rattle.bit_blaster.proofs.Arithmetic.{number-append, drop_number, number_below}
use Rattle.bit_blaster.proofs.ProductLemmas.{over_append, over_raised, length-raised, raised_spelled, take_bit, get_or-bits}

-- the laws of shifts by powers
pub moved_twice : (left : Bool) (w x s p : ℕ) → moved_by left w (moved_by left w x s) p ≡ moved_by left w x (s + p)
moved_twice true w x s p = mul-mod_first (x * 2 ^ s) (2 ^ p) (2 ^ w) ∙ ap (λ (k : ℕ). k % 2 ^ w) (rw (pow-add 2 s p) (omega arith))
moved_twice false w x s p = div-div-eq-div-mul x (2 ^ s) (2 ^ p) ∙ ap (λ (k : ℕ). x / k) (sym (pow-add 2 s p))

pub moved_still : (left : Bool) (w x : ℕ) → x < 2 ^ w → moved_by left w x 0 ≡ x
moved_still true w x h = ap (λ (k : ℕ). k % 2 ^ w) (omega arith) ∙ mod-eq_of_lt h
moved_still false w x h = omega arith

pub moved_far : (left : Bool) (w x p : ℕ) → x < 2 ^ w → w ≤ p → moved_by left w x p ≡ 0
moved_far true w x p h k =
    let e : p - w + w ≡ p = omega arith in
    subst (λ (q : ℕ). (x * 2 ^ q) % 2 ^ w ≡ 0) e (ap (λ (q : ℕ). q % 2 ^ w) (rw (pow-add 2 (p - w) w) (omega arith)) ∙ mul-mod_left (x * 2 ^ (p - w)) (2 ^ w))
moved_far false w x p h k = let two : 0 < 2 = omega arith in let le : 2 ^ w ≤ 2 ^ p = pow-le-pow_right two k in let lt : x < 2 ^ p = omega arith in div-eq_of_lt lt

pub moved_none : (left : Bool) (w p : ℕ) → moved_by left w 0 p ≡ 0
moved_none true w p = ap (λ (k : ℕ). k % 2 ^ w) (omega arith) ∙ mod-eq_of_lt (pow_pos w)
moved_none false w p = div-eq_of_lt (pow_pos p)

pub raised_moved : (z : Literal) (xs : List Literal) (k : ℕ) → k ≤ length xs → IsMoved true z xs (replicate k z ++ take (length xs - k) xs) k
raised_moved z xs k h = record { size = length-raised z k xs h; inside = λ n p o. over_raised n k z xs p o; means = λ v e. raised_spelled v z k xs h e }

pub over_drop : (n k : ℕ) (xs : List Literal) → IsOver n xs → IsOver n (drop k xs)
over_drop n zero xs o = o
over_drop n (suc k) [] o = tt
over_drop n (suc k) (x ∷ xs) o = over_drop n k xs o.1

pub bits-drop : (v : ℕ → Bool) (k : ℕ) (xs : List Literal) → bits v (drop k xs) ≡ drop k (bits v xs)
bits-drop v zero xs = refl
bits-drop v (suc k) [] = refl
bits-drop v (suc k) (x ∷ xs) = bits-drop v k xs

pub lowered_moved : (z : Literal) (xs : List Literal) (k : ℕ) → k ≤ length xs → IsMoved false z xs (drop k xs ++ replicate k z) k
lowered_moved z xs k h = record {
  size = omega (arith, length-append (drop k xs) (replicate k z), length-drop k xs, length-replicate k z);
  inside = λ n p o. over_append n (drop k xs) (replicate k z) (over_drop n k xs o) (over_repeated n k z p);
  means = λ v e. ap number (bits-append v (drop k xs) (replicate k z)) ∙ (number-append (bits v (drop k xs)) (bits v (replicate k z)) ∙ rw (zeros v k z e, bits-drop v k xs, drop_number k (bits v xs)) (omega arith));
}

-- a shift by a power of two where y is on
stage_value : (left : Bool) (w x up p : ℕ) (over y : Bool) → x < 2 ^ w → up ≡ moved_by left w x p → cond over 0 (cond y up x) ≡ moved_by left w (cond over 0 x) (p * bit y)
stage_value left w x up p true y h e = sym (moved_none left w (p * bit y))
stage_value left w x up p false true h e = e ∙ ap (moved_by left w x) (omega arith)
stage_value left w x up p false false h e = let o : p * 0 ≡ 0 = omega arith in sym (ap (moved_by left w x) o ∙ moved_still left w x h)

far_value : (left : Bool) (w x p : ℕ) (over y : Bool) → x < 2 ^ w → w ≤ p → cond (not (not over && not y)) 0 x ≡ moved_by left w (cond over 0 x) (p * bit y)
far_value left w x p true y h k = sym (moved_none left w (p * bit y))
far_value left w x p false true h k = sym (ap (moved_by left w x) (omega arith) ∙ moved_far left w x p h k)
far_value left w x p false false h k = let o : p * 0 ≡ 0 = omega arith in sym (ap (moved_by left w x) o ∙ moved_still left w x h)

pub stage_near : (a b : Cnf) (left : Bool) (z over y : Literal) (xs up out : List Literal) (j : ℕ) → ((v : ℕ → Bool) → Meets v a → value_of v z ≡ false) → over.var < a.variables → j < 6 → IsMoved left z xs up (2 ^ j)
    → IsSpelled a b (length up) (length up) out (λ v. cond (value_of v y) (spelled v up) (spelled v xs)) → IsStage a b left over xs j y over out
stage_near a b left z over y xs up out j off h lt m s = record {
  grows = grows_trans a b b (length up) 0 (stage_cost (length xs) j) s.grows (grows_refl b 0) (rw (lt-ltb j 6 lt) (omega (arith, m.size)));
  over_in = omega (arith, s.grows.more);
  inside = s.inside;
  size = s.size ∙ m.size;
  means = λ v mb. ap (λ (k : ℕ). cond (value_of v over) 0 k) (s.means v mb) ∙ stage_value left (length xs) (spelled v xs) (spelled v up) (2 ^ j) (value_of v over) (value_of v y)
      (subst (λ (n : ℕ). spelled v xs < 2 ^ n) (length-bits v xs) (number_below (bits v xs))) (m.means v (off v (s.grows.kept v mb)));
}

pub stage_far : (a b : Cnf) (left : Bool) (over y p q both o : Literal) (xs : List Literal) (j : ℕ) → length xs ≤ 2 ^ j → IsOver a.variables xs → p ≡ opposite over → q ≡ opposite y → o ≡ opposite both → IsGate a b 1 both (λ v. value_of v p && value_of v q)
    → IsStage a b left over xs j y o xs
stage_far a b left over y p q both o xs j le inside p-is q-is o-is g = record {
  grows = grows_trans a b b 1 0 (stage_cost (length xs) j) g.grows (grows_refl b 0) (omega arith);
  over_in = rw o-is g.inside;
  inside = IsOver-more _ _ xs g.grows.more inside;
  size = refl;
  means = λ v m.
      let e : value_of v o ≡ not (not (value_of v over) && not (value_of v y)) = rw (o-is, value_of-opposite v both, g.means v m, p-is, q-is, value_of-opposite v over, value_of-opposite v y) refl in
      ap (λ (k : Bool). cond k 0 (spelled v xs)) e ∙ far_value left (length xs) (spelled v xs) (2 ^ j) (value_of v over) (value_of v y) (subst (λ (n : ℕ). spelled v xs < 2 ^ n) (length-bits v xs) (number_below (bits v xs))) le;
}

pub record IsShifted (a b : Cnf) (left : Bool) (xs ys : List Literal) (j : ℕ) (over : Literal) (out : List Literal) : Type 0 where
  pub grows : Grows a b (j + length xs * min j 6)
  pub over_in : over.var < b.variables
  pub inside : IsOver b.variables out
  pub size : length out ≡ length xs
  pub means : (v : ℕ → Bool) → Meets v b → kept v over out ≡ moved_by left (length xs) (spelled v xs) (number (take j (bits v ys)))

pub shifted_none : (a : Cnf) (left : Bool) (xs ys out : List Literal) (z : Literal) → IsGate a a 0 z (λ v. false) → IsOver a.variables xs → out ≡ xs → IsShifted a a left xs ys 0 z out
shifted_none a left xs ys out z g h e = rw e record {
  grows = grows_refl a _;
  over_in = g.inside;
  inside = h;
  size = refl;
  means = λ v m. rw (g.means v m) (sym (moved_still left (length xs) (spelled v xs) (subst (λ (n : ℕ). spelled v xs < 2 ^ n) (length-bits v xs) (number_below (bits v xs)))));
}

cost_near : (w j : ℕ) → (j + w * min j 6) + stage_cost w j ≤ (j + 1) + w * min (j + 1) 6
cost_near w j = ⊎_elim
    (λ lt. let e : min j 6 ≡ j = omega arith in let f : min (j + 1) 6 ≡ j + 1 = omega arith in rw (lt-ltb j 6 lt, e, f) (omega arith))
    (λ ge. let e : min j 6 ≡ 6 = omega arith in let f : min (j + 1) 6 ≡ 6 = omega arith in let t : nat_lt j 6 ≡ false = grind (arith, nat_tests) in rw (t, e, f) (omega arith))
    (cases_lt j 6)

pub shifted_more : (a b d : Cnf) (left : Bool) (xs ys word out : List Literal) (j : ℕ) (over o y e : Literal) → IsShifted a b left xs ys j over word → IsStage b d left over word j y o out → y ≡ get_or ys j e → j < length ys → IsShifted a d left xs ys (j + 1) o out
shifted_more a b d left xs ys word out j over o y e h s y-is lt = record {
  grows = grows_trans a b d (j + length xs * min j 6) (stage_cost (length word) j) ((j + 1) + length xs * min (j + 1) 6) h.grows s.grows (rw h.size (cost_near (length xs) j));
  over_in = s.over_in;
  inside = s.inside;
  size = s.size ∙ h.size;
  means = λ v m.
      let there : j < length (bits v ys) = omega (arith, length-bits v ys) in
      s.means v m ∙ (rw (h.size, h.means v (s.grows.kept v m)) (moved_twice left (length xs) (spelled v xs) (number (take j (bits v ys))) (2 ^ j * bit (value_of v y)))
      ∙ ap (moved_by left (length xs) (spelled v xs)) (sym (take_bit j (bits v ys) there ∙ ap (λ (k : Bool). number (take j (bits v ys)) + 2 ^ j * bit k) (get_or-bits v j ys e lt ∙ ap (value_of v) (sym y-is)))));
}

min-six : (j : ℕ) → min j 6 ≤ 6
min-six j = omega arith

pub shifted_all : (a b d : Cnf) (left : Bool) (xs ys zs word out : List Literal) (z over : Literal) (j : ℕ) → IsGate a a 0 z (λ v. false) → IsShifted a b left xs ys j over word → j ≡ length ys → zs ≡ replicate (length xs) z
    → IsSpelled b d (length zs) (length zs) out (λ v. cond (value_of v over) (spelled v zs) (spelled v word)) → IsSpelled a d (7 * length xs + length ys) (length xs) out (λ v. moved_by left (length xs) (spelled v xs) (spelled v ys))
shifted_all a b d left xs ys zs word out z over j g h e zs-is s =
    let size : length zs ≡ length xs = ap length zs-is ∙ length-replicate (length xs) z in
    let six : length xs * min j 6 ≤ length xs * 6 = mul-le-mul_left (length xs) (min-six j) in
    record {
      grows = grows_trans a b d (j + length xs * min j 6) (length zs) (7 * length xs + length ys) h.grows s.grows (omega arith);
      inside = s.inside;
      size = s.size ∙ size;
      means = λ v m.
          let mb : Meets v b = s.grows.kept v m in
          s.means v m ∙ (ap (λ (k : ℕ). cond (value_of v over) k (spelled v word)) (ap (spelled v) zs-is ∙ zeros v (length xs) z (g.means v (h.grows.kept v mb)))
          ∙ (h.means v mb ∙ ap (λ (bs : List Bool). moved_by left (length xs) (spelled v xs) (number bs)) (take_all j (bits v ys) (omega (arith, length-bits v ys)))));
    }
