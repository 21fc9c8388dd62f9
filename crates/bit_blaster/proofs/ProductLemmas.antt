-- Products.
use Rattle.std.proofs.Common.{◌≡◌, ℕ, zero, suc, ◌+◌, ◌-◌, ◌*◌, ◌/◌, ◌%◌, ◌^◌, ◌<◌, ◌≤◌, Bool, true, false, cond, List, [], ◌∷◌, ◌++◌, length, refl, sym, ◌∙◌, ap, subst, arith, replicate, take, get_or}
use Rattle.std.proofs.lemmas.List.{length-replicate, length-append, length-take, take_all}
use Rattle.std.proofs.lemmas.Nat.{div-add-mod', pow_pos}
use Rattle.std.proofs.Math.Nat.{add-mul-mod_self_right, mod-mod, mod-eq_of_lt}
use Rattle.cnf_clauses.specs.Literal.{Literal}
use Rattle.cnf_clauses.specs.Formula.{Cnf}
use Rattle.cnf_clauses.specs.Literal.{value_of}
use Rattle.cnf_clauses.specs.Clause.{IsOver}
use Rattle.bit_blaster.specs.Gates.{Meets, Grows, IsGate, bits}
use Rattle.bit_blaster.specs.Numbers.{number, bit}
use Rattle.bit_blaster.specs.Spelling.{spelled, IsSpelled, IsRow}
use Rattle.bit_blaster.specs.declared.cells.Cell.TheVariants.{Sum}
use Rattle.bit_blaster.proofs.Growing.{grows_refl, grows_trans, bits-append, length-bits}
use Rattle.bit_blaster.proofs.Spells.{zeros, over_repeated}
use Rattle.bit_blaster.proofs.Arithmetic.{sum_number, number-append, take_number, double}
use Rattle.bv_words.proofs.CodeLemmas.{shifted_mod}

pub over_append : (n : ℕ) (xs ys : List Literal) → IsOver n xs → IsOver n ys → IsOver n (xs ++ ys)
over_append n [] ys o p = p
over_append n (x ∷ xs) ys o p = (o.0, over_append n xs ys o.1 p)

pub over_take : (n k : ℕ) (xs : List Literal) → IsOver n xs → IsOver n (take k xs)
over_take n zero xs o = tt
over_take n (suc k) [] o = tt
over_take n (suc k) (x ∷ xs) o = (o.0, over_take n k xs o.1)

pub over_at : (n i : ℕ) (xs : List Literal) (d : Literal) → i < length xs → IsOver n xs → (get_or xs i d).var < n
over_at n i [] d h o = absurd (omega arith)
over_at n zero (x ∷ xs) d h o = o.0
over_at n (suc i) (x ∷ xs) d h o = over_at n i xs d (omega arith) o.1

-- a literal that was read from a list
pub over_read : (n i : ℕ) (xs : List Literal) (l d : Literal) → i < length xs → IsOver n xs → l ≡ get_or xs i d → l.var < n
over_read n i xs l d lt o e = subst (λ (k : Literal). k.var < n) (sym e) (over_at n i xs d lt o)

pub bits-take : (v : ℕ → Bool) (k : ℕ) (xs : List Literal) → bits v (take k xs) ≡ take k (bits v xs)
bits-take v zero xs = refl
bits-take v (suc k) [] = refl
bits-take v (suc k) (x ∷ xs) = ap (λ (bs : List Bool). value_of v x ∷ bs) (bits-take v k xs)

pub length-raised : (z : Literal) (k : ℕ) (xs : List Literal) → k ≤ length xs → length (replicate k z ++ take (length xs - k) xs) ≡ length xs
length-raised z k xs h = omega (arith, length-append (replicate k z) (take (length xs - k) xs), length-replicate k z, length-take (length xs - k) xs)

pub over_raised : (n k : ℕ) (z : Literal) (xs : List Literal) → z.var < n → IsOver n xs → IsOver n (replicate k z ++ take (length xs - k) xs)
over_raised n k z xs h o = over_append n (replicate k z) (take (length xs - k) xs) (over_repeated n k z h) (over_take n (length xs - k) xs o)

pub raised_spelled : (v : ℕ → Bool) (z : Literal) (k : ℕ) (xs : List Literal) → k ≤ length xs → value_of v z ≡ false → spelled v (replicate k z ++ take (length xs - k) xs) ≡ (spelled v xs * 2 ^ k) % 2 ^ length xs
raised_spelled v z k xs h e =
    let whole : length xs - k + k ≡ length xs = omega arith in
    let modulo : (spelled v xs * 2 ^ k) % 2 ^ length xs ≡ (spelled v xs % 2 ^ (length xs - k)) * 2 ^ k = subst (λ (j : ℕ). (spelled v xs * 2 ^ k) % 2 ^ j ≡ (spelled v xs % 2 ^ (length xs - k)) * 2 ^ k) whole (shifted_mod (spelled v xs) (length xs - k) k) in
    ap number (bits-append v (replicate k z) (take (length xs - k) xs)) ∙ (number-append (bits v (replicate k z)) (bits v (take (length xs - k) xs))
    ∙ rw (zeros v k z e, length-bits v (replicate k z), length-replicate k z, bits-take v (length xs - k) xs, take_number (length xs - k) (bits v xs), modulo) (omega arith))

pub sums_mod : (a b m : ℕ) → (a % m + b % m) % m ≡ (a + b) % m
sums_mod a b m =
    let e : a + b ≡ (a % m + b % m) + (a / m + b / m) * m = omega (arith, div-add-mod' a m, div-add-mod' b m) in
    sym (ap (λ (k : ℕ). k % m) e ∙ add-mul-mod_self_right (a % m + b % m) (a / m + b / m) m)

pub times_step : (m x s p : ℕ) (b : Bool) (acc up zs z : ℕ) → acc ≡ (x * s) % m → up ≡ (x * p) % m → zs ≡ 0 → z ≡ 0 → (acc + cond b up zs + z) % m ≡ (x * (s + p * bit b)) % m
times_step m x s p true acc up zs z e f g h = rw (e, f, h) (ap (λ (k : ℕ). k % m) (omega arith) ∙ (sums_mod (x * s) (x * p) m ∙ ap (λ (k : ℕ). k % m) (omega arith)))
times_step m x s p false acc up zs z e f g h = rw (e, g, h) (ap (λ (k : ℕ). k % m) (omega arith) ∙ (mod-mod (x * s) m ∙ ap (λ (k : ℕ). k % m) (omega arith)))

pub take_bit : (i : ℕ) (bs : List Bool) → i < length bs → number (take (i + 1) bs) ≡ number (take i bs) + 2 ^ i * bit (get_or bs i false)
take_bit i [] h = absurd (omega arith)
take_bit zero (b ∷ bs) h = omega arith
take_bit (suc i) (b ∷ bs) h = let e : suc i + 1 ≡ suc (i + 1) = omega arith in
    ap (λ (k : ℕ). number (take k (b ∷ bs))) e ∙ rw (double i) (omega (arith, take_bit i bs (omega arith)))

pub get_or-bits : (v : ℕ → Bool) (i : ℕ) (xs : List Literal) (d : Literal) → i < length xs → get_or (bits v xs) i false ≡ value_of v (get_or xs i d)
get_or-bits v i [] d h = absurd (omega arith)
get_or-bits v zero (x ∷ xs) d h = refl
get_or-bits v (suc i) (x ∷ xs) d h = get_or-bits v i xs d (omega arith)

pub row_spelled : (a b d : Cnf) (z y : Literal) (up zs sum row out : List Literal) (w : ℕ) → length up ≡ w → length sum ≡ w → IsSpelled a b (length up) (length up) row (λ v. cond (value_of v y) (spelled v up) (spelled v zs)) → IsRow b d Sum out z sum row
    → IsSpelled a d (3 * w) w out (λ v. (spelled v sum + cond (value_of v y) (spelled v up) (spelled v zs) + bit (value_of v z)) % 2 ^ w)
row_spelled a b d z y up zs sum row out w p q s r = record {
  grows = grows_trans a b d (length up) (2 * length sum) (3 * w) s.grows r.grows (omega arith);
  inside = r.inside;
  size = r.size ∙ q;
  means = λ v m. ap number (r.made v m) ∙ (sum_number (value_of v z) (bits v sum) (bits v row) (length-bits v sum ∙ q ∙ sym p ∙ sym s.size ∙ sym (length-bits v row))
      ∙ rw (s.means v (r.grows.kept v m), length-bits v sum, q) refl);
}

pub record IsSummed (a b : Cnf) (xs ys : List Literal) (i : ℕ) (sum : List Literal) : Type 0 where
  pub grows : Grows a b (3 * length xs * i)
  pub inside : IsOver b.variables sum
  pub size : length sum ≡ length xs
  pub means : (v : ℕ → Bool) → Meets v b → spelled v sum ≡ (spelled v xs * number (take i (bits v ys))) % 2 ^ length xs

pub summed_none : (a : Cnf) (xs ys : List Literal) (z : Literal) (sum : List Literal) → IsGate a a 0 z (λ v. false) → sum ≡ replicate (length xs) z → IsSummed a a xs ys 0 sum
summed_none a xs ys z sum g e = rw e record {
  grows = grows_refl a (3 * length xs * 0);
  inside = over_repeated a.variables (length xs) z g.inside;
  size = length-replicate (length xs) z;
  means = λ v m. zeros v (length xs) z (g.means v m) ∙ sym (ap (λ (k : ℕ). k % 2 ^ length xs) (omega arith) ∙ mod-eq_of_lt (pow_pos (length xs)));
}

pub summed_more : (a b d : Cnf) (xs ys : List Literal) (z y e : Literal) (i : ℕ) (zs sum out : List Literal) → IsGate a a 0 z (λ v. false) → IsSummed a b xs ys i sum → zs ≡ replicate (length xs) z → y ≡ get_or ys i e → i < length ys → length xs ≡ length ys
    → IsSpelled b d (3 * length xs) (length xs) out (λ v. (spelled v sum + cond (value_of v y) (spelled v (replicate i z ++ take (length xs - i) xs)) (spelled v zs) + bit (value_of v z)) % 2 ^ length xs)
    → IsSummed a d xs ys (i + 1) out
summed_more a b d xs ys z y e i zs sum out g h zs-is y-is lt same s =
    let le : i ≤ length xs = omega arith in
    record {
      grows = grows_trans a b d (3 * length xs * i) (3 * length xs) (3 * length xs * (i + 1)) h.grows s.grows (omega arith);
      inside = s.inside;
      size = s.size;
      means = λ v m.
          let mb : Meets v b = s.grows.kept v m in
          let off : value_of v z ≡ false = g.means v (h.grows.kept v mb) in
          let there : i < length (bits v ys) = omega (arith, length-bits v ys) in
          s.means v m ∙ (times_step (2 ^ length xs) (spelled v xs) (number (take i (bits v ys))) (2 ^ i) (value_of v y) _ _ _ _ (h.means v mb) (raised_spelled v z i xs le off) (ap (spelled v) zs-is ∙ zeros v (length xs) z off) (ap bit off)
          ∙ ap (λ (k : ℕ). (spelled v xs * k) % 2 ^ length xs) (sym (take_bit i (bits v ys) there ∙ ap (λ (k : Bool). number (take i (bits v ys)) + 2 ^ i * bit k) (get_or-bits v i ys e lt ∙ ap (value_of v) (sym y-is)))));
    }

pub summed_all : (a b : Cnf) (xs ys : List Literal) (z : Literal) (i : ℕ) (sum : List Literal) → IsGate a a 0 z (λ v. false) → IsSummed a b xs ys i sum → i ≡ length ys → length xs ≡ length ys → 1 ≤ length xs
    → IsSpelled a b (3 * length xs * length xs) (length xs) sum (λ v. (spelled v xs * spelled v ys) % 2 ^ length xs)
summed_all a b xs ys z i sum g h e same low = record {
  grows = subst (λ (k : ℕ). Grows a b (3 * length xs * k)) (e ∙ sym same) h.grows;
  inside = h.inside;
  size = h.size;
  means = λ v m. h.means v m ∙ ap (λ (k : ℕ). (spelled v xs * k) % 2 ^ length xs) (ap number (take_all i (bits v ys) (omega (arith, length-bits v ys))));
}
