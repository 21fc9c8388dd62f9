-- Words that ripples make.
use Rattle.std.proofs.Common.{◌≡◌, ℕ, zero, suc, ◌+◌, ◌-◌, ◌*◌, ◌%◌, ◌^◌, ◌<◌, Bool, true, false, cond, List, [], ◌∷◌, ◌++◌, length, refl, sym, ◌∙◌, ap, subst, arith, map, replicate, nat_lt, nat_eq, add-one}
use Rattle.std.proofs.lemmas.List.{length-replicate}
use Rattle.std.specs.Prelude.{bit_and, bit_or, bit_xor}
use Rattle.cnf_clauses.specs.Literal.{Literal}
use Rattle.cnf_clauses.specs.Formula.{Cnf}
use Rattle.cnf_clauses.specs.Literal.{value_of, opposite}
use Rattle.cnf_clauses.specs.Clause.{IsOver}
use Rattle.bit_blaster.specs.Gates.{Grows, IsGate, bits}
use Rattle.bit_blaster.specs.Ripples.{ripple, carried, IsRipple}
use Rattle.bit_blaster.specs.Numbers.{number}
use Rattle.bit_blaster.specs.Spelling.{spelled, IsCombined, IsSpelled, IsTest, IsRow}
use Rattle.bit_blaster.specs.declared.cells.Cell.{Cell}
use Rattle.bit_blaster.specs.declared.cells.Cell.TheVariants.{Both, Either, Differ, Choose, Sum, Less, Same}
use Rattle.cnf_clauses.proofs.Meeting.{value_of-opposite}
use Rattle.bit_blaster.proofs.Growing.{grows_refl, grows_trans, length-bits}
use Rattle.bit_blaster.proofs.Arithmetic.{both_number, either_number, differ_number, choose_number, sum_number, less_number, same_number, flipped, flipped_number}

pub combined_from : (a d : Cnf) (kind : Cell) (carry : Bool) (c n : Literal) (out xs ys : List Literal) → length xs ≡ length ys → IsGate a a 0 c (λ v. carry) → IsRipple a d kind [] out c n xs ys → IsCombined a d kind carry out n xs ys
combined_from a d kind carry c n out xs ys same g r = record {
  grows = r.grows;
  out_in = r.out_in;
  next_in = r.next_in;
  size = omega (arith, r.size);
  made = λ v m. r.out v m ∙ ap (λ (k : Bool). ripple kind k (bits v xs) (bits v ys)) (g.means v (r.grows.kept v m));
  last = λ v m. r.next v m ∙ ap (λ (k : Bool). carried kind k (bits v xs) (bits v ys)) (g.means v (r.grows.kept v m));
}

same_bits : (v : ℕ → Bool) (xs ys : List Literal) → length xs ≡ length ys → length (bits v xs) ≡ length (bits v ys)
same_bits v xs ys e = length-bits v xs ∙ e ∙ sym (length-bits v ys)

pub both_spelled : (a b : Cnf) (carry : Bool) (n : Literal) (out xs ys : List Literal) → length xs ≡ length ys → IsCombined a b Both carry out n xs ys → IsSpelled a b (length xs) (length xs) out (λ v. bit_and (spelled v xs) (spelled v ys))
both_spelled a b carry n out xs ys e r = record {
  grows = grows_trans a b b (1 * length xs) 0 (length xs) r.grows (grows_refl b 0) (omega arith);
  inside = r.out_in;
  size = r.size;
  means = λ v m. ap number (r.made v m) ∙ both_number carry (bits v xs) (bits v ys) (same_bits v xs ys e);
}

pub sum_spelled : (a b : Cnf) (n : Literal) (out xs ys : List Literal) → length xs ≡ length ys → IsCombined a b Sum false out n xs ys → IsSpelled a b (2 * length xs) (length xs) out (λ v. (spelled v xs + spelled v ys) % 2 ^ length xs)
sum_spelled a b n out xs ys e r = record {
  grows = r.grows;
  inside = r.out_in;
  size = r.size;
  means = λ v m. ap number (r.made v m) ∙ (sum_number false (bits v xs) (bits v ys) (same_bits v xs ys e) ∙ rw (length-bits v xs) (ap (λ (k : ℕ). k % 2 ^ length xs) (omega arith)));
}

pub replicate-push : (n : ℕ) (l : Literal) → replicate n l ++ l ∷ [] ≡ replicate (n + 1) l
replicate-push zero l = refl
replicate-push (suc n) l = ap (λ (ls : List Literal). l ∷ ls) (replicate-push n l) ∙ rw (add-one, add-one) refl

pub either_spelled : (a b : Cnf) (carry : Bool) (n : Literal) (out xs ys : List Literal) → length xs ≡ length ys → IsCombined a b Either carry out n xs ys → IsSpelled a b (length xs) (length xs) out (λ v. bit_or (spelled v xs) (spelled v ys))
either_spelled a b carry n out xs ys e r = record {
  grows = grows_trans a b b (1 * length xs) 0 (length xs) r.grows (grows_refl b 0) (omega arith);
  inside = r.out_in;
  size = r.size;
  means = λ v m. ap number (r.made v m) ∙ either_number carry (bits v xs) (bits v ys) (same_bits v xs ys e);
}

pub differ_spelled : (a b : Cnf) (carry : Bool) (n : Literal) (out xs ys : List Literal) → length xs ≡ length ys → IsCombined a b Differ carry out n xs ys → IsSpelled a b (length xs) (length xs) out (λ v. bit_xor (spelled v xs) (spelled v ys))
differ_spelled a b carry n out xs ys e r = record {
  grows = grows_trans a b b (1 * length xs) 0 (length xs) r.grows (grows_refl b 0) (omega arith);
  inside = r.out_in;
  size = r.size;
  means = λ v m. ap number (r.made v m) ∙ differ_number carry (bits v xs) (bits v ys) (same_bits v xs ys e);
}

pub same_test : (a b : Cnf) (n : Literal) (out xs ys : List Literal) → length xs ≡ length ys → IsCombined a b Same true out n xs ys → IsTest a b (2 * length xs) n (λ v. nat_eq (spelled v xs) (spelled v ys))
same_test a b n out xs ys e r = record {
  grows = r.grows;
  inside = r.next_in;
  means = λ v m. r.last v m ∙ same_number true (bits v xs) (bits v ys) (same_bits v xs ys e);
}

pub less_test : (a b : Cnf) (n : Literal) (out xs ys : List Literal) → length xs ≡ length ys → IsCombined a b Less false out n xs ys → IsTest a b (length xs) n (λ v. nat_lt (spelled v xs) (spelled v ys))
less_test a b n out xs ys e r = record {
  grows = grows_trans a b b (1 * length xs) 0 (length xs) r.grows (grows_refl b 0) (omega arith);
  inside = r.next_in;
  means = λ v m. r.last v m ∙ (less_number false (bits v xs) (bits v ys) (same_bits v xs ys e) ∙ ap (λ (k : ℕ). nat_lt (spelled v xs) k) (omega arith));
}

pub row_from : (a b : Cnf) (kind : Cell) (c n : Literal) (out xs ys : List Literal) → length xs ≡ length ys → IsRipple a b kind [] out c n xs ys → IsRow a b kind out c xs ys
row_from a b kind c n out xs ys same r = record { grows = r.grows; inside = r.out_in; size = omega (arith, r.size); made = λ v m. r.out v m }

pub chosen_spelled : (a b : Cnf) (c : Literal) (out xs ys : List Literal) → length xs ≡ length ys → IsRow a b Choose out c xs ys → IsSpelled a b (length xs) (length xs) out (λ v. cond (value_of v c) (spelled v xs) (spelled v ys))
chosen_spelled a b c out xs ys e r = record {
  grows = grows_trans a b b (1 * length xs) 0 (length xs) r.grows (grows_refl b 0) (omega arith);
  inside = r.inside;
  size = r.size;
  means = λ v m. ap number (r.made v m) ∙ choose_number (value_of v c) (bits v xs) (bits v ys) (same_bits v xs ys e);
}

pub bits-flipped : (v : ℕ → Bool) (xs : List Literal) → bits v (map opposite xs) ≡ flipped (bits v xs)
bits-flipped v [] = refl
bits-flipped v (x ∷ xs) = rw (value_of-opposite v x, bits-flipped v xs) refl

pub length-flipped : (xs : List Literal) → length (map opposite xs) ≡ length xs
length-flipped [] = refl
length-flipped (x ∷ xs) = omega (arith, length-flipped xs)

pub over_flipped : (n : ℕ) (xs : List Literal) → IsOver n xs → IsOver n (map opposite xs)
over_flipped n [] o = tt
over_flipped n (x ∷ xs) o = (o.0, over_flipped n xs o.1)

pub over_repeated : (n k : ℕ) (l : Literal) → l.var < n → IsOver n (replicate k l)
over_repeated n zero l h = tt
over_repeated n (suc k) l h = (h, over_repeated n k l h)

pub zeros : (v : ℕ → Bool) (k : ℕ) (l : Literal) → value_of v l ≡ false → spelled v (replicate k l) ≡ 0
zeros v zero l e = refl
zeros v (suc k) l e = rw (e, zeros v k l e) refl

minus : (s x w : ℕ) → s + x + 1 ≡ 2 ^ w → (s + 0 + 1) % 2 ^ w ≡ (2 ^ w - x) % 2 ^ w
minus s x w e = let f : s + 0 + 1 ≡ 2 ^ w - x = omega arith in ap (λ (k : ℕ). k % 2 ^ w) f

length-turned : (bs : List Bool) → length (flipped bs) ≡ length bs
length-turned [] = refl
length-turned (b ∷ bs) = omega (arith, length-turned bs)

pub negated_spelled : (a d : Cnf) (z n : Literal) (out xs : List Literal) → IsGate a a 0 z (λ v. false) → IsCombined a d Sum true out n (map opposite xs) (replicate (length xs) z)
    → IsSpelled a d (2 * length xs) (length xs) out (λ v. (2 ^ length xs - spelled v xs) % 2 ^ length xs)
negated_spelled a d z n out xs g r =
    let same : length (map opposite xs) ≡ length (replicate (length xs) z) = length-flipped xs ∙ sym (length-replicate (length xs) z) in
    record {
      grows = subst (λ (k : ℕ). Grows a d (2 * k)) (length-flipped xs) r.grows;
      inside = r.out_in;
      size = r.size ∙ length-flipped xs;
      means = λ v m. ap number (r.made v m) ∙ (sum_number true (bits v (map opposite xs)) (bits v (replicate (length xs) z)) (same_bits v _ _ same)
          ∙ rw (zeros v (length xs) z (g.means v (r.grows.kept v m)), bits-flipped v xs, length-turned (bits v xs), length-bits v xs) (minus (number (flipped (bits v xs))) (spelled v xs) (length xs) (flipped_number (bits v xs) ∙ ap (λ (k : ℕ). 2 ^ k) (length-bits v xs))));
    }
