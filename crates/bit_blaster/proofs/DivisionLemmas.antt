-- A restoring divider, bit by bit from the top.
use Rattle.std.proofs.Common.{rules, ◌≡◌, ℕ, zero, suc, ◌+◌, ◌-◌, ◌*◌, ◌/◌, ◌%◌, ◌^◌, ◌<◌, ◌≤◌, Bool, true, false, cond, List, [], ◌∷◌, ◌++◌, length, refl, sym, ◌∙◌, ap, subst, arith, nat_lt, nat_le, ⊎_elim, take, replicate, map}
use Rattle.std.proofs.lemmas.Nat.{div-add-mod', mod_below}
use Rattle.std.proofs.Math.Nat.{mod-eq_of_lt, div-eq_of_lt, add-mod_right, mul-add-mod_self_right, mod-zero, div-zero, mod-le, zero-mod, zero-div, add-div_right, mul-add-div_right}
use Rattle.std.proofs.lemmas.List.{length-take, length-replicate, length-append}
use Rattle.cnf_clauses.specs.Literal.{Literal, value_of, opposite}
use Rattle.cnf_clauses.specs.Formula.{Cnf}
use Rattle.cnf_clauses.specs.Clause.{IsOver}
use Rattle.bit_blaster.specs.Gates.{Meets, Grows, IsGate, bits}
use Rattle.bit_blaster.specs.Spelling.{spelled, IsSpelled, IsTest}
use Rattle.bit_blaster.specs.Dividing.{IsDivided, IsQuotient, IsDivision}
use Rattle.bit_blaster.proofs.Growing.{grows_refl, grows_trans, length-bits, bits-append}
use Rattle.bit_blaster.proofs.Spells.{zeros, over_repeated, bits-flipped, length-flipped, over_flipped}
use Rattle.bit_blaster.proofs.Over.{IsOver-more}
use Rattle.bit_blaster.proofs.WireLemmas.{below_width}
use Rattle.bit_blaster.proofs.ProductLemmas.{bits-take, over_append}
use Rattle.std.proofs.lemmas.Bool.{cases_lt}
use Rattle.std.proofs.lemmas.Bool.Decides.{nat_tests}
use Rattle.bit_blaster.specs.Ripples.{ripple, carried, IsRipple}
use Rattle.bit_blaster.specs.Numbers.{number, bit}
use Rattle.bit_blaster.specs.declared.cells.Cell.TheVariants.{Sum}
use Rattle.bit_blaster.proofs.Arithmetic.{sum_whole, flipped, flipped_number, weight, take_number, bit_small, number-append, double}

-- the difference by turned bits and a carry, whose last carry is the test
pub difference : (n d x y f : ℕ) (c : Bool) → d < 2 ^ n → x < 2 ^ n → f + y + 1 ≡ 2 ^ n → d + weight n c ≡ x + f + 1 → (c ≡ nat_le y x) × (cond c d x ≡ cond (nat_le y x) (x - y) x)
difference n d x y f true h k e g = let t : nat_le y x ≡ true = grind (arith, nat_tests) in rw t (refl, omega arith)
difference n d x y f false h k e g = let t : nat_le y x ≡ false = grind (arith, nat_tests) in rw t (refl, refl)

below_test : (s y : ℕ) → s < y → nat_le y s ≡ false
below_test s y h = grind (arith, nat_tests)

above_test : (s y : ℕ) → y ≤ s → nat_le y s ≡ true
above_test s y h = grind (arith, nat_tests)

-- a step of long division: s is twice the remainder so far, and the next bit
pub next_remainder : (x y b s : ℕ) → b < 2 → s ≡ 2 * (x % y) + b → (2 * x + b) % y ≡ cond (nat_le y s) (s - y) s
next_remainder x zero b s h e = mod-zero (2 * x + b) ∙ (let t : nat_le 0 s ≡ true = above_test s 0 (omega arith) in let u : x % 0 ≡ x = mod-zero x in rw t (omega (arith, u)))
next_remainder x (suc k) b s h e =
    let y : ℕ = suc k in
    let pos : 0 < y = omega arith in
    let small : x % y < y = mod_below x y pos in
    let whole : 2 * x + b ≡ 2 * (x / y) * y + s = omega (arith, div-add-mod' x y) in
    ap (λ (n : ℕ). n % y) whole ∙ (mul-add-mod_self_right (2 * (x / y)) y s
    ∙ ⊎_elim (λ lt. let t : nat_le y s ≡ false = below_test s y lt in rw t (mod-eq_of_lt lt))
    (λ ge. let t : nat_le y s ≡ true = above_test s y ge in let lt : s - y < y = omega arith in let e : s ≡ s - y + y = omega arith in rw t (ap (λ (n : ℕ). n % y) e ∙ (add-mod_right (s - y) y ∙ mod-eq_of_lt lt)))
    (cases_lt s y))

pub next_quotient : (x y b s : ℕ) → b < 2 → 0 < y → s ≡ 2 * (x % y) + b → (2 * x + b) / y ≡ 2 * (x / y) + bit (nat_le y s)
next_quotient x y b s h pos e =
    let small : x % y < y = mod_below x y pos in
    let whole : 2 * x + b ≡ 2 * (x / y) * y + s = omega (arith, div-add-mod' x y) in
    let down : s / y ≡ bit (nat_le y s) = ⊎_elim
    (λ lt. let t : nat_le y s ≡ false = below_test s y lt in rw t (div-eq_of_lt lt))
    (λ ge. let t : nat_le y s ≡ true = above_test s y ge in let lt : s - y < y = omega arith in let f : s ≡ s - y + y = omega arith in rw t (ap (λ (n : ℕ). n / y) f ∙ (add-div_right (s - y) pos ∙ ap (λ (n : ℕ). n + 1) (div-eq_of_lt lt)))) (cases_lt s y) in
    ap (λ (n : ℕ). n / y) whole ∙ (mul-add-div_right pos (2 * (x / y)) s ∙ ap (λ (n : ℕ). 2 * (x / y) + n) down)

choice_mod : (c : Bool) (d x m : ℕ) → cond c (d % m) (x % m) ≡ cond c d x % m
choice_mod true d x m = refl
choice_mod false d x m = refl

pub divided_step : (a b d : Cnf) (one x c : Literal) (rest turned twice less out : List Literal) → twice ≡ x ∷ rest → length turned ≡ length rest + 1 → IsRipple a b Sum [] less one c twice turned
    → IsSpelled b d (length (take (length rest) less)) (length (take (length rest) less)) out (λ v. cond (value_of v c) (spelled v (take (length rest) less)) (spelled v (take (length rest) twice))) → IsDivided a d one x rest turned c out
divided_step a b d one x c rest turned twice less out e longer r s =
    let twice-size : length twice ≡ length rest + 1 = ap length e ∙ omega arith in
    let less-size : length less ≡ length rest + 1 = omega (arith, r.size) in
    let front : length (take (length rest) less) ≡ length rest = omega (arith, length-take (length rest) less) in
    record {
      grows = grows_trans a b d (2 * length twice) (length (take (length rest) less)) (3 * length rest + 2) r.grows s.grows (omega arith);
      q_in = omega (arith, r.next_in, s.grows.more);
      inside = s.inside;
      size = s.size ∙ front;
      means = λ v m h y z f g.
          let mb : Meets v b = s.grows.kept v m in
          let n : ℕ = length rest + 1 in
          let same : length (bits v twice) ≡ length (bits v turned) = length-bits v twice ∙ (twice-size ∙ (sym longer ∙ sym (length-bits v turned))) in
          let made : bits v less ≡ ripple Sum true (bits v twice) (bits v turned) = r.out v mb ∙ ap (λ (k : Bool). ripple Sum k (bits v twice) (bits v turned)) h in
          let last : value_of v c ≡ carried Sum true (bits v twice) (bits v turned) = r.next v mb ∙ ap (λ (k : Bool). carried Sum k (bits v twice) (bits v turned)) h in
          let z-is : spelled v twice ≡ z = ap (spelled v) e ∙ sym g in
          let whole : spelled v less + weight n (value_of v c) ≡ z + spelled v turned + 1 =
          rw (made, last) (subst (λ (k : ℕ). number (ripple Sum true (bits v twice) (bits v turned)) + weight k (carried Sum true (bits v twice) (bits v turned)) ≡ z + spelled v turned + 1) (length-bits v twice ∙ twice-size) (sum_whole true (bits v twice) (bits v turned) same ∙ rw z-is refl)) in
          let d-low : spelled v less < 2 ^ n = subst (λ (k : ℕ). spelled v less < 2 ^ k) less-size (below_width v less) in
          let z-low : z < 2 ^ n = subst (λ (k : ℕ). z < 2 ^ k) twice-size (subst (λ (k : ℕ). k < 2 ^ length twice) z-is (below_width v twice)) in
          let p = difference n (spelled v less) z y (spelled v turned) (value_of v c) d-low z-low f whole in
          (p.0, s.means v m ∙ (rw (bits-take v (length rest) less, bits-take v (length rest) twice, take_number (length rest) (bits v less), take_number (length rest) (bits v twice), z-is) (choice_mod (value_of v c) (spelled v less) z (2 ^ length rest) ∙ ap (λ (k : ℕ). k % 2 ^ length rest) p.1)));
    }

pub quotient_none : (f : Cnf) (z one : Literal) (xs turned : List Literal) (w : ℕ) (q r : List Literal) → length xs ≡ 0 → z.var < f.variables → q ≡ [] → r ≡ replicate w z → IsQuotient f f z one xs turned w q r
quotient_none f z one (x ∷ xs) turned w q r e h p s = absurd (omega arith)
quotient_none f z one [] turned w q r e h p s = rw (p, s) record {
  grows = grows_refl f _;
  q_in = tt;
  r_in = over_repeated f.variables w z h;
  q_size = refl;
  r_size = length-replicate w z;
  means = λ v m off on y g lt. (zeros v w z off ∙ sym (zero-mod y), λ pos. sym (zero-div y));
}

pub quotient_more : (a b d : Cnf) (z one x c : Literal) (xs turned : List Literal) (w : ℕ) (q r q-new out : List Literal) → IsQuotient a b z one xs turned w q r → IsDivided b d one x r turned c out → q-new ≡ c ∷ q → IsQuotient a d z one (x ∷ xs) turned w q-new out
quotient_more a b d z one x c xs turned w q r q-new out h s e = rw e record {
  grows = grows_trans a b d ((3 * w + 2) * length xs) (3 * length r + 2) ((3 * w + 2) * length (x ∷ xs)) h.grows s.grows (rw h.r_size (omega arith));
  q_in = (s.q_in, IsOver-more _ _ q s.grows.more h.q_in);
  r_in = s.inside;
  q_size = omega (arith, h.q_size);
  r_size = s.size ∙ h.r_size;
  means = λ v m off on y g lt.
      let n : ℕ = spelled v xs in
      let b-of : ℕ = bit (value_of v x) in
      let small : n < 2 ^ w = omega arith in
      let p = h.means v (s.grows.kept v m) off on y g small in
      let wide : spelled v turned + y + 1 ≡ 2 ^ (length r + 1) = rw h.r_size g in
      let t : ℕ = b-of + 2 * spelled v r in
      let t-is : t ≡ 2 * (n % y) + b-of = rw p.0 (omega arith) in
      let o = s.means v m on y t wide refl in
      let all : b-of + 2 * n ≡ 2 * n + b-of = omega arith in
      let kept : cond (nat_le y t) (t - y) t ≡ (b-of + 2 * n) % y = sym (ap (λ (k : ℕ). k % y) all ∙ next_remainder n y b-of t (bit_small (value_of v x)) t-is) in
      let down : (b-of + 2 * n) % y ≤ b-of + 2 * n = mod-le (b-of + 2 * n) y in
      let below : (b-of + 2 * n) % y < 2 ^ w = omega (arith, down, lt) in (
        o.1 ∙ (rw (h.r_size, kept) (mod-eq_of_lt below)),
        λ pos. rw (o.0, p.1 pos) (omega arith ∙ sym (ap (λ (k : ℕ). k / y) all ∙ next_quotient n y b-of t (bit_small (value_of v x)) pos t-is)),
      );
}

-- the divisor with a zero on top, all bits turned
abbrev pub turned_up : List Literal → Literal → List Literal
turned_up ys one = map opposite ys ++ one ∷ []

pub length-turned_up : (ys : List Literal) (one : Literal) → length (turned_up ys one) ≡ length ys + 1
length-turned_up ys one = length-append (map opposite ys) (one ∷ []) ∙ rw (length-flipped ys) refl

pub over_turned_up : (n : ℕ) (ys : List Literal) (one : Literal) → IsOver n ys → one.var < n → IsOver n (turned_up ys one)
over_turned_up n ys one o h = over_append n (map opposite ys) (one ∷ []) (over_flipped n ys o) (h, tt)

turned_up_spelled : (v : ℕ → Bool) (ys : List Literal) (one : Literal) → value_of v one ≡ true → spelled v (turned_up ys one) + spelled v ys + 1 ≡ 2 ^ (length ys + 1)
turned_up_spelled v ys one on =
    let parts : spelled v (turned_up ys one) ≡ number (flipped (bits v ys)) + 2 ^ length (flipped (bits v ys)) * spelled v (one ∷ []) =
    ap number (bits-append v (map opposite ys) (one ∷ []) ∙ ap (λ (bs : List Bool). bs ++ bits v (one ∷ [])) (bits-flipped v ys)) ∙ number-append (flipped (bits v ys)) (bits v (one ∷ [])) in
    let top : spelled v (one ∷ []) ≡ 1 = ap (λ (b : Bool). number (b ∷ [])) on in
    let size : length (flipped (bits v ys)) ≡ length ys = sym (ap length (bits-flipped v ys)) ∙ length-bits v (map opposite ys) ∙ length-flipped ys in
    let low : number (flipped (bits v ys)) + spelled v ys + 1 ≡ 2 ^ length ys = flipped_number (bits v ys) ∙ ap (λ (k : ℕ). 2 ^ k) (length-bits v ys) in
    let twice : 2 ^ (length ys + 1) ≡ 2 * 2 ^ length ys = (let e : length ys + 1 ≡ suc (length ys) = omega arith in ap (λ (k : ℕ). 2 ^ k) e ∙ double (length ys)) in
    rw (parts, top, size) (omega (arith, low, twice))

by_test : (x y q : ℕ) → (0 < y → q ≡ x / y) → cond (nat_lt 0 y) q 0 ≡ x / y
by_test x zero q h = sym (div-zero x)
by_test x (suc y) q h = let t : nat_lt 0 (suc y) ≡ true = search rules in rw t (h (omega arith))

-- a quotient that is 0 where the divisor is 0
pub division_whole : (a b d e : Cnf) (zero' one some : Literal) (xs ys turned zs bits' rest out : List Literal) → IsGate a a 0 zero' (λ v. false) → IsGate a a 0 one (λ v. true) → turned ≡ turned_up ys one → zs ≡ replicate (length xs) zero' → length xs ≡ length ys
    → IsQuotient a b zero' one xs turned (length xs) bits' rest → IsTest b d (length zs) some (λ v. nat_lt (spelled v zs) (spelled v ys)) → IsSpelled d e (length bits') (length bits') out (λ v. cond (value_of v some) (spelled v bits') (spelled v zs)) → IsDivision a e xs ys out rest
division_whole a b d e zero' one some xs ys turned zs bits' rest out off on turned-is zs-is same q t s =
    let zs-size : length zs ≡ length xs = ap length zs-is ∙ length-replicate (length xs) zero' in
    let first : Grows a d (3 * length xs * length xs + 3 * length xs) = grows_trans a b d ((3 * length xs + 2) * length xs) (length zs) (3 * length xs * length xs + 3 * length xs) q.grows t.grows (rw zs-size (spread (length xs))) in
    let last : Grows b e (length zs + length bits') = grows_trans b d e (length zs) (length bits') (length zs + length bits') t.grows s.grows (omega arith) in
    record {
      grows = grows_trans a d e (3 * length xs * length xs + 3 * length xs) (length bits') (3 * length xs * length xs + 4 * length xs) first s.grows (rw q.q_size (omega arith));
      q_in = s.inside;
      r_in = IsOver-more _ _ rest last.more q.r_in;
      q_size = s.size ∙ q.q_size;
      r_size = q.r_size;
      quotient = λ v m.
          let md : Meets v d = s.grows.kept v m in
          let mb : Meets v b = t.grows.kept v md in
          let ma : Meets v a = q.grows.kept v mb in
          let zs-zero : spelled v zs ≡ 0 = ap (spelled v) zs-is ∙ zeros v (length xs) zero' (off.means v ma) in
          let p = q.means v mb (off.means v ma) (on.means v ma) (spelled v ys) (divisor v ma) (below_width v xs) in
          let test : value_of v some ≡ nat_lt 0 (spelled v ys) = t.means v md ∙ ap (λ (n : ℕ). nat_lt n (spelled v ys)) zs-zero in
          s.means v m ∙ rw (test, zs-zero) (by_test (spelled v xs) (spelled v ys) (spelled v bits') p.1);
      remainder = λ v m.
          let md : Meets v d = s.grows.kept v m in
          let mb : Meets v b = t.grows.kept v md in
          let ma : Meets v a = q.grows.kept v mb in
          (q.means v mb (off.means v ma) (on.means v ma) (spelled v ys) (divisor v ma) (below_width v xs)).0;
    }
  where
    spread : (n : ℕ) → (3 * n + 2) * n + n ≤ 3 * n * n + 3 * n
    spread n = omega arith

    divisor : (v : ℕ → Bool) → Meets v a → spelled v turned + spelled v ys + 1 ≡ 2 ^ (length xs + 1)
    divisor v ma = ap (λ (ls : List Literal). spelled v ls + spelled v ys + 1) turned-is ∙ turned_up_spelled v ys one (on.means v ma) ∙ ap (λ (k : ℕ). 2 ^ (k + 1)) (sym same)
