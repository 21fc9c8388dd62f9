-- Shifts and rotations by an amount that isn't known: from shifts whose amount isn't masked.
use Rattle.std.proofs.Common.{◌≡◌, ℕ, zero, suc, ◌+◌, ◌-◌, ◌*◌, ◌/◌, ◌%◌, ◌^◌, ◌<◌, ◌≤◌, true, cond, nat_lt, refl, sym, ◌∙◌, ap, subst, arith, rules, inl, inr}
use Rattle.std.specs.Prelude.{bit_and, bit_or, bit_xor}
use Rattle.std.specs.Int.Bits.{or_zero_l, xor_zero_l, xor_add_and, or_add_and}
use Rattle.std.proofs.lemmas.Bool.{cases_lt}
use Rattle.std.proofs.lemmas.Nat.{pow_pos, pow-add, le-div, or_comm, or_shifted, xor_comm, and_mask, shr_below, xor_shr}
use Rattle.std.proofs.lemmas.Nat.Bits.{ones_shr}
use Rattle.std.proofs.Math.Nat.{mod-lt, mod-eq_of_lt, mod_self, mod-zero, add-mod_right, div-eq_of_lt, div-eq_of_lt-le, mul-one, pow-le-pow_right}
use Rattle.bv_words.specs.Words.{chop, slice, sx, slt, bit_not, shl, shr, rotate_left, rotate_right, neg, plus}
use Rattle.bv_words.proofs.CodeLemmas.{chop_same, shl_out, shr_out, shr_in, shifted_mod, sx_low, sx_high, twice, neg_nat}
use Rattle.bv_words.proofs.WordLaws.{shl_zero, shr_zero, shr_past, xor_ones}
use Rattle.bv_words.proofs.DivisionLaws.{slt_zero_low, slt_zero_high}

-- a word moved up by one amount, beside the same word moved down by another
abbrev pub moved_both : ℕ → ℕ → ℕ → ℕ → ℕ
moved_both w x up down = bit_or (shl w x up) (shr w x down)

shl_within : (w x a : ℕ) → a < w → shl w x a ≡ chop w (x * 2 ^ a)
unfolding shl
shl_within w x a h = let t : nat_lt a w ≡ true = search rules in rw t refl

turned_some : (w x k : ℕ) → 0 < k → k < w → x < 2 ^ w → moved_both w x k (w - k) ≡ chop w (x * 2 ^ k) + x / 2 ^ (w - k)
unfolding chop
turned_some w x k some lt below =
    let rest : w - k < w = omega arith in
    let whole : w - k + k ≡ w = omega arith in
    let turned : w ≡ k + (w - k) = omega arith in
    let high : (x * 2 ^ k) % 2 ^ w ≡ (x % 2 ^ (w - k)) * 2 ^ k = subst (λ (j : ℕ). (x * 2 ^ k) % 2 ^ j ≡ (x % 2 ^ (w - k)) * 2 ^ k) whole (shifted_mod x (w - k) k) in
    let low : x / 2 ^ (w - k) < 2 ^ k = shr_below x k (w - k) (subst (λ (j : ℕ). x < 2 ^ j) turned below) in
    rw (shl_within w x k lt, ← shr_in w x (w - k) rest, high) (or_shifted (x % 2 ^ (w - k)) k (x / 2 ^ (w - k)) low)

-- A rotation is a shift up by the masked amount beside a shift down by what is left of the width: where nothing is
-- turned, the second is by the whole width and gives 0.
left_by : (w m x : ℕ) → 1 ≤ w → m < w → x < 2 ^ w → moved_both w x m (w - m) ≡ chop w (x * 2 ^ m) + x / 2 ^ (w - m)
unfolding chop
left_by w zero x one lt below =
    let e : w - 0 ≡ w = omega arith in
    let o : w ≤ w = omega arith in
    let s : (x * 2 ^ 0) % 2 ^ w ≡ x = rw mul-one (mod-eq_of_lt below) in
    let d : x / 2 ^ w ≡ 0 = div-eq_of_lt below in
    rw (e, shl_zero w x one below, ← shr_out w x w o, s, d) (or_comm x 0 ∙ or_zero_l x ∙ omega arith)
left_by w (suc m) x one lt below = turned_some w x (suc m) (omega arith) lt below

pub rotate_left_by_shifts : (w a x : ℕ) → 1 ≤ w → x < 2 ^ w → rotate_left w a x ≡ moved_both w x (a % w) (w - a % w)
unfolding rotate_left
rotate_left_by_shifts w a x one below = sym (left_by w (a % w) x one (mod-lt a one) below)

right_by : (w m x : ℕ) → 1 ≤ w → m < w → x < 2 ^ w → moved_both w x (w - m) m ≡ chop w (x * 2 ^ ((w - m) % w)) + x / 2 ^ (w - (w - m) % w)
unfolding chop
right_by w zero x one lt below =
    let e : w - 0 ≡ w = omega arith in
    let z : w % w ≡ 0 = mod_self w in
    let o : w ≤ w = omega arith in
    let s : (x * 2 ^ 0) % 2 ^ w ≡ x = rw mul-one (mod-eq_of_lt below) in
    let d : x / 2 ^ w ≡ 0 = div-eq_of_lt below in
    rw (e, z, e, ← shl_out w x w o, shr_zero w x one below, s, d) (or_zero_l x ∙ omega arith)
right_by w (suc m) x one lt below =
    let some : 0 < w - suc m = omega arith in
    let less : w - suc m < w = omega arith in
    let k : (w - suc m) % w ≡ w - suc m = mod-eq_of_lt less in
    let r : w - (w - suc m) ≡ suc m = omega arith in
    ap (λ (n : ℕ). moved_both w x (w - suc m) n) (sym r) ∙ turned_some w x (w - suc m) some less below ∙ ap (λ (n : ℕ). (x * 2 ^ n) % 2 ^ w + x / 2 ^ (w - n)) (sym k)

pub rotate_right_by_shifts : (w a x : ℕ) → 1 ≤ w → x < 2 ^ w → rotate_right w a x ≡ moved_both w x (w - a % w) (a % w)
unfolding rotate_right rotate_left
rotate_right_by_shifts w a x one below = sym (right_by w (a % w) x one (mod-lt a one) below)

-- a rotation by what is left of the width is one the other way, as Java's rotateRight is defined
pub rotate_left_by_rest : (w a x : ℕ) → rotate_left w (w - a % w) x ≡ rotate_right w a x
unfolding rotate_right
rotate_left_by_rest w a x = refl

-- an amount that is masked first is the same amount
pub rotate_left_masked : (w a x : ℕ) → rotate_left w (a % w) x ≡ rotate_left w a x
unfolding rotate_left
rotate_left_masked w a x = let e : a % w % w ≡ a % w = again a w in rw e refl
  where
    again : (n m : ℕ) → n % m % m ≡ n % m
    again n zero = mod-zero (n % 0)
    again n (suc m) = mod-eq_of_lt (mod-lt n (omega arith))

-- what is left of a width behind an amount, as a difference of words that hold the width
pub rest_by_neg : (v w m : ℕ) → w < 2 ^ v → m ≤ w → plus v w (neg v m) ≡ w - m
unfolding plus chop
rest_by_neg v w m fits le =
    let below : m ≤ 2 ^ v = omega arith in
    rw (neg_nat v m below) (rest_of (2 ^ v) w m fits le)
  where
    rest_of : (n w m : ℕ) → w < n → m ≤ w → (w + (n - m) % n) % n ≡ w - m
    rest_of n w zero fits le =
        let e : n - 0 ≡ n = omega arith in
        let z : n % n ≡ 0 = mod_self n in
        let s : w + 0 ≡ w - 0 = omega arith in
        let f : w - 0 < n = omega arith in
        rw (e, z, s) (mod-eq_of_lt f)
    rest_of n w (suc m) fits le =
        let f : n - suc m < n = omega arith in
        let s : w + (n - suc m) ≡ w - suc m + n = omega arith in
        let g : w - suc m < n = omega arith in
        rw (mod-eq_of_lt f, s) (add-mod_right (w - suc m) n ∙ mod-eq_of_lt g)

-- ---- the shift that keeps the sign

-- the bits of a word from the amount up, with its sign above
abbrev pub shifted_signed : ℕ → ℕ → ℕ → ℕ
shifted_signed w x a = sx w (w - a) (slice (w - 1) a x)

-- the word whose bits are all the sign of x
abbrev pub sign_word : ℕ → ℕ → ℕ
sign_word w x = sx w 1 (slice (w - 1) (w - 1) x)

-- the width of those bits, as the Java machine's definition has it
pub rest_is : (w a : ℕ) → a < w → w - 1 - a + 1 ≡ w - a
rest_is w a h = omega arith

pub not_is : (w x : ℕ) → x < 2 ^ w → bit_not w x ≡ 2 ^ w - 1 - x
unfolding bit_not
not_is w x h =
    let common : bit_and x (2 ^ w - 1) ≡ x = and_mask x w ∙ mod-eq_of_lt h in
    omega (arith, xor_add_and x (2 ^ w - 1), or_add_and x (2 ^ w - 1))

upper_bits : (w x a : ℕ) → a < w → x < 2 ^ w → slice (w - 1) a x ≡ x / 2 ^ a
unfolding slice
upper_bits w x a h p =
    let whole : w ≡ w - a + a = omega arith in
    let small : x / 2 ^ a < 2 ^ (w - a) = shr_below x (w - a) a (subst (λ (j : ℕ). x < 2 ^ j) whole p) in
    rw (rest_is w a h) (chop_same (w - a) (x / 2 ^ a) small)

signed_low_shift : (w x a : ℕ) → a < w → x < 2 ^ (w - 1) → x < 2 ^ w → shifted_signed w x a ≡ shr w x a
signed_low_shift w x a h lt p =
    let one : 1 ≤ w - a = omega arith in
    let order : w - a ≤ w = omega arith in
    let whole : w - 1 ≡ w - a - 1 + a = omega arith in
    let small : x / 2 ^ a < 2 ^ (w - a - 1) = shr_below x (w - a - 1) a (subst (λ (j : ℕ). x < 2 ^ j) whole lt) in
    ap (sx w (w - a)) (upper_bits w x a h p) ∙ sym (sx_low w (w - a) (x / 2 ^ a) one order small) ∙ shr_in w x a h

apart : (w x a : ℕ) → a ≤ w → bit_not w x / 2 ^ a ≡ bit_not (w - a) (x / 2 ^ a)
unfolding bit_not
apart w x a le = xor_shr x (2 ^ w - 1) a ∙ ap (bit_xor (x / 2 ^ a)) (ones_shr w a le)

turned_down : (w x a : ℕ) → a < w → x < 2 ^ w → shr w (bit_not w x) a ≡ 2 ^ (w - a) - 1 - x / 2 ^ a
turned_down w x a h p =
    let le : a ≤ w = omega arith in
    let whole : w ≡ w - a + a = omega arith in
    let small : x / 2 ^ a < 2 ^ (w - a) = shr_below x (w - a) a (subst (λ (j : ℕ). x < 2 ^ j) whole p) in
    sym (shr_in w (bit_not w x) a h) ∙ apart w x a le ∙ not_is (w - a) (x / 2 ^ a) small

signed_high_shift : (w x a : ℕ) → a < w → 2 ^ (w - 1) ≤ x → x < 2 ^ w → shifted_signed w x a ≡ bit_not w (shr w (bit_not w x) a)
signed_high_shift w x a h ge p =
    let one : 1 ≤ w - a = omega arith in
    let order : w - a ≤ w = omega arith in
    let half : 2 ^ (w - 1) ≡ 2 ^ (w - a - 1) * 2 ^ a = (let e : w - 1 ≡ w - a - 1 + a = omega arith in ap (λ (j : ℕ). 2 ^ j) e ∙ pow-add 2 (w - a - 1) a) in
    let above : 2 ^ (w - a - 1) ≤ x / 2 ^ a = le-div (2 ^ (w - a - 1)) x (2 ^ a) (pow_pos a) (omega arith) in
    let whole : w ≡ w - a + a = omega arith in
    let small : x / 2 ^ a < 2 ^ (w - a) = shr_below x (w - a) a (subst (λ (j : ℕ). x < 2 ^ j) whole p) in
    let two : 0 < 2 = omega arith in
    let wide : 2 ^ (w - a) ≤ 2 ^ w = pow-le-pow_right two order in
    let fits : 2 ^ (w - a) - 1 - x / 2 ^ a < 2 ^ w = omega arith in
    ap (sx w (w - a)) (upper_bits w x a h p) ∙ sym (sx_high w (w - a) (x / 2 ^ a) one order small above)
    ∙ sym (ap (bit_not w) (turned_down w x a h p) ∙ not_is w (2 ^ (w - a) - 1 - x / 2 ^ a) fits ∙ omega arith)

-- the shift that keeps the sign: of a word below 0, all is turned before and after
pub signed_shift_by_turns : (w x a : ℕ) → a < w → x < 2 ^ w → shifted_signed w x a ≡ cond (slt w x 0) (bit_not w (shr w (bit_not w x) a)) (shr w x a)
signed_shift_by_turns w x a h p = elim (cases_lt x (2 ^ (w - 1))) [
  | inl lt ↦ rw (slt_zero_low w x lt) (signed_low_shift w x a h lt p)
  | inr ge ↦ rw (slt_zero_high w x ge p) (signed_high_shift w x a h ge p)
]

low_top : (w x : ℕ) → x < 2 ^ (w - 1) → slice (w - 1) (w - 1) x ≡ 0
unfolding slice chop
low_top w x lt =
    let e : w - 1 - (w - 1) + 1 ≡ 1 = omega arith in
    let q : x / 2 ^ (w - 1) ≡ 0 = div-eq_of_lt lt in
    rw (e, q) refl

high_top : (w x : ℕ) → 2 ^ (w - 1) ≤ x → x < 2 ^ w → 2 ^ w ≡ 2 * 2 ^ (w - 1) → slice (w - 1) (w - 1) x ≡ 1
unfolding slice chop
high_top w x ge p d =
    let e : w - 1 - (w - 1) + 1 ≡ 1 = omega arith in
    let q : x / 2 ^ (w - 1) ≡ 1 = div-eq_of_lt-le (2 ^ (w - 1)) (omega arith) (omega arith) in
    rw (e, q) refl

none_set : (w x : ℕ) → 1 ≤ w → x < 2 ^ (w - 1) → sign_word w x ≡ 0
none_set w x one lt =
    let o : 1 ≤ 1 = omega arith in
    let z : 0 < 2 ^ (1 - 1) = omega arith in
    ap (sx w 1) (low_top w x lt) ∙ sym (sx_low w 1 0 o one z)

all_set : (w x : ℕ) → 1 ≤ w → 2 ^ (w - 1) ≤ x → x < 2 ^ w → sign_word w x ≡ 2 ^ w - 1
all_set w x one ge p =
    let some : 0 < 2 ^ w = pow_pos w in
    let o : 1 ≤ 1 = omega arith in
    let z : 2 ^ (1 - 1) ≤ 1 = omega arith in
    let b : 1 < 2 ^ 1 = omega arith in
    let two : 0 < 2 = omega arith in
    let wide : 2 ^ 1 ≤ 2 ^ w = pow-le-pow_right two one in
    ap (sx w 1) (high_top w x ge p (twice w one)) ∙ sym (sx_high w 1 1 o one b z) ∙ omega arith

pub sign_word_is : (w x : ℕ) → 1 ≤ w → x < 2 ^ w → sign_word w x ≡ cond (slt w x 0) (2 ^ w - 1) 0
sign_word_is w x one p = elim (cases_lt x (2 ^ (w - 1))) [
  | inl lt ↦ rw (slt_zero_low w x lt) (none_set w x one lt)
  | inr ge ↦ rw (slt_zero_high w x ge p) (all_set w x one ge p)
]

-- the same without a choice: each bit that is the sign is turned before and after
pub signed_shift_by_sign : (w x a : ℕ) → a < w → x < 2 ^ w → shifted_signed w x a ≡ bit_xor (shr w (bit_xor x (sign_word w x)) a) (sign_word w x)
signed_shift_by_sign w x a h p = let one : 1 ≤ w = omega arith in elim (cases_lt x (2 ^ (w - 1))) [
  | inl lt ↦ rw (none_set w x one lt) (signed_low_shift w x a h lt p ∙ sym (xor_comm (shr w (bit_xor x 0) a) 0 ∙ xor_zero_l (shr w (bit_xor x 0) a) ∙ ap (λ (n : ℕ). shr w n a) (xor_comm x 0 ∙ xor_zero_l x)))
  | inr ge ↦ rw (all_set w x one ge p) (signed_high_shift w x a h ge p ∙ xor_ones w (shr w (bit_not w x) a) ∙ ap (λ (n : ℕ). bit_xor (shr w n a) (2 ^ w - 1)) (xor_ones w x))
]

-- from the width on nothing but the sign is left, as where whole numbers are shifted
pub signed_shift_past : (w x a : ℕ) → w ≤ a → bit_xor (shr w (bit_xor x (sign_word w x)) a) (sign_word w x) ≡ sign_word w x
signed_shift_past w x a h = ap (λ (n : ℕ). bit_xor n (sign_word w x)) (shr_past w (bit_xor x (sign_word w x)) a h) ∙ xor_zero_l (sign_word w x)
