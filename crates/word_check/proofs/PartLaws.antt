-- What a factor times each kind of node comes to.
use Rattle.std.proofs.Common.{◌≡◌, ℕ, zero, suc, ◌+◌, ◌-◌, ◌*◌, ◌/◌, ◌%◌, ◌^◌, ◌<◌, ◌≤◌, List, refl, sym, ◌∙◌, ap, subst, arith, Some, inl, inr, true, false}
use Rattle.std.specs.Prelude.{slice_get, slice_index, nat_lt, bit_and}
use Rattle.std.specs.Int.Bits.{xor_add_and}
use Rattle.std.proofs.Math.Nat.{div-one, mod-eq_of_lt, mod-mod}
use Rattle.std.proofs.lemmas.Nat.{pow_pos, pow-add, and_mask}
use Rattle.std.proofs.lemmas.Bool.{cases_lt}
use Rattle.std.proofs.lemmas.Bool.Decides.{nat_tests}
use Rattle.std.proofs.lemmas.Option.{get_or_from_slice_get}
use Rattle.bv_words.specs.Words.{plus, times, neg, bit_not, slice, cat, shl, chop}
use Rattle.bv_words.proofs.CodeLemmas.{neg_nat}
use Rattle.dag.specs.declared.node.NodeId.{NodeId}
use Rattle.dag.specs.declared.node.Node.{Node}
use Rattle.dag.specs.declared.node.Node.TheVariants.{Const, Not, Neg, Plus, Times, Shl, Slice, Cat}
use Rattle.word_check.specs.Sums.{IsSame, Wraps, AreParts, IsMultiple}
use Rattle.word_check.specs.declared.sums.Parts.{Parts}
use Rattle.word_check.specs.declared.sums.Term.{Term}
use Rattle.word_check.proofs.Modular.{add_same, same_mul, same_less, wrapped, add_multiple}

-- words

pub shl_same : (w k b : ℕ) → IsSame w (shl w k b) (k * 2 ^ b)
unfolding shl chop
shl_same w k b = elim (cases_lt b w) [
  | inl lt ↦ let t : nat_lt b w ≡ true = grind (arith, nat_tests) in rw t (mod-mod (k * 2 ^ b) (2 ^ w))
  | inr ge ↦
      let t : nat_lt b w ≡ false = grind (arith, nat_tests) in
      let e : b - w + w ≡ b = omega (arith, ge) in
      let p : 2 ^ b ≡ 2 ^ (b - w) * 2 ^ w = subst (λ (j : ℕ). 2 ^ j ≡ 2 ^ (b - w) * 2 ^ w) e (pow-add 2 (b - w) w) in
      let q : k * 2 ^ b ≡ 0 + 2 ^ w * (k * 2 ^ (b - w)) = rw p (omega arith) in
      rw t (sym (ap (λ (n : ℕ). n % 2 ^ w) q ∙ add_multiple (2 ^ w) 0 (k * 2 ^ (b - w))))
]

pub shl_wraps : (w k b : ℕ) → shl w k b ≡ 0 → Wraps w k b
shl_wraps w k b e = sym (shl_same w k b) ∙ ap (λ (n : ℕ). n % 2 ^ w) e ∙ mod-eq_of_lt (pow_pos w)

not_is : (u x : ℕ) → x < 2 ^ u → bit_not u x + x + 1 ≡ 2 ^ u
unfolding bit_not
not_is u x h =
    let low : bit_and x (2 ^ u - 1) ≡ x = and_mask x u ∙ mod-eq_of_lt h in
    omega (arith, xor_add_and x (2 ^ u - 1), low, h)

pub times_same : (w x y : ℕ) → IsSame w (times w x y) (x * y)
unfolding times chop
times_same w x y = mod-mod (x * y) (2 ^ w)

-- minus x, times a factor
pub opposite : (w k x z : ℕ) → (k * (z + x)) % 2 ^ w ≡ 0 → IsSame w (times w k (2 ^ w - 1) * x) (k * z)
opposite w k x z e =
    let m : ℕ = 2 ^ w in
    let p : ((times w k (2 ^ w - 1)) * x + k * x) % m ≡ (k * (2 ^ w - 1) * x + k * x) % m = add_same m (times w k (2 ^ w - 1) * x) (k * (2 ^ w - 1) * x) (k * x) (k * x) (same_mul m x (times w k (2 ^ w - 1)) (k * (2 ^ w - 1)) (times_same w k (2 ^ w - 1))) refl in
    let whole : k * (2 ^ w - 1) * x + k * x ≡ 0 + m * (k * x) = all (2 ^ w) (pow_pos w) in
    let q : (k * (2 ^ w - 1) * x + k * x) % m ≡ 0 % m = ap (λ (n : ℕ). n % m) whole ∙ add_multiple m 0 (k * x) in
    let r : (k * z + k * x) % m ≡ 0 % m = ap (λ (n : ℕ). n % m) (spread k z x) ∙ e ∙ sym (mod-eq_of_lt (pow_pos w)) in
    same_less m (times w k (2 ^ w - 1) * x) (k * z) (k * x) (pow_pos w) (p ∙ q ∙ sym r)
  where
    all : (m : ℕ) → 0 < m → k * (m - 1) * x + k * x ≡ 0 + m * (k * x)
    all zero h = absurd (omega (arith, h))
    all (suc n) h = let e : suc n - 1 ≡ n = omega arith in rw e (omega arith)

    spread : (k z x : ℕ) → k * z + k * x ≡ k * (z + x)
    spread k z x = omega arith

no_more : (a b c : ℕ) → a + (b * c + 0 * c) ≡ a + b * c
no_more a b c = omega arith

-- nodes

pub constant_parts : (nodes : List Node) (ws : List ℕ) (w : ℕ) (t : Term) (p : Parts) (u c : ℕ) → slice_get nodes t.place ≡ Some (Const u c) → p.constant ≡ times w t.factor c → p.left.factor ≡ 0 → p.right.factor ≡ 0 → AreParts nodes ws w t p
constant_parts nodes ws w t p u c at is left right vs h =
    let v : slice_index vs t.place ≡ c = h.each t.place (Const u c) at in
    let e : p.constant + (p.left.factor * slice_index vs p.left.place + p.right.factor * slice_index vs p.right.place) ≡ times w t.factor c = rw (is, left, right) (omega arith) in
    ap (λ (n : ℕ). n % 2 ^ w) e ∙ times_same w t.factor c ∙ ap (λ (n : ℕ). (t.factor * n) % 2 ^ w) (sym v)

-- the width that is read is the one that counts
width_read : (ws : List ℕ) (a u : ℕ) → slice_get ws a ≡ Some u → slice_index ws a ≡ u
width_read ws a u at = get_or_from_slice_get ws a u 0 at

pub plus_parts : (nodes : List Node) (ws : List ℕ) (w : ℕ) (t : Term) (a b : NodeId) (u : ℕ) → slice_get nodes t.place ≡ Some (Plus a b) → slice_get ws a.0 ≡ Some u → Wraps w t.factor u
    → AreParts nodes ws w t (record { constant = 0; left = record { factor = t.factor; place = a.0 }; right = record { factor = t.factor; place = b.0 } })
unfolding plus chop
plus_parts nodes ws w t a b u at wide wraps vs h =
    let x : ℕ = slice_index vs a.0 in
    let y : ℕ = slice_index vs b.0 in
    let v : slice_index vs t.place ≡ (x + y) % 2 ^ u = h.each t.place (Plus a b) at ∙ ap (λ (n : ℕ). (x + y) % 2 ^ n) (width_read ws a.0 u wide) in
    ap (λ (n : ℕ). n % 2 ^ w) (spread t.factor x y) ∙ sym (wrapped (2 ^ w) t.factor (2 ^ u) (x + y) wraps) ∙ ap (λ (n : ℕ). (t.factor * n) % 2 ^ w) (sym v)
  where
    spread : (k x y : ℕ) → 0 + (k * x + k * y) ≡ k * (x + y)
    spread k x y = omega arith

pub neg_parts : (nodes : List Node) (ws : List ℕ) (w : ℕ) (t : Term) (a : NodeId) (p : Parts) (u : ℕ) → slice_get nodes t.place ≡ Some (Neg a) → slice_get ws a.0 ≡ Some u → Wraps w t.factor u
    → p.constant ≡ 0 → p.left ≡ record { factor = times w t.factor (2 ^ w - 1); place = a.0 } → p.right.factor ≡ 0 → AreParts nodes ws w t p
neg_parts nodes ws w t a p u at wide wraps none left right vs h =
    let x : ℕ = slice_index vs a.0 in
    let below : x < 2 ^ u = (h.words a.0 u wide).within in
    let le : x ≤ 2 ^ u = omega (arith, below) in
    let v : slice_index vs t.place ≡ (2 ^ u - x) % 2 ^ u = h.each t.place (Neg a) at ∙ ap (λ (n : ℕ). neg n x) (width_read ws a.0 u wide) ∙ neg_nat u x le in
    let back : 2 ^ u - x + x ≡ 2 ^ u = omega (arith, below) in
    let e : p.constant + (p.left.factor * slice_index vs p.left.place + p.right.factor * slice_index vs p.right.place) ≡ times w t.factor (2 ^ w - 1) * x = rw (none, left, right) (omega arith) in
    ap (λ (n : ℕ). n % 2 ^ w) e
    ∙ opposite w t.factor x (2 ^ u - x) (ap (λ (n : ℕ). (t.factor * n) % 2 ^ w) back ∙ wraps)
    ∙ sym (wrapped (2 ^ w) t.factor (2 ^ u) (2 ^ u - x) wraps)
    ∙ ap (λ (n : ℕ). (t.factor * n) % 2 ^ w) (sym v)

pub not_parts : (nodes : List Node) (ws : List ℕ) (w : ℕ) (t : Term) (a : NodeId) (p : Parts) (u : ℕ) → slice_get nodes t.place ≡ Some (Not a) → slice_get ws a.0 ≡ Some u → Wraps w t.factor u
    → p.constant ≡ times w t.factor (2 ^ w - 1) → p.left ≡ record { factor = times w t.factor (2 ^ w - 1); place = a.0 } → p.right.factor ≡ 0 → AreParts nodes ws w t p
not_parts nodes ws w t a p u at wide wraps less left right vs h =
    let x : ℕ = slice_index vs a.0 in
    let v : slice_index vs t.place ≡ bit_not u x = h.each t.place (Not a) at ∙ ap (λ (n : ℕ). bit_not n x) (width_read ws a.0 u wide) in
    let back : bit_not u x + (x + 1) ≡ 2 ^ u = omega (arith, not_is u x ((h.words a.0 u wide).within)) in
    let o : ℕ = times w t.factor (2 ^ w - 1) in
    let e : p.constant + (p.left.factor * slice_index vs p.left.place + p.right.factor * slice_index vs p.right.place) ≡ o * (x + 1) = rw (less, left, right) (together o x) in
    ap (λ (n : ℕ). n % 2 ^ w) e
    ∙ opposite w t.factor (x + 1) (bit_not u x) (ap (λ (n : ℕ). (t.factor * n) % 2 ^ w) back ∙ wraps)
    ∙ ap (λ (n : ℕ). (t.factor * n) % 2 ^ w) (sym v)
  where
    together : (o x : ℕ) → o + (o * x + 0 * slice_index vs p.right.place) ≡ o * (x + 1)
    together o x = omega arith

-- one term alone, of a factor that a node's value is multiplied by
alone : (w : ℕ) (p : Parts) (vs : List ℕ) → p.constant ≡ 0 → p.right.factor ≡ 0 → p.constant + (p.left.factor * slice_index vs p.left.place + p.right.factor * slice_index vs p.right.place) ≡ p.left.factor * slice_index vs p.left.place
alone w p vs none right = rw (none, right) (omega arith)

pub slice_parts : (nodes : List Node) (ws : List ℕ) (w : ℕ) (t : Term) (a : NodeId) (high low : ℕ) (p : Parts) → slice_get nodes t.place ≡ Some (Slice high low a) → low ≡ 0 → Wraps w t.factor (high + 1)
    → p.constant ≡ 0 → p.left ≡ record { factor = t.factor; place = a.0 } → p.right.factor ≡ 0 → AreParts nodes ws w t p
unfolding slice chop
slice_parts nodes ws w t a high low p at is wraps none left right vs h =
    let x : ℕ = slice_index vs a.0 in
    let same : high - 0 + 1 ≡ high + 1 = omega arith in
    let v : slice_index vs t.place ≡ x % 2 ^ (high + 1) = h.each t.place (Slice high low a) at ∙ ap (λ (n : ℕ). (x / 2 ^ n) % 2 ^ (high - n + 1)) is ∙ rw same (ap (λ (n : ℕ). n % 2 ^ (high + 1)) (div-one x)) in
    ap (λ (n : ℕ). n % 2 ^ w) (alone w p vs none right ∙ ap (λ (s : Term). s.factor * slice_index vs s.place) left) ∙ sym (wrapped (2 ^ w) t.factor (2 ^ (high + 1)) x wraps) ∙ ap (λ (n : ℕ). (t.factor * n) % 2 ^ w) (sym v)

pub cat_parts : (nodes : List Node) (ws : List ℕ) (w : ℕ) (t : Term) (a b : NodeId) (u k : ℕ) → slice_get nodes t.place ≡ Some (Cat a b) → slice_get ws b.0 ≡ Some u → k ≡ shl w t.factor u
    → AreParts nodes ws w t (record { constant = 0; left = record { factor = k; place = a.0 }; right = record { factor = t.factor; place = b.0 } })
unfolding cat
cat_parts nodes ws w t a b u k at wide is vs h =
    let x : ℕ = slice_index vs a.0 in
    let y : ℕ = slice_index vs b.0 in
    let v : slice_index vs t.place ≡ x * 2 ^ u + y = h.each t.place (Cat a b) at ∙ ap (λ (n : ℕ). x * 2 ^ n + y) (width_read ws b.0 u wide) in
    let up : (k * x) % 2 ^ w ≡ (t.factor * 2 ^ u * x) % 2 ^ w = same_mul (2 ^ w) x k (t.factor * 2 ^ u) (ap (λ (n : ℕ). n % 2 ^ w) is ∙ shl_same w t.factor u) in
    ap (λ (n : ℕ). n % 2 ^ w) (start (k * x) (t.factor * y)) ∙ add_same (2 ^ w) (k * x) (t.factor * 2 ^ u * x) (t.factor * y) (t.factor * y) up refl ∙ ap (λ (n : ℕ). n % 2 ^ w) (spread t.factor (2 ^ u) x y) ∙ ap (λ (n : ℕ). (t.factor * n) % 2 ^ w) (sym v)
  where
    start : (x y : ℕ) → 0 + (x + y) ≡ x + y
    start x y = omega arith

    spread : (k u x y : ℕ) → k * u * x + k * y ≡ k * (x * u + y)
    spread k u x y = omega arith

-- a product with a constant
pub times_parts : (nodes : List Node) (ws : List ℕ) (w : ℕ) (t : Term) (a b : NodeId) (u : ℕ) (p : Parts) → slice_get nodes t.place ≡ Some (Times a b) → slice_get ws a.0 ≡ Some u → Wraps w t.factor u → IsMultiple nodes w t.factor a.0 b.0 p.left
    → p.constant ≡ 0 → p.right.factor ≡ 0 → AreParts nodes ws w t p
unfolding times chop
times_parts nodes ws w t a b u p at wide wraps (uc, c, here, place, same) none right vs h =
    let x : ℕ = slice_index vs a.0 in
    let y : slice_index vs b.0 ≡ c = h.each b.0 (Const uc c) here in
    let v : slice_index vs t.place ≡ (x * c) % 2 ^ u = h.each t.place (Times a b) at ∙ ap (λ (n : ℕ). (x * slice_index vs b.0) % 2 ^ n) (width_read ws a.0 u wide) ∙ ap (λ (n : ℕ). (x * n) % 2 ^ u) y in
    ap (λ (n : ℕ). n % 2 ^ w) (alone w p vs none right ∙ ap (λ (n : ℕ). p.left.factor * slice_index vs n) place) ∙ same_mul (2 ^ w) x p.left.factor (t.factor * c) same ∙ ap (λ (n : ℕ). n % 2 ^ w) (turn t.factor c x) ∙ sym (wrapped (2 ^ w) t.factor (2 ^ u) (x * c) wraps) ∙ ap (λ (n : ℕ). (t.factor * n) % 2 ^ w) (sym v)
  where
    turn : (k c x : ℕ) → k * c * x ≡ k * (x * c)
    turn k c x = omega arith

pub product_parts : (nodes : List Node) (ws : List ℕ) (w : ℕ) (t : Term) (a b : NodeId) (u : ℕ) (p : Parts) → slice_get nodes t.place ≡ Some (Times a b) → slice_get ws a.0 ≡ Some u → Wraps w t.factor u → IsMultiple nodes w t.factor b.0 a.0 p.left
    → p.constant ≡ 0 → p.right.factor ≡ 0 → AreParts nodes ws w t p
unfolding times chop
product_parts nodes ws w t a b u p at wide wraps (uc, c, here, place, same) none right vs h =
    let y : ℕ = slice_index vs b.0 in
    let x : slice_index vs a.0 ≡ c = h.each a.0 (Const uc c) here in
    let v : slice_index vs t.place ≡ (c * y) % 2 ^ u = h.each t.place (Times a b) at ∙ ap (λ (n : ℕ). (slice_index vs a.0 * y) % 2 ^ n) (width_read ws a.0 u wide) ∙ ap (λ (n : ℕ). (n * y) % 2 ^ u) x in
    ap (λ (n : ℕ). n % 2 ^ w) (alone w p vs none right ∙ ap (λ (n : ℕ). p.left.factor * slice_index vs n) place) ∙ same_mul (2 ^ w) y p.left.factor (t.factor * c) same ∙ ap (λ (n : ℕ). n % 2 ^ w) (turn t.factor c y) ∙ sym (wrapped (2 ^ w) t.factor (2 ^ u) (c * y) wraps) ∙ ap (λ (n : ℕ). (t.factor * n) % 2 ^ w) (sym v)
  where
    turn : (k c y : ℕ) → k * c * y ≡ k * (c * y)
    turn k c y = omega arith

-- a node moved up by a constant
pub shl_parts : (nodes : List Node) (ws : List ℕ) (w : ℕ) (t : Term) (a b : NodeId) (u uc c k : ℕ) (p : Parts) → slice_get nodes t.place ≡ Some (Shl a b) → slice_get ws a.0 ≡ Some u → Wraps w t.factor u → slice_get nodes b.0 ≡ Some (Const uc c) → k ≡ shl w t.factor c
    → p.constant ≡ 0 → p.left ≡ record { factor = k; place = a.0 } → p.right.factor ≡ 0 → AreParts nodes ws w t p
shl_parts nodes ws w t a b u uc c k p at wide wraps here is none left right vs h =
    let x : ℕ = slice_index vs a.0 in
    let y : slice_index vs b.0 ≡ c = h.each b.0 (Const uc c) here in
    let v : slice_index vs t.place ≡ shl u x c = h.each t.place (Shl a b) at ∙ ap (λ (n : ℕ). shl n x (slice_index vs b.0)) (width_read ws a.0 u wide) ∙ ap (shl u x) y in
    let up : (k * x) % 2 ^ w ≡ (t.factor * 2 ^ c * x) % 2 ^ w = same_mul (2 ^ w) x k (t.factor * 2 ^ c) (ap (λ (n : ℕ). n % 2 ^ w) is ∙ shl_same w t.factor c) in
    ap (λ (n : ℕ). n % 2 ^ w) (alone w p vs none right ∙ ap (λ (s : Term). s.factor * slice_index vs s.place) left)
    ∙ up
    ∙ ap (λ (n : ℕ). n % 2 ^ w) (turn t.factor (2 ^ c) x)
    ∙ sym (wrapped (2 ^ w) t.factor (2 ^ u) (x * 2 ^ c) wraps)
    ∙ ap (λ (n : ℕ). (t.factor * n) % 2 ^ w) (sym (shl_same u x c))
    ∙ wrapped (2 ^ w) t.factor (2 ^ u) (shl u x c) wraps
    ∙ ap (λ (n : ℕ). (t.factor * n) % 2 ^ w) (sym v)
  where
    turn : (k c x : ℕ) → k * c * x ≡ k * (x * c)
    turn k c x = omega arith
