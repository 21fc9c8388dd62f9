-- A node that fits over words of 1 to 64 bits is itself one: its width is from 1 to 64, and its value fits the width.
use Rattle.std.proofs.Common.{◌≡◌, ℕ, ◌+◌, ◌<◌, ◌≤◌, ◌^◌, Bool, true, false, List, length, refl, sym, subst, arith, Option, Some, None}
use Rattle.std.specs.Prelude.{IfSome, slice_get, slice_index, nat_eq, cond}
use Rattle.std.proofs.lemmas.Option.{get_or_from_slice_get, slice_get_within}
use Rattle.std.proofs.lemmas.Nat.{or_lt, xor_lt}
use Rattle.axe_io.specs.Inputs.{IsInput}
use Rattle.axe_io.proofs.Counting.{IsInput-below, IsInput-length}
use Rattle.bv_words.specs.Words.{slice, cat, sx, one_if}
use Rattle.bv_words.proofs.Bounds.{plus_below, times_below, slice_below, and_below, not_below, neg_below, cat_below, sx_below, shl_below, shr_below}
use Rattle.bv_words.proofs.DivisionLaws.{udiv_below, urem_below}
use Rattle.dag.specs.declared.node.Form.{Form}
use Rattle.dag.specs.declared.node.Form.TheVariants.{Input, Constant, Unary, Binary, Test, Choice, Cut, Joined, Widened, Shifted}
use Rattle.dag.specs.declared.node.Node.{Node}
use Rattle.dag.specs.declared.node.Node.TheVariants.{Leaf, Const, Not, And, Or, Xor, Neg, Plus, Times, Eq, Ult, Slt, Ite, Slice, Cat, Sext, Shl, Shr, Udiv, Urem}
use Rattle.dag.specs.Node.{form, width_by, same_width, node_width, node_value, first, second, third, IsWord, InWords}
use Rattle.dag.proofs.Inverting.{leaf_of, constant_of, same_of, test_of, choice_of, HasCut, cut_of, HasParts, joined_of, HasNarrower, widened_of, shifted_of}

-- a width, where there is one, is from 1 to 64
abbrev pub Wide : Option ℕ → Type 0
Wide None = Unit {0}
Wide (Some w) = (1 ≤ w) × (w ≤ 64)

wide_from : (o : Option ℕ) → ((w : ℕ) → o ≡ Some w → (1 ≤ w) × (w ≤ 64)) → Wide o
wide_from (Some w) h = h w refl
wide_from None h = tt

wide_at : (o : Option ℕ) (w : ℕ) → o ≡ Some w → Wide o → (1 ≤ w) × (w ≤ 64)
wide_at o w e h = subst (λ (o : Option ℕ). Wide o) e h

abbrev IsWide : ℕ → Type 0
IsWide w = (1 ≤ w) × (w ≤ 64)

cut_wide : (h l w : ℕ) (x : Option ℕ) → Wide x → HasCut h l x w → (1 ≤ w) × (w ≤ 64)
cut_wide h l w x p c =
    let q = wide_at x c.whole c.found p in
    (omega (arith, c.width), omega (arith, c.width, c.within, q.1))

joined_wide : (w : ℕ) (x y : Option ℕ) → Wide x → HasParts x y w → (1 ≤ w) × (w ≤ 64)
joined_wide w x y p c =
    let q = wide_at x c.high c.high_found p in
    (omega (arith, c.width, q.0), omega (arith, c.width, c.narrow))

widened_wide : (n w : ℕ) (x : Option ℕ) → Wide x → HasNarrower n x w → (1 ≤ w) × (w ≤ 64)
widened_wide n w x p c =
    let q = wide_at x c.old c.found p in
    (omega (arith, c.width, c.order, q.0), omega (arith, c.width, c.high))

by_wide : (ls : List ℕ) (f : Form) (x y z : Option ℕ) (w : ℕ) → Wide x → Wide y → Wide z → width_by ls f x y z ≡ Some w → (1 ≤ w) × (w ≤ 64)
by_wide ls (Input u i) x y z w p q r e = let h = leaf_of (slice_get ls i) u w e in (h.low, h.high)
by_wide ls (Constant u v) x y z w p q r e = let h = constant_of u v w e in (h.low, h.high)
by_wide ls Unary x y z w p q r e = wide_at x w e p
by_wide ls Binary x y z w p q r e = wide_at x w (same_of x y w e).0 p
by_wide ls Test x y z w p q r e = let one : w ≡ 1 = test_of (same_width x y) w e in (omega arith, omega arith)
by_wide ls Choice x y z w p q r e = wide_at y w (same_of y z w (choice_of x (same_width y z) w e).1).0 q
by_wide ls (Cut h l) x y z w p q r e = cut_wide h l w x p (cut_of h l x w e)
by_wide ls Joined x y z w p q r e = joined_wide w x y p (joined_of x y w e)
by_wide ls (Widened n) x y z w p q r e = widened_wide n w x p (widened_of n x w e)
by_wide ls Shifted x y z w p q r e = wide_at x w (shifted_of x y w e) p

abbrev pub AllWide : List ℕ → Type 0
AllWide ws = (k w : ℕ) → slice_get ws k ≡ Some w → (1 ≤ w) × (w ≤ 64)

pub node_wide : (ls ws : List ℕ) (n : Node) (w : ℕ) → AllWide ws → node_width ls ws n ≡ Some w → (1 ≤ w) × (w ≤ 64)
node_wide ls ws n w h e = by_wide ls (form n) _ _ _ w (wide_from (slice_get ws (first n)) (h (first n))) (wide_from (slice_get ws (second n)) (h (second n))) (wide_from (slice_get ws (third n)) (h (third n))) e

leaf_below : (ls input : List ℕ) (i w : ℕ) → IsInput ls input → slice_get ls i ≡ Some w → slice_index input i < 2 ^ w
leaf_below ls input i w h e =
    let lt : i < length input = omega (arith, slice_get_within ls i w e, IsInput-length ls input h) in
    subst (λ (u : ℕ). slice_index input i < 2 ^ u) (get_or_from_slice_get ls i w 0 e) (IsInput-below ls input i h lt)

bit_below : (b : Bool) (w : ℕ) → w ≡ 1 → one_if b < 2 ^ w
bit_below true w e = rw e (omega arith)
bit_below false w e = rw e (omega arith)

chosen_below : (b : Bool) (y z w : ℕ) → y < 2 ^ w → z < 2 ^ w → cond b y z < 2 ^ w
chosen_below true y z w p q = p
chosen_below false y z w p q = q

cat_at : (ws vs : List ℕ) (a b u v w : ℕ) → slice_index ws a ≡ u → slice_index ws b ≡ v → u + v ≡ w → slice_index vs a < 2 ^ u → slice_index vs b < 2 ^ v → cat (slice_index ws a) (slice_index vs a) (slice_index ws b) (slice_index vs b) < 2 ^ w
cat_at ws vs a b u v w i j k p q = rw (i, j, ← k) (cat_below u (slice_index vs a) v (slice_index vs b) p q)

sx_at : (ws vs : List ℕ) (a n u w : ℕ) → slice_index ws a ≡ u → n ≡ w → u ≤ n → IsWord u (slice_index vs a) → sx n (slice_index ws a) (slice_index vs a) < 2 ^ w
sx_at ws vs a n u w i j k f = rw (i, ← j) (sx_below n u (slice_index vs a) f.low k f.within)

pub node_below : (ls input ws vs : List ℕ) (n : Node) (w : ℕ) → InWords ws vs → IsInput ls input → node_width ls ws n ≡ Some w → node_value input ws vs n < 2 ^ w
node_below ls input ws vs (Leaf u i) w h k e = leaf_below ls input i w k (leaf_of (slice_get ls i) u w e).found
node_below ls input ws vs (Const u v) w h k e = (constant_of u v w e).within
node_below ls input ws vs (Not a) w h k e = let i : slice_index ws a.0 ≡ w = get_or_from_slice_get ws a.0 w 0 e in rw i (not_below w (slice_index vs a.0) ((h a.0 w e).within))
node_below ls input ws vs (Neg a) w h k e = let i : slice_index ws a.0 ≡ w = get_or_from_slice_get ws a.0 w 0 e in rw i (neg_below w (slice_index vs a.0) ((h a.0 w e).within))
node_below ls input ws vs (And a b) w h k e = let p = same_of (slice_get ws a.0) (slice_get ws b.0) w e in and_below w _ _ ((h a.0 w p.0).within)
node_below ls input ws vs (Or a b) w h k e = let p = same_of (slice_get ws a.0) (slice_get ws b.0) w e in or_lt w _ _ ((h a.0 w p.0).within) ((h b.0 w p.1).within)
node_below ls input ws vs (Xor a b) w h k e = let p = same_of (slice_get ws a.0) (slice_get ws b.0) w e in xor_lt w _ _ ((h a.0 w p.0).within) ((h b.0 w p.1).within)
node_below ls input ws vs (Plus a b) w h k e = let p : slice_get ws a.0 ≡ Some w = (same_of (slice_get ws a.0) (slice_get ws b.0) w e).0 in let i : slice_index ws a.0 ≡ w = get_or_from_slice_get ws a.0 w 0 p in rw i (plus_below w _ _)
node_below ls input ws vs (Times a b) w h k e = let p : slice_get ws a.0 ≡ Some w = (same_of (slice_get ws a.0) (slice_get ws b.0) w e).0 in let i : slice_index ws a.0 ≡ w = get_or_from_slice_get ws a.0 w 0 p in rw i (times_below w _ _)
node_below ls input ws vs (Eq a b) w h k e = bit_below _ w (test_of (same_width (slice_get ws a.0) (slice_get ws b.0)) w e)
node_below ls input ws vs (Ult a b) w h k e = bit_below _ w (test_of (same_width (slice_get ws a.0) (slice_get ws b.0)) w e)
node_below ls input ws vs (Slt a b) w h k e = bit_below _ w (test_of (same_width (slice_get ws a.0) (slice_get ws b.0)) w e)
node_below ls input ws vs (Ite a b c) w h k e = let p = same_of (slice_get ws b.0) (slice_get ws c.0) w (choice_of (slice_get ws a.0) _ w e).1 in chosen_below (nat_eq (slice_index vs a.0) 1) _ _ w ((h b.0 w p.0).within) ((h c.0 w p.1).within)
node_below ls input ws vs (Slice i l a) w h k e = subst (λ (u : ℕ). slice i l (slice_index vs a.0) < 2 ^ u) (cut_of i l (slice_get ws a.0) w e).width (slice_below i l (slice_index vs a.0))
node_below ls input ws vs (Cat a b) w h k e =
    let p = joined_of (slice_get ws a.0) (slice_get ws b.0) w e in
    cat_at ws vs a.0 b.0 p.high p.low w (get_or_from_slice_get ws a.0 p.high 0 p.high_found) (get_or_from_slice_get ws b.0 p.low 0 p.low_found) p.width ((h a.0 p.high p.high_found).within) ((h b.0 p.low p.low_found).within)
node_below ls input ws vs (Sext n a) w h k e =
    let p = widened_of n (slice_get ws a.0) w e in
    sx_at ws vs a.0 n p.old w (get_or_from_slice_get ws a.0 p.old 0 p.found) p.width p.order (h a.0 p.old p.found)
node_below ls input ws vs (Shl a b) w h k e = let p : slice_get ws a.0 ≡ Some w = shifted_of (slice_get ws a.0) (slice_get ws b.0) w e in let i : slice_index ws a.0 ≡ w = get_or_from_slice_get ws a.0 w 0 p in rw i (shl_below w _ _)
node_below ls input ws vs (Shr a b) w h k e = let p : slice_get ws a.0 ≡ Some w = shifted_of (slice_get ws a.0) (slice_get ws b.0) w e in let i : slice_index ws a.0 ≡ w = get_or_from_slice_get ws a.0 w 0 p in rw i (shr_below w _ _ ((h a.0 w p).within))
node_below ls input ws vs (Udiv a b) w h k e = let p = same_of (slice_get ws a.0) (slice_get ws b.0) w e in udiv_below w _ _ ((h a.0 w p.0).within)
node_below ls input ws vs (Urem a b) w h k e = let p = same_of (slice_get ws a.0) (slice_get ws b.0) w e in urem_below w _ _ ((h a.0 w p.0).within)

-- both: the node's word
pub node_word : (ls input ws vs : List ℕ) (n : Node) (w : ℕ) → AllWide ws → InWords ws vs → IsInput ls input → node_width ls ws n ≡ Some w → IsWord w (node_value input ws vs n)
node_word ls input ws vs n w wide h k e =
    let p = node_wide ls ws n w wide e in
    record { low = p.0; high = p.1; within = node_below ls input ws vs n w h k e }

-- the width of a node over a list of widths, where it has one, is from 1 to 64
pub found_wide : (ls ws : List ℕ) (n : Node) (o : Option ℕ) → AllWide ws → o ≡ node_width ls ws n → IfSome o (λ w. (1 ≤ w) × (w ≤ 64))
found_wide ls ws n (Some w) wide e = node_wide ls ws n w wide (sym e)
found_wide ls ws n None wide e = tt
