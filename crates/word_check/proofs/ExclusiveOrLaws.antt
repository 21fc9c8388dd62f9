-- Exclusive ors of members.
use Rattle.std.proofs.Common.{◌≡◌, ℕ, zero, suc, ◌-◌, ◌<◌, ◌^◌, Bool, true, false, not, List, [], ◌∷◌, length, get_or, set, refl, sym, ◌∙◌, ap, arith, Some}
use Rattle.std.specs.Prelude.{slice_get, slice_index, slice_index_or, cond, bit_xor, replicate, IsTrue, nat_eq}
use Rattle.std.specs.Int.Bits.{xor_zero_l, xor_assoc, xor_self}
use Rattle.std.proofs.lemmas.Nat.{xor_comm}
use Rattle.std.proofs.lemmas.Bool.{eqb-true}
use Rattle.std.proofs.lemmas.Option.{get_or_from_slice_get}
use Rattle.bv_words.specs.Words.{bit_not}
use Rattle.dag.specs.declared.node.NodeId.{NodeId}
use Rattle.dag.specs.declared.node.Node.{Node}
use Rattle.dag.specs.declared.node.Node.TheVariants.{Const, Not, Xor}
use Rattle.word_check.specs.Valuation.{AreValuesOf, AlwaysSame}
use Rattle.word_check.specs.ExclusiveOrs.{xor_all, xor_total, Toggles, Trades, KeepsXor, IsZeroXor}
use Rattle.word_check.specs.declared.exclusive_ors.XorSet.{XorSet}

twice : (a x : ℕ) → bit_xor (bit_xor a x) x ≡ a
twice a x = xor_assoc a x x ∙ ap (bit_xor a) (xor_self x) ∙ xor_comm a 0 ∙ xor_zero_l a

none_right : (a : ℕ) → bit_xor a 0 ≡ a
none_right a = xor_comm a 0 ∙ xor_zero_l a

toggled : (bs : List Bool) (vs : List ℕ) (i : ℕ) → i < length bs → xor_all (set bs i (not (get_or bs i false))) vs ≡ bit_xor (xor_all bs vs) (get_or vs i 0)
unfolding xor_all
toggled [] vs i h = absurd (omega (arith, h))
toggled (b ∷ bs) [] zero h = sym (none_right 0)
toggled (b ∷ bs) [] (suc i) h = sym (none_right 0)
toggled (b ∷ bs) (v ∷ vs) zero h = first b
  where
    first : (b : Bool) → bit_xor (cond (not b) v 0) (xor_all bs vs) ≡ bit_xor (bit_xor (cond b v 0) (xor_all bs vs)) v
    first true = xor_zero_l (xor_all bs vs) ∙ sym (ap (λ (n : ℕ). bit_xor n v) (xor_comm v (xor_all bs vs)) ∙ twice (xor_all bs vs) v)
    first false = xor_comm v (xor_all bs vs) ∙ ap (λ (n : ℕ). bit_xor n v) (sym (xor_zero_l (xor_all bs vs)))
toggled (b ∷ bs) (v ∷ vs) (suc i) h = ap (bit_xor (cond b v 0)) (toggled bs vs i (omega (arith, h))) ∙ sym (xor_assoc (cond b v 0) (xor_all bs vs) (get_or vs i 0))

pub toggled_total : (k : ℕ) (bs : List Bool) (vs : List ℕ) (i : ℕ) (b : Bool) → i < length bs → b ≡ get_or bs i b → bit_xor k (xor_all (set bs i (not b)) vs) ≡ bit_xor (bit_xor k (xor_all bs vs)) (slice_index vs i)
toggled_total k bs vs i b h e =
    ap (λ (c : Bool). bit_xor k (xor_all (set bs i (not c)) vs)) (e ∙ any bs i b false h) ∙ ap (bit_xor k) (toggled bs vs i h) ∙ sym (xor_assoc k (xor_all bs vs) (get_or vs i 0))
  where
    any : (bs : List Bool) (i : ℕ) (x y : Bool) → i < length bs → get_or bs i x ≡ get_or bs i y
    any [] i x y h = absurd (omega (arith, h))
    any (c ∷ cs) zero x y h = refl
    any (c ∷ cs) (suc i) x y h = any cs i x y (omega (arith, h))

-- a constant first, and then a place
pub constant_traded : (k m v x n : ℕ) → n ≡ bit_xor (bit_xor (bit_xor k v) m) x → n ≡ bit_xor (bit_xor (bit_xor k m) x) v
constant_traded k m v x n e =
    e ∙ ap (λ (j : ℕ). bit_xor j x) (xor_assoc k v m ∙ ap (bit_xor k) (xor_comm v m) ∙ sym (xor_assoc k m v))
    ∙ xor_assoc (bit_xor k m) v x ∙ ap (bit_xor (bit_xor k m)) (xor_comm v x) ∙ sym (xor_assoc (bit_xor k m) x v)

pub turned_traded : (k m v x a n o : ℕ) → n ≡ bit_xor (bit_xor (bit_xor k v) m) x → o ≡ bit_xor n a → o ≡ bit_xor (bit_xor (bit_xor k m) x) (bit_xor a v)
turned_traded k m v x a n o e f =
    f ∙ ap (λ (j : ℕ). bit_xor j a) (constant_traded k m v x n e) ∙ xor_assoc (bit_xor (bit_xor k m) x) v a ∙ ap (bit_xor (bit_xor (bit_xor k m) x)) (xor_comm v a)

pub both_traded : (t x a b n o p : ℕ) → n ≡ bit_xor t x → o ≡ bit_xor n a → p ≡ bit_xor o b → p ≡ bit_xor (bit_xor t x) (bit_xor a b)
both_traded t x a b n o p e f g = g ∙ ap (λ (j : ℕ). bit_xor j b) (f ∙ ap (λ (j : ℕ). bit_xor j a) e) ∙ xor_assoc (bit_xor t x) a b

-- what stands in a place's stead is its value
kept : (nodes : List Node) (ws : List ℕ) (old new : XorSet) (place : ℕ) (value : List ℕ → ℕ) → Trades old new place value → ((vs : List ℕ) → AreValuesOf nodes ws vs → slice_index vs place ≡ value vs) → KeepsXor nodes ws old new
kept nodes ws old new place value t same vs h = t vs ∙ ap (bit_xor (bit_xor (xor_total old vs) (slice_index vs place))) (sym (same vs h)) ∙ twice (xor_total old vs) (slice_index vs place)

pub constant_kept : (nodes : List Node) (ws : List ℕ) (old new : XorSet) (place u v : ℕ) → slice_get nodes place ≡ Some (Const u v) → Trades old new place (λ vs. v) → KeepsXor nodes ws old new
constant_kept nodes ws old new place u v at t = kept nodes ws old new place (λ vs. v) t (λ vs h. h.each place (Const u v) at)

pub turned_kept : (nodes : List Node) (ws : List ℕ) (old new : XorSet) (place u : ℕ) (a : NodeId) → slice_get nodes place ≡ Some (Not a) → slice_get ws a.0 ≡ Some u → Trades old new place (λ vs. bit_xor (slice_index vs a.0) (2 ^ u - 1)) → KeepsXor nodes ws old new
unfolding bit_not
turned_kept nodes ws old new place u a at wide t = kept nodes ws old new place (λ vs. bit_xor (slice_index vs a.0) (2 ^ u - 1)) t (λ vs h. h.each place (Not a) at ∙ ap (λ (n : ℕ). bit_xor (slice_index vs a.0) (2 ^ n - 1)) (get_or_from_slice_get ws a.0 u 0 wide))

pub both_kept : (nodes : List Node) (ws : List ℕ) (old new : XorSet) (place : ℕ) (a b : NodeId) → slice_get nodes place ≡ Some (Xor a b) → Trades old new place (λ vs. bit_xor (slice_index vs a.0) (slice_index vs b.0)) → KeepsXor nodes ws old new
both_kept nodes ws old new place a b at t = kept nodes ws old new place (λ vs. bit_xor (slice_index vs a.0) (slice_index vs b.0)) t (λ vs h. h.each place (Xor a b) at)

pub xor_none : (bs : List Bool) (vs : List ℕ) → ((i : ℕ) → i < length bs → get_or bs i false ≡ false) → xor_all bs vs ≡ 0
unfolding xor_all
xor_none [] vs h = refl
xor_none (b ∷ bs) [] h = refl
xor_none (b ∷ bs) (v ∷ vs) h =
    let first : b ≡ false = h 0 (omega arith) in
    let more : xor_all bs vs ≡ 0 = xor_none bs vs (λ i lt. h (suc i) (omega (arith, lt))) in
    ap (λ (c : Bool). bit_xor (cond c v 0) (xor_all bs vs)) first ∙ ap (bit_xor 0) more ∙ none_right 0

pub zero_xor : (k n : ℕ) → IsTrue (nat_eq k 0) → n ≡ 0 → bit_xor k n ≡ 0
zero_xor k n on e = let z : k ≡ 0 = eqb-true k 0 on in ap (λ (j : ℕ). bit_xor j n) z ∙ ap (bit_xor 0) e ∙ none_right 0

replicate_false : (n i : ℕ) → slice_index_or (replicate n false) i false ≡ false
replicate_false zero i = refl
replicate_false (suc n) zero = refl
replicate_false (suc n) (suc i) = replicate_false n i

pub no_xor : (nodes : List Node) (ws : List ℕ) (first second : ℕ) (s0 s1 s2 s3 : XorSet) (n : ℕ) → s0.constant ≡ 0 → s0.members.items ≡ replicate n false → Toggles s0 s1 first → Toggles s1 s2 second → KeepsXor nodes ws s2 s3 → IsZeroXor s3 → AlwaysSame nodes ws first second
no_xor nodes ws first second s0 s1 s2 s3 n constant members one two keeps nothing vs h =
    let a : ℕ = slice_index vs first in
    let b : ℕ = slice_index vs second in
    let start : xor_total s0 vs ≡ 0 = ap (λ (k : ℕ). bit_xor k (xor_all s0.members.items vs)) constant ∙ ap (λ (bs : List Bool). bit_xor 0 (xor_all bs vs)) members ∙ ap (bit_xor 0) (xor_none (replicate n false) vs (λ i lt. replicate_false n i)) ∙ none_right 0 in
    let e : bit_xor a b ≡ 0 = sym (two vs ∙ ap (λ (k : ℕ). bit_xor k b) (one vs ∙ ap (λ (k : ℕ). bit_xor k a) start ∙ xor_zero_l a)) ∙ sym (keeps vs h) ∙ nothing vs in
    sym (twice a b) ∙ ap (λ (k : ℕ). bit_xor k b) e ∙ xor_zero_l b
