-- Values on a number's bits, as far as a loop has come.
use Rattle.std.proofs.Common.{◌≡◌, ℕ, zero, suc, ◌+◌, ◌/◌, ◌^◌, ◌<◌, ◌≤◌, List, [], ◌∷◌, ◌++◌, length, get_or, take, drop, refl, sym, ◌∙◌, ap, subst, arith, Some, add-one, drop-cons, length-append}
use Rattle.std.specs.Prelude.{slice_get, slice_index}
use Rattle.std.proofs.lemmas.Option.{slice_get-get_or}
use Rattle.std.proofs.lemmas.Nat.{pow_pos, mod_below}
use Rattle.bv_words.specs.Words.{chop}
use Rattle.dag.specs.Node.{node_value, InWords}
use Rattle.dag.specs.declared.node.Node.{Node}
use Rattle.dag.specs.declared.node.Node.TheVariants.{Leaf, Const, Not, And, Or, Xor, Neg, Plus, Times, Eq, Ult, Slt, Ite, Slice, Cat, Sext, Shl, Shr, Udiv, Urem}
use Rattle.bit_blaster.specs.Circuit.{HaveWidths, values_of}
use Rattle.word_check.specs.Valuation.{NeverDiffer}
use Rattle.word_check.specs.Trying.{bits_of, leaf_bits, taken_value, taken_from, AreSameOn}
use Rattle.word_check.proofs.Valuing.{IsPlain, next_word, words_more, whole_values}
use Rattle.word_check.proofs.Taking.{gives}

pub taken_plain : (left : ℕ) (ws vs : List ℕ) (n : Node) → IsPlain n → taken_value left ws vs n ≡ node_value [] ws vs n
taken_plain left ws vs (Leaf w i) p = absurd (p w i refl)
taken_plain left ws vs (Const u v) p = refl
taken_plain left ws vs (Not a) p = refl
taken_plain left ws vs (And a b) p = refl
taken_plain left ws vs (Or a b) p = refl
taken_plain left ws vs (Xor a b) p = refl
taken_plain left ws vs (Neg a) p = refl
taken_plain left ws vs (Plus a b) p = refl
taken_plain left ws vs (Times a b) p = refl
taken_plain left ws vs (Eq a b) p = refl
taken_plain left ws vs (Ult a b) p = refl
taken_plain left ws vs (Slt a b) p = refl
taken_plain left ws vs (Ite a b c) p = refl
taken_plain left ws vs (Slice h l a) p = refl
taken_plain left ws vs (Cat a b) p = refl
taken_plain left ws vs (Sext u a) p = refl
taken_plain left ws vs (Shl a b) p = refl
taken_plain left ws vs (Shr a b) p = refl
taken_plain left ws vs (Udiv a b) p = refl
taken_plain left ws vs (Urem a b) p = refl

pub taken_leaf : (left : ℕ) (ws vs : List ℕ) (n : Node) (w i r : ℕ) → n ≡ Leaf w i → r ≡ chop w left → r ≡ taken_value left ws vs n
unfolding chop
taken_leaf left ws vs n w i r is e = e ∙ sym (ap (taken_value left ws vs) is)

pub leaf_bits_next : (nodes : List Node) (k : ℕ) → k < length nodes → leaf_bits (drop k nodes) ≡ bits_of (get_or nodes k (Leaf 0 0)) + leaf_bits (drop (k + 1) nodes)
unfolding leaf_bits
leaf_bits_next nodes k lt = let e : drop k nodes ≡ get_or nodes k (Leaf 0 0) ∷ drop (k + 1) nodes = rw add-one (drop-cons nodes k (Leaf 0 0) lt) in ap leaf_bits e

pub leaf_bits_end : (nodes : List Node) (k : ℕ) → length nodes ≤ k → leaf_bits (drop k nodes) ≡ 0
unfolding leaf_bits
leaf_bits_end [] zero le = refl
leaf_bits_end [] (suc k) le = refl
leaf_bits_end (n ∷ ns) zero le = absurd (omega (arith, le))
leaf_bits_end (n ∷ ns) (suc k) le = leaf_bits_end ns k (omega (arith, le))

-- the values so far
pub record IsFilled (number : ℕ) (ws : List ℕ) (nodes : List Node) (left k : ℕ) (vs : List ℕ) : Type 0 where
  pub size : length vs ≡ k
  pub words : InWords (take k ws) vs
  pub few : leaf_bits (drop k nodes) < 64
  pub same : taken_from left ws vs (drop k nodes) ≡ taken_from number ws [] nodes

pub filled_none : (number : ℕ) (ws : List ℕ) (nodes : List Node) (vs : List ℕ) → leaf_bits nodes < 64 → vs ≡ [] → IsFilled number ws nodes number 0 vs
filled_none number ws nodes vs few none = rw none (record { size = refl; words = λ k w at. cc; few = few; same = refl })

pub filled_next : (number : ℕ) (ws : List ℕ) (nodes : List Node) (left k : ℕ) (vs : List ℕ) (x left2 : ℕ) (vs2 : List ℕ) → HaveWidths nodes ws → IsFilled number ws nodes left k vs → k < length nodes
    → x ≡ taken_value left ws vs (get_or nodes k (Leaf 0 0)) → left2 ≡ left / 2 ^ bits_of (get_or nodes k (Leaf 0 0)) → vs2 ≡ vs ++ x ∷ [] → IsFilled number ws nodes left2 (k + 1) vs2
unfolding taken_from
filled_next number ws nodes left k vs x left2 vs2 h f lt x-is left-is vs-is =
    let n : Node = get_or nodes k (Leaf 0 0) in
    let at : slice_get nodes k ≡ Some n = slice_get-get_or nodes k (Leaf 0 0) lt in
    let e : drop k nodes ≡ n ∷ drop (k + 1) nodes = rw add-one (drop-cons nodes k (Leaf 0 0) lt) in
    let word = next_word [] nodes ws vs k x n h at f.words (λ w i is. leaf_small n w i is x-is) (λ p. x-is ∙ taken_plain left ws vs n p) in
    let more : InWords (take (k + 1) ws) (vs ++ x ∷ []) = rw add-one (words_more ws vs k x f.size f.words word) in
    let step : taken_from left ws vs (n ∷ drop (k + 1) nodes) ≡ taken_from number ws [] nodes = ap (taken_from left ws vs) (sym e) ∙ f.same in
    record {
      size = rw vs-is (length-append vs (x ∷ []) ∙ omega (arith, f.size));
      words = rw vs-is more;
      few = omega (arith, f.few, leaf_bits_next nodes k lt);
      same = rw (vs-is, left-is, x-is) step;
    }
  where
    leaf_small : (n : Node) (w i : ℕ) → n ≡ Leaf w i → x ≡ taken_value left ws vs n → x < 2 ^ w
    leaf_small n w i is e = subst (λ (y : ℕ). y < 2 ^ w) (sym (e ∙ ap (taken_value left ws vs) is)) (mod_below left (2 ^ w) (pow_pos w))

pub filled_all : (number : ℕ) (ws : List ℕ) (nodes : List Node) (left k : ℕ) (vs : List ℕ) → length nodes ≤ k → IsFilled number ws nodes left k vs → vs ≡ taken_from number ws [] nodes
unfolding taken_from
filled_all number ws nodes left k vs le f = last (drop k nodes) (none nodes k le) f.same
  where
    none : (ns : List Node) (k : ℕ) → length ns ≤ k → drop k ns ≡ []
    none [] zero le = refl
    none [] (suc k) le = refl
    none (n ∷ ns) zero le = absurd (omega (arith, le))
    none (n ∷ ns) (suc k) le = none ns k (omega (arith, le))

    last : (ns : List Node) → ns ≡ [] → taken_from left ws vs ns ≡ taken_from number ws [] nodes → vs ≡ taken_from number ws [] nodes
    last [] e s = s
    last (n ∷ ns) e s = cc

-- nodes that are the same on each number's bits never differ
pub all_same : (nodes : List Node) (ws : List ℕ) (first second count : ℕ) → HaveWidths nodes ws → count ≡ 2 ^ leaf_bits nodes → ((k : ℕ) → k < count → AreSameOn nodes ws first second k) → NeverDiffer nodes first second
all_same nodes ws first second count h many same input fits =
    let g = gives input ws [] nodes fits in
    let e : values_of input nodes ≡ taken_from g.number ws [] nodes = whole_values input nodes ws h fits ∙ sym g.same in
    ap (λ (vs : List ℕ). slice_index vs first) e ∙ same g.number (subst (λ (k : ℕ). g.number < k) (sym many) g.below) ∙ ap (λ (vs : List ℕ). slice_index vs second) (sym e)
