-- The values of a circuit's nodes, place by place and from front to back.
use Rattle.std.proofs.Common.{◌≡◌, ◌⊎◌, ℕ, zero, suc, ◌^◌, ◌<◌, ◌≤◌, List, [], ◌∷◌, ◌++◌, length, take, drop, refl, sym, ◌∙◌, ap, subst, arith, Option, Some, inl, inr, length-take, length-append}
use Rattle.std.specs.Prelude.{IsSome, slice_get, slice_index, unwrap_or}
use Rattle.std.proofs.lemmas.Bool.{cases_lt}
use Rattle.std.proofs.lemmas.List.{get_or_append_left, get_or-take, take_all}
use Rattle.std.proofs.lemmas.Option.{slice_get-get_or, slice_get_within}
use Rattle.std.proofs.Math.Seq.{get_or-append_seam}
use Rattle.dag.specs.Node.{node_value, node_width, word_at, InWords, IsWord, is_width}
use Rattle.dag.specs.Node as graph
use Rattle.dag.specs.declared.node.Node.{Node}
use Rattle.dag.specs.declared.node.Node.TheVariants.{Leaf, Const, Not, And, Or, Xor, Neg, Plus, Times, Eq, Ult, Slt, Ite, Slice, Cat, Sext, Shl, Shr, Udiv, Urem}
use Rattle.dag.proofs.Growing.{is_some, node_value_front, word_is, some_same}
use Rattle.dag.proofs.Bounds.{node_word}
use Rattle.dag.proofs.Inverting.{when_some}
use Rattle.bit_blaster.specs.Circuit.{HaveWidths, FitsLeaf, FitsLeaves, AreWide, width_in, own_width, values_from, values_of}
use Rattle.bit_blaster.proofs.Charging.{plain_width_is, own_wide}
use Rattle.word_check.specs.Valuation.{AreValuesOf, AlwaysSame, NeverDiffer}

abbrev pub IsPlain : Node → Type 0
IsPlain n = (w i : ℕ) → n ≡ Leaf w i → ⊥

record IsLeaf (n : Node) : Type 0 where
  width : ℕ
  index : ℕ
  is : n ≡ Leaf width index

leaf_or : (n : Node) → IsLeaf n ⊎ IsPlain n
leaf_or (Leaf w i) = inl (record { width = w; index = i; is = refl })
leaf_or (Const u v) = inr (λ w i e. cc)
leaf_or (Not a) = inr (λ w i e. cc)
leaf_or (And a b) = inr (λ w i e. cc)
leaf_or (Or a b) = inr (λ w i e. cc)
leaf_or (Xor a b) = inr (λ w i e. cc)
leaf_or (Neg a) = inr (λ w i e. cc)
leaf_or (Plus a b) = inr (λ w i e. cc)
leaf_or (Times a b) = inr (λ w i e. cc)
leaf_or (Eq a b) = inr (λ w i e. cc)
leaf_or (Ult a b) = inr (λ w i e. cc)
leaf_or (Slt a b) = inr (λ w i e. cc)
leaf_or (Ite a b c) = inr (λ w i e. cc)
leaf_or (Slice h l a) = inr (λ w i e. cc)
leaf_or (Cat a b) = inr (λ w i e. cc)
leaf_or (Sext u a) = inr (λ w i e. cc)
leaf_or (Shl a b) = inr (λ w i e. cc)
leaf_or (Shr a b) = inr (λ w i e. cc)
leaf_or (Udiv a b) = inr (λ w i e. cc)
leaf_or (Urem a b) = inr (λ w i e. cc)

-- a node reads only values before it
pub reads_before : (input ws vs us : List ℕ) (j : ℕ) (n : Node) → IsSome (width_in (take j ws) n) → ((i : ℕ) → i < j → slice_index us i ≡ slice_index vs i) → node_value input ws us n ≡ node_value input (take j ws) vs n
reads_before input ws vs us j n s same = elim (leaf_or n) [
  | inl l ↦ subst (λ (m : Node). node_value input ws us m ≡ node_value input (take j ws) vs m) (sym l.is) refl
  | inr p ↦ node_value_front [] input (take j ws) ws vs us n (subst (λ (o : Option ℕ). IsSome o) (sym (plain_width_is (take j ws) n p)) s)
      (λ i lt. let below : i < j = omega (arith, lt, length-take j ws) in word_is (take j ws) ws vs us i (sym (get_or-take j ws i 0 below)) (same i below))
]

-- what is read of the first widths stands among them all
pub get_taken : (ws : List ℕ) (i k w : ℕ) → slice_get (take i ws) k ≡ Some w → (k < i) × (slice_get ws k ≡ Some w)
get_taken ws zero k w e = cc
get_taken [] (suc i) k w e = cc
get_taken (x ∷ ws) (suc i) zero w e = (omega arith, e)
get_taken (x ∷ ws) (suc i) (suc k) w e = let p = get_taken ws i k w e in (omega (arith, p.0), p.1)

pub all_wide : (nodes : List Node) (ws : List ℕ) (k : ℕ) → HaveWidths nodes ws → AreWide (take k ws)
all_wide nodes ws zero h j w at = cc
all_wide nodes ws (suc k) h j w at = elim (cases_lt j k) [
  | inl lt ↦ all_wide nodes ws k h j w (shorter ws j k w lt at)
  | inr ge ↦
      let p = get_taken ws (suc k) j w at in
      let e : j ≡ k = omega (arith, ge, p.0) in
      let there : k < length nodes = omega (arith, slice_get_within ws j w p.1, e, h.size) in
      let m = node_there nodes k there in
      let fits = h.each k m.0 m.1 in
      let is : slice_index ws k ≡ w = some_same _ _ (sym (slice_get-get_or ws k 0 (omega (arith, there, h.size))) ∙ ap (slice_get ws) (sym e) ∙ p.1) in
      subst (λ (u : ℕ). (1 ≤ u) × (u ≤ 64)) is (own_wide (take k ws) m.0 _ (all_wide nodes ws k h) fits)
]
  where
    shorter : (ws : List ℕ) (j k w : ℕ) → j < k → slice_get (take (suc k) ws) j ≡ Some w → slice_get (take k ws) j ≡ Some w
    shorter [] j k w lt e = cc
    shorter (x ∷ ws) zero zero w lt e = absurd (omega (arith, lt))
    shorter (x ∷ ws) zero (suc k) w lt e = e
    shorter (x ∷ ws) (suc j) zero w lt e = absurd (omega (arith, lt))
    shorter (x ∷ ws) (suc j) (suc k) w lt e = shorter ws j k w (omega (arith, lt)) e

    node_there : (ns : List Node) (k : ℕ) → k < length ns → (n : Node) × (slice_get ns k ≡ Some n)
    node_there [] k lt = absurd (omega (arith, lt))
    node_there (n ∷ ns) zero lt = (n, refl)
    node_there (n ∷ ns) (suc k) lt = node_there ns k (omega (arith, lt))

-- the next value is a word
pub next_word : (input : List ℕ) (nodes : List Node) (ws vs : List ℕ) (k x : ℕ) (n : Node) → HaveWidths nodes ws → slice_get nodes k ≡ Some n → InWords (take k ws) vs → ((w i : ℕ) → n ≡ Leaf w i → x < 2 ^ w) → (IsPlain n → x ≡ node_value [] ws vs n) → IsWord (slice_index ws k) x
next_word input nodes ws vs k x n h at words leaf plain = elim (leaf_or n) [
  | inl l ↦
      let fits : width_in (take k ws) (Leaf l.width l.index) ≡ Some (slice_index ws k) = ap (width_in (take k ws)) (sym l.is) ∙ h.each k n at in
      let same : l.width ≡ slice_index ws k = (when_some (is_width l.width) l.width (slice_index ws k) fits).1 in
      let wide = own_wide (take k ws) (Leaf l.width l.index) (slice_index ws k) (all_wide nodes ws k h) fits in
      record { low = wide.0; high = wide.1; within = subst (λ (w : ℕ). x < 2 ^ w) same (leaf l.width l.index l.is) }
  | inr p ↦
      let fits : node_width [] (take k ws) n ≡ Some (slice_index ws k) = plain_width_is (take k ws) n p ∙ h.each k n at in
      let e : x ≡ node_value [] (take k ws) vs n = plain p ∙ reads_before [] ws vs vs k n (is_some _ _ (h.each k n at)) (λ i lt. refl) in
      subst (λ (y : ℕ). IsWord (slice_index ws k) y) (sym e) (node_word [] [] (take k ws) vs n (slice_index ws k) (all_wide nodes ws k h) words tt fits)
]

-- words with one more
pub words_more : (ws vs : List ℕ) (k x : ℕ) → length vs ≡ k → InWords (take k ws) vs → IsWord (slice_index ws k) x → InWords (take (suc k) ws) (vs ++ x ∷ [])
words_more ws vs k x size words word j w at =
    let p = get_taken ws (suc k) j w at in
    elim (cases_lt j k) [
      | inl lt ↦ subst (λ (y : ℕ). IsWord w y) (sym (get_or_append_left vs (x ∷ []) 0 j (omega (arith, lt, size)))) (words j w (taken ws k j w lt p.1))
      | inr ge ↦
          let e : j ≡ k = omega (arith, ge, p.0) in
          let is : slice_index ws k ≡ w = some_same _ _ (sym (slice_get-get_or ws k 0 (omega (arith, e, slice_get_within ws j w p.1))) ∙ ap (slice_get ws) (sym e) ∙ p.1) in
          let last : slice_index (vs ++ x ∷ []) j ≡ x = ap (slice_index (vs ++ x ∷ [])) (omega (arith, e, size)) ∙ get_or-append_seam vs x [] 0 in
          subst (λ (y : ℕ). IsWord w y) (sym last) (subst (λ (u : ℕ). IsWord u x) is word)
    ]
  where
    taken : (ws : List ℕ) (k j w : ℕ) → j < k → slice_get ws j ≡ Some w → slice_get (take k ws) j ≡ Some w
    taken [] k j w lt e = cc
    taken (x ∷ ws) zero j w lt e = absurd (omega (arith, lt))
    taken (x ∷ ws) (suc k) zero w lt e = e
    taken (x ∷ ws) (suc k) (suc j) w lt e = taken ws k j w (omega (arith, lt)) e

-- the nodes before a place have these values on an input
pub record IsFront (input : List ℕ) (nodes : List Node) (ws : List ℕ) (k : ℕ) (vs : List ℕ) : Type 0 where
  pub size : length vs ≡ k
  pub words : InWords (take k ws) vs
  pub each : (j : ℕ) (n : Node) → j < k → slice_get nodes j ≡ Some n → slice_index vs j ≡ node_value input ws vs n

kept : (vs : List ℕ) (x i : ℕ) → i < length vs → slice_index (vs ++ x ∷ []) i ≡ slice_index vs i
kept vs x i lt = get_or_append_left vs (x ∷ []) 0 i lt

-- values with one more are read alike
again : (input : List ℕ) (nodes : List Node) (ws vs : List ℕ) (j x : ℕ) (n : Node) → HaveWidths nodes ws → slice_get nodes j ≡ Some n → j ≤ length vs → node_value input ws (vs ++ x ∷ []) n ≡ node_value input ws vs n
again input nodes ws vs j x n h at le =
    let s = is_some _ _ (h.each j n at) in
    reads_before input ws vs (vs ++ x ∷ []) j n s (λ i lt. kept vs x i (omega (arith, lt, le))) ∙ sym (reads_before input ws vs vs j n s (λ i lt. refl))

plain_value : (input ws vs : List ℕ) (n : Node) → IsPlain n → node_value input ws vs n ≡ node_value [] ws vs n
plain_value input ws vs (Leaf w i) p = absurd (p w i refl)
plain_value input ws vs (Const u v) p = refl
plain_value input ws vs (Not a) p = refl
plain_value input ws vs (And a b) p = refl
plain_value input ws vs (Or a b) p = refl
plain_value input ws vs (Xor a b) p = refl
plain_value input ws vs (Neg a) p = refl
plain_value input ws vs (Plus a b) p = refl
plain_value input ws vs (Times a b) p = refl
plain_value input ws vs (Eq a b) p = refl
plain_value input ws vs (Ult a b) p = refl
plain_value input ws vs (Slt a b) p = refl
plain_value input ws vs (Ite a b c) p = refl
plain_value input ws vs (Slice h l a) p = refl
plain_value input ws vs (Cat a b) p = refl
plain_value input ws vs (Sext u a) p = refl
plain_value input ws vs (Shl a b) p = refl
plain_value input ws vs (Shr a b) p = refl
plain_value input ws vs (Udiv a b) p = refl
plain_value input ws vs (Urem a b) p = refl

front_more : (input : List ℕ) (nodes : List Node) (ws vs : List ℕ) (k : ℕ) (n : Node) → HaveWidths nodes ws → slice_get nodes k ≡ Some n → FitsLeaf input n → IsFront input nodes ws k vs → IsFront input nodes ws (suc k) (vs ++ node_value input ws vs n ∷ [])
front_more input nodes ws vs k n h at fits f =
    let x : ℕ = node_value input ws vs n in
    record {
      size = length-append vs (x ∷ []) ∙ omega (arith, f.size);
      words = words_more ws vs k x f.size f.words (next_word input nodes ws vs k x n h at f.words (λ w i is. leaf_below w i is) (λ p. plain_value input ws vs n p));
      each = λ j m lt there. elim (cases_lt j k) [
        | inl less ↦ kept vs x j (omega (arith, less, f.size)) ∙ f.each j m less there ∙ sym (again input nodes ws vs j x m h there (omega (arith, less, f.size)))
        | inr ge ↦
            let e : j ≡ k = omega (arith, ge, lt) in
            let same : m ≡ n = same_node m n (sym there ∙ ap (slice_get nodes) e ∙ at) in
            let last : slice_index (vs ++ x ∷ []) j ≡ x = ap (slice_index (vs ++ x ∷ [])) (omega (arith, e, f.size)) ∙ get_or-append_seam vs x [] 0 in
            last ∙ ap (node_value input ws vs) (sym same) ∙ sym (again input nodes ws vs j x m h there (omega (arith, e, f.size)))
      ];
    }
  where
    same_node : (m n : Node) → Some m ≡ Some n → m ≡ n
    same_node m n e = cc

    leaf_below : (w i : ℕ) → n ≡ Leaf w i → node_value input ws vs n < 2 ^ w
    leaf_below w i is = let g : FitsLeaf input (Leaf w i) = subst (FitsLeaf input) is fits in subst (λ (m : Node). node_value input ws vs m < 2 ^ w) (sym is) g

pub first_dropped : (k : ℕ) (xs : List Node) (n : Node) (left : List Node) → drop k xs ≡ n ∷ left → (slice_get xs k ≡ Some n) × (drop (suc k) xs ≡ left)
first_dropped zero [] n left e = cc
first_dropped zero (x ∷ xs) n left e = (ap (λ (y : Node). let o : Option Node = Some y in o) (first x n xs left e), rest x n xs left e)
  where
    first : (x n : Node) (xs left : List Node) → x ∷ xs ≡ n ∷ left → x ≡ n
    first x n xs left e = cc

    rest : (x n : Node) (xs left : List Node) → x ∷ xs ≡ n ∷ left → xs ≡ left
    rest x n xs left e = cc
first_dropped (suc k) [] n left e = cc
first_dropped (suc k) (x ∷ xs) n left e = first_dropped k xs n left e

none_dropped : (k : ℕ) (xs : List Node) → drop k xs ≡ [] → length xs ≤ k
none_dropped zero [] e = omega arith
none_dropped zero (x ∷ xs) e = cc
none_dropped (suc k) [] e = omega arith
none_dropped (suc k) (x ∷ xs) e = omega (arith, none_dropped k xs e)

next_taken : (k : ℕ) (xs : List ℕ) → k < length xs → take k xs ++ slice_index xs k ∷ [] ≡ take (suc k) xs
next_taken k [] h = absurd (omega arith)
next_taken zero (x ∷ xs) h = refl
next_taken (suc k) (x ∷ xs) h = ap (λ (ys : List ℕ). x ∷ ys) (next_taken k xs (omega (arith, h)))

-- the values from front to back, over the widths so far and over all of them
record IsWhole (input : List ℕ) (nodes : List Node) (ws : List ℕ) (k : ℕ) (vs : List ℕ) (left : List Node) : Type 0 where
  same : values_from input (take k ws) vs left ≡ graph.values_from input ws vs left
  front : IsFront input nodes ws (length nodes) (graph.values_from input ws vs left)

whole_from : (input : List ℕ) (nodes : List Node) (ws vs : List ℕ) (k : ℕ) (left : List Node) → HaveWidths nodes ws → FitsLeaves input left → k ≤ length nodes → drop k nodes ≡ left → IsFront input nodes ws k vs → IsWhole input nodes ws k vs left
unfolding values_from
whole_from input nodes ws vs k [] h fits le e f =
    let all : k ≡ length nodes = omega (arith, le, none_dropped k nodes e) in
    record { same = refl; front = subst (λ (j : ℕ). IsFront input nodes ws j vs) all f }
whole_from input nodes ws vs k (n ∷ left) h fits le e f =
    let p = first_dropped k nodes n left e in
    let wide : width_in (take k ws) n ≡ Some (slice_index ws k) = h.each k n p.0 in
    let own : own_width (take k ws) n ≡ slice_index ws k = ap (λ (o : Option ℕ). unwrap_or o 0) wide in
    let lt : k < length nodes = slice_get_within nodes k n p.0 in
    let next : take k ws ++ own_width (take k ws) n ∷ [] ≡ take (suc k) ws = ap (λ (w : ℕ). take k ws ++ w ∷ []) own ∙ next_taken k ws (omega (arith, lt, h.size)) in
    let value : node_value input (take k ws) vs n ≡ node_value input ws vs n = sym (reads_before input ws vs vs k n (is_some _ _ wide) (λ i less. refl)) in
    let q = whole_from input nodes ws (vs ++ node_value input ws vs n ∷ []) (suc k) left h fits.1 (omega (arith, lt)) p.1 (front_more input nodes ws vs k n h p.0 fits.0 f) in
    record { same = rw (next, value) q.same; front = q.front }

pub front_none : (input : List ℕ) (nodes : List Node) (ws : List ℕ) → IsFront input nodes ws 0 []
front_none input nodes ws = record { size = refl; words = λ k w at. cc; each = λ j n lt at. absurd (omega (arith, lt)) }

pub whole_values : (input : List ℕ) (nodes : List Node) (ws : List ℕ) → HaveWidths nodes ws → FitsLeaves input nodes → values_of input nodes ≡ graph.values_from input ws [] nodes
whole_values input nodes ws h fits = (whole_from input nodes ws [] 0 nodes h fits (omega arith) refl (front_none input nodes ws)).same

-- the values of a circuit's nodes are values that they have together
pub valued : (input : List ℕ) (nodes : List Node) (ws : List ℕ) → HaveWidths nodes ws → FitsLeaves input nodes → AreValuesOf nodes ws (values_of input nodes)
valued input nodes ws h fits =
    let q = whole_from input nodes ws [] 0 nodes h fits (omega arith) refl (front_none input nodes ws) in
    subst (λ (vs : List ℕ). AreValuesOf nodes ws vs) (sym q.same) (record {
      input = input;
      each = λ k n at. q.front.each k n (slice_get_within nodes k n at) at;
      words = λ k w at. q.front.words k w (ap (λ (us : List ℕ). slice_get us k) (take_all (length nodes) ws (omega (arith, h.size))) ∙ at);
    })

pub every_wide : (nodes : List Node) (ws : List ℕ) → HaveWidths nodes ws → AreWide ws
every_wide nodes ws h = subst (λ (us : List ℕ). AreWide us) (take_all (length nodes) ws (omega (arith, h.size))) (all_wide nodes ws (length nodes) h)

-- nodes that have one value whatever the values are never differ
pub same_never : (nodes : List Node) (ws : List ℕ) (a b : ℕ) → HaveWidths nodes ws → AlwaysSame nodes ws a b → NeverDiffer nodes a b
same_never nodes ws a b h same input fits = same (values_of input nodes) (valued input nodes ws h fits)
