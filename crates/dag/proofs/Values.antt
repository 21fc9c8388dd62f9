-- The values of a graph's nodes from front to back are values of the graph, and the only ones.
use Rattle.std.proofs.Common.{◌≡◌, ℕ, zero, suc, ◌+◌, ◌<◌, ◌≤◌, List, [], ◌∷◌, ◌++◌, length, take, drop, refl, sym, ◌∙◌, ap, subst, arith, Some, inl, inr, ◌⊎◌, length-append, length-take, get_or-take, set}
use Rattle.std.specs.Prelude.{slice_get, slice_index}
use Rattle.std.proofs.lemmas.Option.{slice_get-get_or, slice_get_within, get_or_from_slice_get}
use Rattle.std.proofs.lemmas.List.{get_or_append_left}
use Rattle.std.proofs.Math.Seq.{get_or-append_seam}
use Rattle.std.proofs.lemmas.Bool.{cases_lt}
use Rattle.axe_io.specs.Inputs.{IsInput}
use Rattle.dag.specs.declared.node.Node.{Node}
use Rattle.dag.specs.Node.{node_value, values_from, IsWord, InWords}
use Rattle.dag.specs.Graph.{Graph, IsGraph, AreValues, HasValues, leaves_of, node_values}
use Rattle.std.proofs.lemmas.Grind.{same_number_lists}
use Rattle.dag.proofs.Growing.{is_some, some_same, node_value_front, word_is}
use Rattle.dag.proofs.Bounds.{node_word}
use Rattle.std.proofs.lemmas.List.{take_more_set}
use Rattle.std.proofs.Math.Seq.{take_all}

-- these are the values of the first nodes
pub record AreFirst (g : Graph) (input done : List ℕ) : Type 0 where
  pub within : length done ≤ length g.nodes
  pub words : (k w : ℕ) → k < length done → slice_get g.widths k ≡ Some w → IsWord w (slice_index done k)
  pub each : (k : ℕ) (n : Node) → k < length done → slice_get g.nodes k ≡ Some n → slice_index done k ≡ node_value input g.widths done n

value_at_front : (g : Graph) (input vs us : List ℕ) (k : ℕ) (n : Node) → IsGraph g → slice_get g.nodes k ≡ Some n → ((j : ℕ) → j < k → slice_index us j ≡ slice_index vs j) → node_value input g.widths us n ≡ node_value input (take k g.widths) vs n
value_at_front g input vs us k n is at same =
    node_value_front (leaves_of g) input (take k g.widths) g.widths vs us n (is_some _ _ (is.fitting k n at)) (λ j lt. word_is (take k g.widths) g.widths vs us j (sym (get_or-take k g.widths j 0 (below j lt))) (same j (below j lt)))
  where
    below : (j : ℕ) → j < length (take k g.widths) → j < k
    below j lt = omega (arith, lt, length-take k g.widths)

-- a node's value comes from the values before it
pub value_before : (g : Graph) (input vs us : List ℕ) (k : ℕ) (n : Node) → IsGraph g → slice_get g.nodes k ≡ Some n → ((j : ℕ) → j < k → slice_index us j ≡ slice_index vs j) → node_value input g.widths us n ≡ node_value input g.widths vs n
value_before g input vs us k n is at same = value_at_front g input vs us k n is at same ∙ sym (value_at_front g input vs vs k n is at (λ j lt. refl))

pub first_none : (g : Graph) (input : List ℕ) → AreFirst g input []
first_none g input = record { within = omega arith; words = λ k w lt at. absurd (omega arith); each = λ k n lt at. absurd (omega arith) }

get_taken : (ws : List ℕ) (i k w : ℕ) → slice_get (take i ws) k ≡ Some w → (k < i) × (slice_get ws k ≡ Some w)
get_taken ws i k w h =
    let lt : k < length (take i ws) = slice_get_within (take i ws) k w h in
    let a : k < i = omega (arith, lt, length-take i ws) in
    let b : k < length ws = omega (arith, lt, length-take i ws) in
    (a, slice_get-get_or ws k 0 b ∙ ap Some (sym (get_or-take i ws k 0 a) ∙ get_or_from_slice_get (take i ws) k w 0 h))

-- the next node's word
pub next_word : (g : Graph) (input done : List ℕ) (n : Node) (w : ℕ) → IsGraph g → IsInput (leaves_of g) input → AreFirst g input done → slice_get g.nodes (length done) ≡ Some n → slice_get g.widths (length done) ≡ Some w → IsWord w (node_value input g.widths done n)
next_word g input done n w is inside h at there =
    let x : slice_index g.widths (length done) ≡ w = get_or_from_slice_get g.widths (length done) w 0 there in
    let front : InWords (take (length done) g.widths) done = (λ k u got. let p = get_taken g.widths (length done) k u got in h.words k u p.0 p.1) in
    let wide : (k u : ℕ) → slice_get (take (length done) g.widths) k ≡ Some u → (1 ≤ u) × (u ≤ 64) = (λ k u got. is.wide k u (get_taken g.widths (length done) k u got).1) in
    subst (λ (v : ℕ). IsWord w v) (sym (value_at_front g input done done (length done) n is at (λ j lt. refl))) (node_word (leaves_of g) input (take (length done) g.widths) done n w wide front inside (is.fitting (length done) n at ∙ ap Some x))

pub first_more : (g : Graph) (input done : List ℕ) (n : Node) (v : ℕ) → IsGraph g → IsInput (leaves_of g) input → AreFirst g input done → slice_get g.nodes (length done) ≡ Some n → v ≡ node_value input g.widths done n → AreFirst g input (done ++ v ∷ [])
first_more g input done n v is inside h at e =
    record {
      within = omega (arith, length-append done (v ∷ []), slice_get_within g.nodes (length done) n at);
      words = λ k w lt there. elim (last k lt) [
        | inl less ↦ subst (λ (u : ℕ). IsWord w u) (sym (old k less)) (h.words k w less there)
        | inr same ↦ subst (λ (u : ℕ). IsWord w u) (sym (new k same)) (next_word g input done n w is inside h at (ap (slice_get g.widths) (sym same) ∙ there))
      ];
      each = λ k m lt there. elim (last k lt) [
        | inl less ↦ old k less ∙ h.each k m less there ∙ sym (value_before g input done (done ++ v ∷ []) k m is there (λ j below. old j (omega (arith, less, below))))
        | inr same ↦
            let is_n : Some n ≡ Some m = sym at ∙ ap (slice_get g.nodes) (sym same) ∙ there in
            let e_n : n ≡ m = some_same n m is_n in
            new k same ∙ ap (node_value input g.widths done) e_n ∙ sym (value_before g input done (done ++ v ∷ []) k m is there (λ j below. old j (omega (arith, same, below))))
      ];
    }
  where
    last : (k : ℕ) → k < length (done ++ v ∷ []) → (k < length done) ⊎ (k ≡ length done)
    last k lt = elim (cases_lt k (length done)) [ inl less ↦ inl less | inr ge ↦ inr (omega (arith, lt, length-append done (v ∷ []))) ]

    old : (k : ℕ) → k < length done → slice_index (done ++ v ∷ []) k ≡ slice_index done k
    old k less = get_or_append_left done (v ∷ []) 0 k less

    new : (k : ℕ) → k ≡ length done → slice_index (done ++ v ∷ []) k ≡ node_value input g.widths done n
    new k same = ap (slice_index (done ++ v ∷ [])) same ∙ get_or-append_seam done v [] 0 ∙ e

pub first_all : (g : Graph) (input done : List ℕ) → IsGraph g → IsInput (leaves_of g) input → AreFirst g input done → length done ≡ length g.nodes → AreValues g input done
first_all g input done is inside h e = record {
  inside = inside;
  words = λ k w at. h.words k w (omega (arith, slice_get_within g.widths k w at, is.size)) at;
  each = λ k n at. h.each k n (omega (arith, slice_get_within g.nodes k n at)) at;
}

drop_head : {X : Type 0} (xs : List X) (k : ℕ) (x : X) (ys : List X) → drop k xs ≡ x ∷ ys → (slice_get xs k ≡ Some x) × (drop (suc k) xs ≡ ys)
drop_head [] zero x ys h = cc
drop_head [] (suc k) x ys h = cc
drop_head (z ∷ zs) zero x ys h = (cc, cc)
drop_head (z ∷ zs) (suc k) x ys h = drop_head zs k x ys h

-- the fold from the front keeps to the first nodes, and ends with the last
fold_first : (g : Graph) (input done : List ℕ) (ns : List Node) → IsGraph g → IsInput (leaves_of g) input → AreFirst g input done → drop (length done) g.nodes ≡ ns → AreFirst g input (values_from input g.widths done ns) × (length (values_from input g.widths done ns) ≡ length done + length ns)
fold_first g input done [] is inside h e = (h, omega arith)
fold_first g input done (n ∷ ns) is inside h e =
    let p = drop_head g.nodes (length done) n ns e in
    let v : ℕ = node_value input g.widths done n in
    let size : length (done ++ v ∷ []) ≡ suc (length done) = omega (arith, length-append done (v ∷ [])) in
    let r = fold_first g input (done ++ v ∷ []) ns is inside (first_more g input done n v is inside h p.0 refl) (ap (λ (k : ℕ). drop k g.nodes) size ∙ p.1) in
    (r.0, omega (arith, r.1, size))

pub values_some : (g : Graph) → IsGraph g → (input : List ℕ) → IsInput (leaves_of g) input → AreValues g input (node_values g input)
values_some g is input inside =
    let p = fold_first g input [] g.nodes is inside (first_none g input) refl in
    first_all g input (node_values g input) is inside p.0 (omega (arith, p.1))

pub values_length : (g : Graph) → IsGraph g → (input : List ℕ) → IsInput (leaves_of g) input → length (node_values g input) ≡ length g.nodes
values_length g is input inside = let p = fold_first g input [] g.nodes is inside (first_none g input) refl in omega (arith, p.1)

node_there : (ns : List Node) (k : ℕ) → k < length ns → (n : Node) × (slice_get ns k ≡ Some n)
node_there [] k lt = absurd (omega arith)
node_there (n ∷ ns) zero lt = (n, refl)
node_there (n ∷ ns) (suc k) lt = node_there ns k (omega arith)

-- two lists of values agree, from the front on
agree_below : (g : Graph) (input vs us : List ℕ) (m : ℕ) → IsGraph g → AreValues g input vs → AreValues g input us → m ≤ length g.nodes → (k : ℕ) → k < m → slice_index us k ≡ slice_index vs k
agree_below g input vs us zero is p q le k lt = absurd (omega arith)
agree_below g input vs us (suc m) is p q le k lt =
    let before : (j : ℕ) → j < m → slice_index us j ≡ slice_index vs j = agree_below g input vs us m is p q (omega arith) in
    elim (last m k lt) [
      | inl less ↦ before k less
      | inr same ↦
          let n = node_there g.nodes m (omega arith) in
          ap (slice_index us) same ∙ q.each m n.0 n.1 ∙ value_before g input vs us m n.0 is n.1 before ∙ sym (p.each m n.0 n.1) ∙ ap (slice_index vs) (sym same)
    ]
  where
    last : (m k : ℕ) → k < suc m → (k < m) ⊎ (k ≡ m)
    last m k lt = elim (cases_lt k m) [ inl less ↦ inl less | inr ge ↦ inr (omega arith) ]

pub has_values : (g : Graph) → IsGraph g → HasValues g
has_values g is = record {
  some = values_some g is;
  only = λ input values h k lt. agree_below g input (node_values g input) values (length g.nodes) is (values_some g is input h.inside) h (omega arith) k lt;
}

-- a list of values of the right length is the one from front to back
pub values_are : (g : Graph) (input values : List ℕ) → IsGraph g → AreValues g input values → length values ≡ length g.nodes → values ≡ node_values g input
values_are g input values is h e =
    let size : length (node_values g input) ≡ length g.nodes = values_length g is input h.inside in
    same_number_lists values (node_values g input) (omega (arith, e, size)) (λ k lt. (has_values g is).only input values h k (omega (arith, e, lt)))

-- the loop's step: the next value is written at its place
pub written_more : (g : Graph) (input values : List ℕ) (i v : ℕ) (n : Node) → IsGraph g → IsInput (leaves_of g) input → length values ≡ length g.nodes → i < length g.nodes → slice_get g.nodes i ≡ Some n → v ≡ node_value input g.widths (take i values) n → AreFirst g input (take i values) → AreFirst g input (take (i + 1) (set values i v))
written_more g input values i v n is inside size lt at e h =
    let small : i < length values = omega (arith, size, lt) in
    let front : length (take i values) ≡ i = omega (arith, length-take i values, small) in
    rw (take_more_set values i v small) (first_more g input (take i values) n v is inside h (ap (slice_get g.nodes) front ∙ at) e)

-- and its end
pub written_all : (g : Graph) (input values : List ℕ) (i : ℕ) → IsGraph g → IsInput (leaves_of g) input → length values ≡ length g.nodes → length g.nodes ≤ i → AreFirst g input (take i values) → AreValues g input values
written_all g input values i is inside size le h =
    let e : take i values ≡ values = take_all i values (omega (arith, size, le)) in
    first_all g input values is inside (subst (λ (vs : List ℕ). AreFirst g input vs) e h) size
