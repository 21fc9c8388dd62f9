-- Circuits by places: widths and values that hold place by place are those from front to back.
use Rattle.std.proofs.Common.{◌≡◌, ℕ, zero, suc, ◌<◌, ◌≤◌, List, [], ◌∷◌, ◌++◌, length, take, drop, refl, sym, ◌∙◌, ap, arith, Option, Some, length-take, get_or-take}
use Rattle.std.specs.Prelude.{IsSome, slice_get, slice_index, unwrap_or}
use Rattle.std.proofs.lemmas.List.{take_all}
use Rattle.std.proofs.lemmas.Option.{slice_get_within}
use Rattle.dag.specs.Node.{node_value, word_at}
use Rattle.dag.specs.declared.node.Node.{Node}
use Rattle.dag.specs.declared.node.Node.TheVariants.{Leaf, Const, Not, And, Or, Xor, Neg, Plus, Times, Eq, Ult, Slt, Ite, Slice, Cat, Sext, Shl, Shr, Udiv, Urem}
use Rattle.dag.proofs.Growing.{is_some, node_value_front, word_is}
use Rattle.bit_blaster.specs.Circuit.{width_in, own_width, AreFitting, IsCircuit, HaveWidths, HaveValues, widths_from, widths_of, values_from, values_of}

-- a node's value comes from the words before it
value_front : (input ws ws' vs vs' : List ℕ) (n : Node) → IsSome (width_in ws n) → ((k : ℕ) → k < length ws → word_at ws' vs' k ≡ word_at ws vs k) → node_value input ws' vs' n ≡ node_value input ws vs n
value_front input ws ws' vs vs' (Leaf w i) h same = refl
value_front input ws ws' vs vs' (Const u v) h same = node_value_front [] input ws ws' vs vs' (Const u v) h same
value_front input ws ws' vs vs' (Not a) h same = node_value_front [] input ws ws' vs vs' (Not a) h same
value_front input ws ws' vs vs' (And a b) h same = node_value_front [] input ws ws' vs vs' (And a b) h same
value_front input ws ws' vs vs' (Or a b) h same = node_value_front [] input ws ws' vs vs' (Or a b) h same
value_front input ws ws' vs vs' (Xor a b) h same = node_value_front [] input ws ws' vs vs' (Xor a b) h same
value_front input ws ws' vs vs' (Neg a) h same = node_value_front [] input ws ws' vs vs' (Neg a) h same
value_front input ws ws' vs vs' (Plus a b) h same = node_value_front [] input ws ws' vs vs' (Plus a b) h same
value_front input ws ws' vs vs' (Times a b) h same = node_value_front [] input ws ws' vs vs' (Times a b) h same
value_front input ws ws' vs vs' (Eq a b) h same = node_value_front [] input ws ws' vs vs' (Eq a b) h same
value_front input ws ws' vs vs' (Ult a b) h same = node_value_front [] input ws ws' vs vs' (Ult a b) h same
value_front input ws ws' vs vs' (Slt a b) h same = node_value_front [] input ws ws' vs vs' (Slt a b) h same
value_front input ws ws' vs vs' (Ite a b c) h same = node_value_front [] input ws ws' vs vs' (Ite a b c) h same
value_front input ws ws' vs vs' (Slice i l a) h same = node_value_front [] input ws ws' vs vs' (Slice i l a) h same
value_front input ws ws' vs vs' (Cat a b) h same = node_value_front [] input ws ws' vs vs' (Cat a b) h same
value_front input ws ws' vs vs' (Sext u a) h same = node_value_front [] input ws ws' vs vs' (Sext u a) h same
value_front input ws ws' vs vs' (Shl a b) h same = node_value_front [] input ws ws' vs vs' (Shl a b) h same
value_front input ws ws' vs vs' (Shr a b) h same = node_value_front [] input ws ws' vs vs' (Shr a b) h same
value_front input ws ws' vs vs' (Udiv a b) h same = node_value_front [] input ws ws' vs vs' (Udiv a b) h same
value_front input ws ws' vs vs' (Urem a b) h same = node_value_front [] input ws ws' vs vs' (Urem a b) h same

dropped_first : (k : ℕ) (xs : List Node) (n : Node) (left : List Node) → drop k xs ≡ n ∷ left → (slice_get xs k ≡ Some n) × (drop (suc k) xs ≡ left)
dropped_first zero [] n left e = cc
dropped_first zero (x ∷ xs) n left e = (ap (λ (y : Node). let o : Option Node = Some y in o) (first x n xs left e), rest x n xs left e)
  where
    first : (x n : Node) (xs left : List Node) → x ∷ xs ≡ n ∷ left → x ≡ n
    first x n xs left e = cc

    rest : (x n : Node) (xs left : List Node) → x ∷ xs ≡ n ∷ left → xs ≡ left
    rest x n xs left e = cc
dropped_first (suc k) [] n left e = cc
dropped_first (suc k) (x ∷ xs) n left e = dropped_first k xs n left e

dropped_all : (k : ℕ) (xs : List Node) → drop k xs ≡ [] → length xs ≤ k
dropped_all zero [] e = omega arith
dropped_all zero (x ∷ xs) e = cc
dropped_all (suc k) [] e = omega arith
dropped_all (suc k) (x ∷ xs) e = omega (arith, dropped_all k xs e)

take_next : (k : ℕ) (xs : List ℕ) → k < length xs → take k xs ++ slice_index xs k ∷ [] ≡ take (suc k) xs
take_next k [] h = absurd (omega arith)
take_next zero (x ∷ xs) h = refl
take_next (suc k) (x ∷ xs) h = ap (λ (ys : List ℕ). x ∷ ys) (take_next k xs (omega (arith, h)))

walk_widths : (nodes : List Node) (ws : List ℕ) (k : ℕ) (left : List Node) → HaveWidths nodes ws → drop k nodes ≡ left → AreFitting (take k ws) left × (widths_from (take k ws) left ≡ ws)
unfolding widths_from
walk_widths nodes ws k [] h e = (tt, take_all k ws (omega (arith, h.size, dropped_all k nodes e)))
walk_widths nodes ws k (n ∷ left) h e =
    let p = dropped_first k nodes n left e in
    let fits : width_in (take k ws) n ≡ Some (slice_index ws k) = h.each k n p.0 in
    let own : own_width (take k ws) n ≡ slice_index ws k = ap (λ (o : Option ℕ). unwrap_or o 0) fits in
    let lt : k < length ws = omega (arith, slice_get_within nodes k n p.0, h.size) in
    let next : take k ws ++ own_width (take k ws) n ∷ [] ≡ take (suc k) ws = ap (λ (w : ℕ). take k ws ++ w ∷ []) own ∙ take_next k ws lt in
    let q = walk_widths nodes ws (suc k) left h p.1 in
    rw next ((is_some _ _ fits, q.0), q.1)

-- nodes that have widths are a circuit of these
pub circuit_from : (nodes : List Node) (ws : List ℕ) → HaveWidths nodes ws → IsCircuit nodes × (widths_of nodes ≡ ws)
circuit_from nodes ws h = walk_widths nodes ws 0 nodes h refl

walk_values : (input : List ℕ) (nodes : List Node) (ws vs : List ℕ) (k : ℕ) (left : List Node) → HaveWidths nodes ws → HaveValues input nodes ws vs → drop k nodes ≡ left → values_from input (take k ws) (take k vs) left ≡ vs
unfolding values_from
walk_values input nodes ws vs k [] h v e = take_all k vs (omega (arith, v.size, dropped_all k nodes e))
walk_values input nodes ws vs k (n ∷ left) h v e =
    let p = dropped_first k nodes n left e in
    let fits : width_in (take k ws) n ≡ Some (slice_index ws k) = h.each k n p.0 in
    let own : own_width (take k ws) n ≡ slice_index ws k = ap (λ (o : Option ℕ). unwrap_or o 0) fits in
    let lt : k < length ws = omega (arith, slice_get_within nodes k n p.0, h.size) in
    let lt2 : k < length vs = omega (arith, slice_get_within nodes k n p.0, v.size) in
    let next : take k ws ++ own_width (take k ws) n ∷ [] ≡ take (suc k) ws = ap (λ (w : ℕ). take k ws ++ w ∷ []) own ∙ take_next k ws lt in
    let value : node_value input (take k ws) (take k vs) n ≡ slice_index vs k = sym (v.each k n p.0 ∙ value_front input (take k ws) ws (take k vs) vs n (is_some _ _ fits)
    (λ j less. let below : j < k = omega (arith, less, length-take k ws) in word_is (take k ws) ws (take k vs) vs j (sym (get_or-take k ws j 0 below)) (sym (get_or-take k vs j 0 below)))) in
    let more : take k vs ++ node_value input (take k ws) (take k vs) n ∷ [] ≡ take (suc k) vs = ap (λ (w : ℕ). take k vs ++ w ∷ []) value ∙ take_next k vs lt2 in
    rw (next, more) (walk_values input nodes ws vs (suc k) left h v p.1)

-- values that hold place by place are those from front to back
pub values_only : (input : List ℕ) (nodes : List Node) (ws vs : List ℕ) → HaveWidths nodes ws → HaveValues input nodes ws vs → values_of input nodes ≡ vs
values_only input nodes ws vs h v = walk_values input nodes ws vs 0 nodes h v refl
