-- The leaf that a word names.
use Rattle.std.proofs.Common.{◌≡◌, ◌∙◌, ℕ, List, [], Option, Some, None, map, get_or, sym, ap, refl, subst, arith, bytes_eq}
use Rattle.std.specs.Prelude.{slice_get}
use Rattle.std.specs.List.{position, range_with_len}
use Rattle.std.proofs.lemmas.List.{get_or-map}
use Rattle.std.proofs.lemmas.List.FromFn.{get_or-map-range_with_len}
use Rattle.std.proofs.lemmas.Option.{get_or_from_slice_get, slice_get_within}
use Rattle.dag.specs.declared.node.Node.{Node}
use Rattle.dag.specs.declared.node.Node.TheVariants.{Leaf, Const, Not, And, Or, Xor, Neg, Plus, Times, Eq, Ult, Slt, Ite, Slice, Cat, Sext, Shl, Shr, Udiv, Urem}
use Rattle.bv_rules_rows.specs.Terms.{IsLeaf, leaf_names}

-- the first place of a word among the names
abbrev pub place_of : List ℕ → Option ℕ
place_of word = position (λ name. bytes_eq name word) leaf_names

-- each name is found at its place
places : map place_of leaf_names ≡ map Some (range_with_len 0 12)
places = refl

-- so no name stands at two places
pub place_of_name : (word : List ℕ) (k : ℕ) → slice_get leaf_names k ≡ Some word → place_of word ≡ Some k
place_of_name word k is =
    let within = slice_get_within leaf_names k word is in
    let name : get_or leaf_names k [] ≡ word = get_or_from_slice_get leaf_names k word [] is in
    let at : get_or (map place_of leaf_names) k None ≡ place_of (get_or leaf_names k []) = get_or-map place_of leaf_names k [] None within in
    let found : get_or (map Some (range_with_len 0 12)) k None ≡ Some k = get_or-map-range_with_len Some 0 12 k k None within (omega arith) in
    sym (ap place_of name) ∙ sym at ∙ ap (λ (ks : List (Option ℕ)). get_or ks k None) places ∙ found

-- where no leaf stands at the word's place, the word names none
no_leaf : (word widths : List ℕ) → ((k : ℕ) → place_of word ≡ Some k → slice_get widths k ≡ None) → (n : Node) → IsLeaf widths word n → ⊥
no_leaf word widths none (Leaf w k) h = let e : Some w ≡ None = sym h.1 ∙ none k (place_of_name word k h.0) in absurd cc
no_leaf word widths none (Const w v) h = h
no_leaf word widths none (Not a) h = h
no_leaf word widths none (And a b) h = h
no_leaf word widths none (Or a b) h = h
no_leaf word widths none (Xor a b) h = h
no_leaf word widths none (Neg a) h = h
no_leaf word widths none (Plus a b) h = h
no_leaf word widths none (Times a b) h = h
no_leaf word widths none (Eq a b) h = h
no_leaf word widths none (Ult a b) h = h
no_leaf word widths none (Slt a b) h = h
no_leaf word widths none (Ite a b c) h = h
no_leaf word widths none (Slice high low a) h = h
no_leaf word widths none (Cat a b) h = h
no_leaf word widths none (Sext w a) h = h
no_leaf word widths none (Shl a b) h = h
no_leaf word widths none (Shr a b) h = h
no_leaf word widths none (Udiv a b) h = h
no_leaf word widths none (Urem a b) h = h

-- no name is the word
pub no_name : (word widths : List ℕ) → place_of word ≡ None → (n : Node) → IsLeaf widths word n → ⊥
no_name word widths none = no_leaf word widths (λ k at. let e : None ≡ Some k = sym none ∙ at in absurd cc)

-- the shape has no leaf at its place
pub no_width : (word widths : List ℕ) (i : ℕ) → place_of word ≡ Some i → slice_get widths i ≡ None → (n : Node) → IsLeaf widths word n → ⊥
no_width word widths i first none = no_leaf word widths (λ k at. let e : Some i ≡ Some k = sym first ∙ at in let same : i ≡ k = cc in subst (λ j. slice_get widths j ≡ None) same none)
