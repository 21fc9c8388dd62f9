-- What embeds in a graph, and what doesn't.
use Rattle.std.proofs.Common.{◌≡◌, ◌⊎◌, ℕ, zero, suc, ◌+◌, ◌<◌, ◌≤◌, List, [], ◌∷◌, ◌++◌, length, take, refl, sym, ◌∙◌, ap, subst, arith, Option, Some, None, inl, inr}
use Rattle.std.specs.Prelude.{nat_eq, ◌&&◌, option_map, slice_get, slice_index}
use Rattle.std.proofs.lemmas.Bool.{cases_lt}
use Rattle.std.proofs.lemmas.List.{get_or_append_left}
use Rattle.std.proofs.lemmas.Option.{slice_get_within, slice_get-get_or, get_or_from_slice_get, slice_get-map}
use Rattle.dag.specs.Graph.{Graph, IsGraph, NoRepeats, leaves_of, fits_width}
use Rattle.dag.specs.Node.{kind_value, node_value, node_width, word_at, leaf_width, is_width, form, width_by, no_node}
use Rattle.dag.specs.declared.node.Form.{Form}
use Rattle.dag.specs.declared.value.Word.{Word}
use Rattle.dag.specs.declared.node.Node.{Node}
use Rattle.dag.specs.declared.node.Node.TheVariants.{Leaf, Const, Not, And, Or, Xor, Neg, Plus, Times, Eq, Ult, Slt, Ite, Slice, Cat, Sext, Shl, Shr, Udiv, Urem}
use Rattle.dag.proofs.Reading.{value_reads, width_reads}
use Rattle.dag.proofs.Replacing.{value_same, form_same}
use Rattle.dag.proofs.Inverting.{leaf_of, when_some}
use Rattle.bit_blaster.specs.Circuit.{width_in}
use Rattle.bit_blaster.proofs.Charging.{plain_width_is}
use Rattle.dag_view.specs.View.{ViewParts, IsView, IsFree, IsTableOf, arity, nth_child, bare, HasKind, HasDefinition, HasChildren, Stands, StandsAt, Embeds, StandBefore, IsMisfit, IsOtherChild, HasMisfitAt, HasFree, front, own_input, HasGraphValues, values_at}
use Rattle.dag_view.specs.declared.misfit.Misfit.{Misfit}
use Rattle.dag_view.specs.declared.misfit.Misfit.TheVariants.{Child, Definition}
use Rattle.dag_view.proofs.Positions.{reads_from, replaced_arity, shape_free}
use Rattle.dag_view.proofs.Lists.{taken_get}

number_same : (x y : ℕ) → Some x ≡ Some y → x ≡ y
number_same x y e = cc

pub node_same : (m n : Node) → Some m ≡ Some n → m ≡ n
node_same m n e = cc

-- a leaf has no children to disregard
pub leaf_alone : (n : Node) (w i : ℕ) → bare n ≡ Leaf w i → n ≡ Leaf w i
leaf_alone (Leaf v j) w i e = e
leaf_alone (Const u v) w i e = cc
leaf_alone (Not a) w i e = cc
leaf_alone (And a b) w i e = cc
leaf_alone (Or a b) w i e = cc
leaf_alone (Xor a b) w i e = cc
leaf_alone (Neg a) w i e = cc
leaf_alone (Plus a b) w i e = cc
leaf_alone (Times a b) w i e = cc
leaf_alone (Eq a b) w i e = cc
leaf_alone (Ult a b) w i e = cc
leaf_alone (Slt a b) w i e = cc
leaf_alone (Ite a b c) w i e = cc
leaf_alone (Slice h l a) w i e = cc
leaf_alone (Cat a b) w i e = cc
leaf_alone (Sext u a) w i e = cc
leaf_alone (Shl a b) w i e = cc
leaf_alone (Shr a b) w i e = cc
leaf_alone (Udiv a b) w i e = cc
leaf_alone (Urem a b) w i e = cc

pub node_at : (nodes : List Node) (j : ℕ) → j < length nodes → (m : Node) × (slice_get nodes j ≡ Some m)
node_at [] j lt = absurd (omega arith)
node_at (m ∷ ms) zero lt = (m, refl)
node_at (m ∷ ms) (suc j) lt = node_at ms j (omega (arith, lt))

pub arities : (m n : Node) → bare n ≡ bare m → arity m ≡ arity n
arities m n e = sym (replaced_arity m _) ∙ ap arity (sym e) ∙ replaced_arity n _

word_same : (x y u v : ℕ) → x ≡ u → y ≡ v → (let w : Word = record { width = x; value = y } in w) ≡ (let w : Word = record { width = u; value = v } in w)
word_same x y u v p q = rw (p, q) refl

-- a node reads an input at its own index alone
pub value_alike : (input other : List ℕ) (m : Node) (x y z : Word) → ((w i : ℕ) → m ≡ Leaf w i → slice_index other i ≡ slice_index input i) → kind_value other m x y z ≡ kind_value input m x y z
value_alike input other (Leaf w i) x y z h = h w i refl
value_alike input other (Const u v) x y z h = refl
value_alike input other (Not a) x y z h = refl
value_alike input other (And a b) x y z h = refl
value_alike input other (Or a b) x y z h = refl
value_alike input other (Xor a b) x y z h = refl
value_alike input other (Neg a) x y z h = refl
value_alike input other (Plus a b) x y z h = refl
value_alike input other (Times a b) x y z h = refl
value_alike input other (Eq a b) x y z h = refl
value_alike input other (Ult a b) x y z h = refl
value_alike input other (Slt a b) x y z h = refl
value_alike input other (Ite a b c) x y z h = refl
value_alike input other (Slice t l a) x y z h = refl
value_alike input other (Cat a b) x y z h = refl
value_alike input other (Sext u a) x y z h = refl
value_alike input other (Shl a b) x y z h = refl
value_alike input other (Shr a b) x y z h = refl
value_alike input other (Udiv a b) x y z h = refl
value_alike input other (Urem a b) x y z h = refl

length-front : (n : ℕ) (xs : List ℕ) → length (front n xs) ≡ n
unfolding front
length-front zero xs = refl
length-front (suc n) [] = ap suc (length-front n [])
length-front (suc n) (x ∷ xs) = ap suc (length-front n xs)

front_at : (n i : ℕ) (xs : List ℕ) → i < n → slice_index (front n xs) i ≡ slice_index xs i
unfolding front
front_at zero i xs lt = absurd (omega (arith, lt))
front_at (suc n) zero [] lt = refl
front_at (suc n) (suc i) [] lt = front_at n i [] (omega (arith, lt))
front_at (suc n) zero (x ∷ xs) lt = refl
front_at (suc n) (suc i) (x ∷ xs) lt = front_at n i xs (omega (arith, lt))

past : (xs ys : List ℕ) (n k : ℕ) → length xs ≡ n → slice_index (xs ++ ys) (n + k) ≡ slice_index ys k
past [] ys n k e = let z : n + k ≡ k = omega (arith, e) in ap (slice_index ys) z
past (x ∷ xs) ys zero k e = absurd (omega (arith, e))
past (x ∷ xs) ys (suc n) k e = let z : suc n + k ≡ suc (n + k) = omega arith in ap (slice_index (x ∷ (xs ++ ys))) z ∙ past xs ys n k (omega (arith, e))

-- the view's own input at a leaf of the shape, and at a free one
pub own_front : (v : ViewParts) (input values : List ℕ) (i : ℕ) → i < v.leaves → slice_index (own_input v input values) i ≡ slice_index input i
own_front v input values i lt = get_or_append_left (front v.leaves input) (values_at v.ids values) 0 i (omega (arith, lt, length-front v.leaves input)) ∙ front_at v.leaves i input lt

pub own_past : (v : ViewParts) (input values : List ℕ) (k : ℕ) → slice_index (own_input v input values) (v.leaves + k) ≡ slice_index (values_at v.ids values) k
own_past v input values k = past (front v.leaves input) (values_at v.ids values) v.leaves k (length-front v.leaves input)

pub read_value : (ids values : List ℕ) (k : ℕ) → k < length ids → slice_index (values_at ids values) k ≡ slice_index values (slice_index ids k)
read_value ids values k lt = get_or_from_slice_get _ k _ 0 (slice_get-map (λ (id : ℕ). slice_index values id) ids k ∙ ap (option_map (λ (id : ℕ). slice_index values id)) (slice_get-get_or ids k 0 lt))

-- the width of the node of a graph that a view's node stands for
pub wide_of : (g : Graph) (table : List ℕ) (v : ViewParts) (k : ℕ) (m : Node) → StandsAt g table v k m → slice_get g.widths (slice_index v.ids k) ≡ Some (slice_index v.widths k)
wide_of g table v k m (n, inl t) = t.stands.definition.width
wide_of g table v k m (n, inr f) = f.width

-- what embeds has the graph's values at its own input, with free leaves too
pub cut_values : (g : Graph) (table : List ℕ) (v : ViewParts) → IsView v → Embeds g table v → ((k : ℕ) (n : Node) (i : ℕ) → slice_get g.nodes k ≡ Some n → i < arity n → nth_child n i < k) → HasGraphValues g table v
cut_values g table v is embeds early keeps input values are = record {
  size = mapped v.ids ∙ is.size;
  each = λ k m at.
      let s = embeds k m at in
      let n : Node = s.0 in
      let lt : k < length v.ids = omega (arith, slice_get_within v.nodes k m at, is.size) in
      let here : slice_index (values_at v.ids values) k ≡ slice_index values (slice_index v.ids k) = read_value v.ids values k lt in
      elim s.1 [
        | inl t ↦
            here ∙ are.each (slice_index v.ids k) n t.stands.definition.at ∙ sym (value_same input n _ _ _ _) ∙ ap (λ (q : Node). kind_value input q (word_at g.widths values (nth_child n 0)) (word_at g.widths values (nth_child n 1)) (word_at g.widths values (nth_child n 2))) t.stands.definition.kind
            ∙ value_same input m _ _ _ _ ∙ value_reads input m _ _ _ _ _ _ (reads_from m (λ (i : ℕ). word_at g.widths values (nth_child n i) ≡ word_at v.widths (values_at v.ids values) (nth_child m i)) (λ i below. child k m at n t.stands i below))
            ∙ sym (value_alike input (own_input v input values) m _ _ _ (λ w i e. own_front v input values i (t.own w i e)))
        | inr f ↦ sym (ap (λ (q : Node). node_value (own_input v input values) v.widths (values_at v.ids values) q) f.free ∙ own_past v input values k)
      ];
}
  where
    mapped : (ids : List ℕ) → length (values_at ids values) ≡ length ids
    mapped [] = refl
    mapped (x ∷ xs) = omega (arith, mapped xs)

    child : (k : ℕ) (m : Node) → slice_get v.nodes k ≡ Some m → (n : Node) → Stands g table v.ids m (slice_index v.widths k) (slice_index v.ids k) n → (i : ℕ) → i < arity m → word_at g.widths values (nth_child n i) ≡ word_at v.widths (values_at v.ids values) (nth_child m i)
    child k m at n s i below =
        let c-in : nth_child n i < length table = omega (arith, early (slice_index v.ids k) n i s.definition.at (subst (λ (x : ℕ). i < x) (arities m n s.definition.kind) below), slice_get_within g.nodes (slice_index v.ids k) n s.definition.at, keeps.size) in
        let r : ℕ = slice_index table (nth_child n i) in
        let r-is : slice_get table (nth_child n i) ≡ Some r = slice_get-get_or table (nth_child n i) 0 c-in in
        let p : ℕ = nth_child m i in
        let p-in : p < length v.nodes = omega (arith, is.before k m i at below, slice_get_within v.nodes k m at) in
        let p-id : p < length v.ids = omega (arith, p-in, is.size) in
        let id : ℕ = slice_index v.ids p in
        let id-is : slice_get table id ≡ Some r = s.children i below ∙ r-is in
        let o = node_at v.nodes p p-in in
        let e = embeds p o.0 o.1 in
        let wide : slice_get g.widths id ≡ Some (slice_index v.widths p) = wide_of g table v p o.0 e in
        let c-wide : slice_get g.widths (nth_child n i) ≡ Some (slice_index v.widths p) = sym (keeps.widths _ r r-is) ∙ keeps.widths id r id-is ∙ wide in
        let value : slice_index values (nth_child n i) ≡ slice_index values id = sym (keeps.values _ r r-is input values are) ∙ keeps.values id r id-is input values are in
        word_same _ _ _ _ (get_or_from_slice_get g.widths (nth_child n i) _ 0 c-wide) (value ∙ sym (read_value v.ids values p p-id))

-- a leaf of the graph, which is one of the shape's
pub record IsGraphLeaf (g : Graph) (id w i : ℕ) : Type 0 where
  pub at : slice_get g.nodes id ≡ Some (Leaf w i)
  pub width : slice_get (leaves_of g) i ≡ Some w
  pub wide : slice_get g.widths id ≡ Some w

pub graph_leaf : (g : Graph) (id w i : ℕ) (n : Node) → IsGraph g → ((j : ℕ) (o : Node) → slice_get g.nodes j ≡ Some o → fits_width g o ≡ slice_get g.widths j) → slice_get g.nodes id ≡ Some n → bare n ≡ Leaf w i → IsGraphLeaf g id w i
graph_leaf g id w i n is fits at kind =
    let there : slice_get g.nodes id ≡ Some (Leaf w i) = at ∙ ap (λ (m : Node). let o : Option Node = Some m in o) (leaf_alone n w i kind) in
    let inside : id < length g.widths = omega (arith, slice_get_within g.nodes id n at, is.size) in
    let u : ℕ = slice_index g.widths id in
    let is-u : slice_get g.widths id ≡ Some u = slice_get-get_or g.widths id 0 inside in
    let wide : leaf_width (slice_get (leaves_of g) i) w ≡ Some u = fits id (Leaf w i) there ∙ is-u in
    let same : u ≡ w = named (slice_get (leaves_of g) i) w u wide in
    let some : Some u ≡ Some w = ap (λ (x : ℕ). let o : Option ℕ = Some x in o) same in
    record { at = there; width = (leaf_of _ w u wide).found ∙ some; wide = is-u ∙ some }
  where
    named : (o : Option ℕ) (w v : ℕ) → leaf_width o w ≡ Some v → v ≡ w
    named (Some u) w v e = sym (when_some (nat_eq u w && is_width w) w v e).1
    named None w v e = cc

-- what a node that has its definition in the graph owes for its children to be looked at
pub record AreInside (table ids : List ℕ) (m n : Node) : Type 0 where
  pub arity_same : arity n ≡ arity m
  pub places : (i : ℕ) → i < arity m → nth_child m i < length ids
  pub seen : (i : ℕ) → i < arity m → slice_index ids (nth_child m i) < length table
  pub now : (i : ℕ) → i < arity m → nth_child n i < length table

pub inside : (g : Graph) (table : List ℕ) (v : ViewParts) (k : ℕ) (m n : Node) (id : ℕ) → IsGraph g → IsView v → length table ≡ length g.nodes → ((j : ℕ) (o : Node) (i : ℕ) → slice_get g.nodes j ≡ Some o → i < arity o → nth_child o i < j)
    → StandBefore g table v k → slice_get v.nodes k ≡ Some m → HasKind g m id n → AreInside table v.ids m n
inside g table v k m n id graph is size early h at d = record {
  arity_same = sym (arities m n d.kind);
  places = λ i lt. omega (arith, is.before k m i at lt, slice_get_within v.nodes k m at, is.size);
  seen = λ i lt.
      let j : ℕ = nth_child m i in
      let less : j < k = is.before k m i at lt in
      let o = node_at v.nodes j (omega (arith, less, slice_get_within v.nodes k m at)) in
      omega (arith, slice_get_within g.widths (slice_index v.ids j) _ (wide_of g table v j o.0 (h j o.0 less o.1)), graph.size, size);
  now = λ i lt. omega (arith, early id n i d.at (subst (λ (x : ℕ). i < x) (arities m n d.kind) lt), slice_get_within g.nodes id n d.at, size);
}

-- a node of the same definition whose children are retained by the same nodes has the same width
same_widths : (g : Graph) (table : List ℕ) (v : ViewParts) (k : ℕ) (m n : Node) (id : ℕ) → IsGraph g → ((j : ℕ) (o : Node) → slice_get g.nodes j ≡ Some o → fits_width g o ≡ slice_get g.widths j) → IsTableOf g table → IsView v → ((j : ℕ) (o : Node) (i : ℕ) → slice_get g.nodes j ≡ Some o → i < arity o → nth_child o i < j)
    → StandBefore g table v k → slice_get v.nodes k ≡ Some m → HasKind g m id n → HasChildren table v.ids m n → slice_get g.widths id ≡ Some (slice_index v.widths k)
same_widths g table v k m n id graph fits t is early before at d children = elim (leaf_or m) [
  | inl l ↦
      let leaf : IsGraphLeaf g id l.0 l.1 = graph_leaf g id l.0 l.1 n graph fits d.at (d.kind ∙ ap bare l.2) in
      let own : width_in (take k v.widths) (Leaf l.0 l.1) ≡ Some (slice_index v.widths k) = ap (width_in (take k v.widths)) (sym l.2) ∙ is.widths.each k m at in
      leaf.wide ∙ ap (λ (x : ℕ). let o : Option ℕ = Some x in o) (when_some (is_width l.0) l.0 (slice_index v.widths k) own).1
  | inr plain ↦
      let ws : List ℕ = take k v.widths in
      let there : id < length g.widths = omega (arith, slice_get_within g.nodes id n d.at, graph.size) in
      let u : ℕ = slice_index g.widths id in
      let u-is : slice_get g.widths id ≡ Some u = slice_get-get_or g.widths id 0 there in
      let n-plain : (w i : ℕ) → n ≡ Leaf w i → ⊥ = λ w i e. plain w i (leaf_alone m w i (sym d.kind ∙ ap bare e)) in
      let wide : node_width [] g.widths n ≡ Some u = plain_width_is g.widths n n-plain ∙ shape_free (leaves_of g) g.widths n u (fits id n d.at ∙ u-is) in
      let own : node_width [] ws m ≡ Some (slice_index v.widths k) = plain_width_is ws m plain ∙ is.widths.each k m at in
      let forms : form n ≡ form m = sym (form_same n (no_node ∷ no_node ∷ no_node ∷ [])) ∙ ap form d.kind ∙ form_same m (no_node ∷ no_node ∷ no_node ∷ []) in
      let same : node_width [] g.widths n ≡ node_width [] ws m =
      width_reads [] (form n) _ _ _ _ _ _ (reads_from n (λ (i : ℕ). slice_get g.widths (nth_child n i) ≡ slice_get ws (nth_child m i)) (λ i lt. child i (subst (λ (x : ℕ). i < x) (sym (arities m n d.kind)) lt)))
      ∙ ap (λ (f : Form). width_by [] f (slice_get ws (nth_child m 0)) (slice_get ws (nth_child m 1)) (slice_get ws (nth_child m 2))) forms in
      u-is ∙ sym wide ∙ same ∙ own
]
  where
    leaf_or : (m : Node) → ((w : ℕ) × (i : ℕ) × (m ≡ Leaf w i)) ⊎ ((w i : ℕ) → m ≡ Leaf w i → ⊥)
    leaf_or (Leaf w i) = inl (w, i, refl)
    leaf_or (Const u v) = inr (λ w i e. cc)
    leaf_or (Not a) = inr (λ w i e. cc)
    leaf_or (And a b) = inr (λ w i e. cc)
    leaf_or (Or a b) = inr (λ w i e. cc)
    leaf_or (Xor a b) = inr (λ w i e. cc)
    leaf_or (Neg a) = inr (λ w i e. cc)
    leaf_or (Plus a b) = inr (λ w i e. cc)
    leaf_or (Times a b) = inr (λ w i e. cc)
    leaf_or (Eq a b) = inr (λ w i e. cc)
    leaf_or (Ult a b) = inr (λ w i e. cc)
    leaf_or (Slt a b) = inr (λ w i e. cc)
    leaf_or (Ite a b c) = inr (λ w i e. cc)
    leaf_or (Slice h l a) = inr (λ w i e. cc)
    leaf_or (Cat a b) = inr (λ w i e. cc)
    leaf_or (Sext u a) = inr (λ w i e. cc)
    leaf_or (Shl a b) = inr (λ w i e. cc)
    leaf_or (Shr a b) = inr (λ w i e. cc)
    leaf_or (Udiv a b) = inr (λ w i e. cc)
    leaf_or (Urem a b) = inr (λ w i e. cc)

    child : (i : ℕ) → i < arity m → slice_get g.widths (nth_child n i) ≡ slice_get (take k v.widths) (nth_child m i)
    child i lt =
        let p : ℕ = nth_child m i in
        let less : p < k = is.before k m i at lt in
        let o = node_at v.nodes p (omega (arith, less, slice_get_within v.nodes k m at)) in
        let p-ws : p < length v.widths = omega (arith, less, slice_get_within v.nodes k m at, is.widths.size) in
        let s : slice_get g.widths (slice_index v.ids p) ≡ Some (slice_index v.widths p) = wide_of g table v p o.0 (before p o.0 less o.1) in
        let c-in : nth_child n i < length table = omega (arith, early id n i d.at (subst (λ (x : ℕ). i < x) (arities m n d.kind) lt), slice_get_within g.nodes id n d.at, t.size) in
        let r : ℕ = slice_index table (nth_child n i) in
        let r-is : slice_get table (nth_child n i) ≡ Some r = slice_get-get_or table (nth_child n i) 0 c-in in
        sym (t.widths _ r r-is) ∙ t.widths (slice_index v.ids p) r (children i lt ∙ r-is) ∙ s ∙ sym (slice_get-get_or v.widths p 0 p-ws) ∙ sym (taken_get k p v.widths less)

-- a place whose node stands is one more
stands_more : (g : Graph) (table : List ℕ) (v : ViewParts) (k : ℕ) (m : Node) → StandBefore g table v k → slice_get v.nodes k ≡ Some m → StandsAt g table v k m → StandBefore g table v (k + 1)
stands_more g table v k m h at s = λ j o lt there. elim (cases_lt j k) [
  | inl less ↦ h j o less there
  | inr ge ↦
      let e : j ≡ k = omega (arith, lt, ge) in
      let f : o ≡ m = node_same o m (sym there ∙ ap (slice_get v.nodes) e ∙ at) in
      subst (λ (i : ℕ). StandsAt g table v i o) (sym e) (subst (λ (p : Node). StandsAt g table v k p) (sym f) s)
]

pub stands_whole : (g : Graph) (table : List ℕ) (v : ViewParts) (k : ℕ) (m n : Node) (id : ℕ) → IsGraph g → ((j : ℕ) (o : Node) → slice_get g.nodes j ≡ Some o → fits_width g o ≡ slice_get g.widths j) → IsTableOf g table → IsView v → ((j : ℕ) (o : Node) (i : ℕ) → slice_get g.nodes j ≡ Some o → i < arity o → nth_child o i < j)
    → StandBefore g table v k → slice_get v.nodes k ≡ Some m → id ≡ slice_index v.ids k → ((w i : ℕ) → m ≡ Leaf w i → i < v.leaves) → HasKind g m id n → HasChildren table v.ids m n → StandBefore g table v (k + 1)
stands_whole g table v k m n id graph fits t is early before at id-is own d children =
    let wide : slice_get g.widths id ≡ Some (slice_index v.widths k) = same_widths g table v k m n id graph fits t is early before at d children in
    let whole : HasDefinition g m (slice_index v.widths k) id n = record { at = d.at; kind = d.kind; width = wide } in
    stands_more g table v k m before at (n, inl (record { stands = record { definition = subst (λ (x : ℕ). HasDefinition g m (slice_index v.widths k) x n) id-is whole; children = children }; own = own }))

-- a free leaf is known by its index
pub free_known : (v : ViewParts) (k : ℕ) (m : Node) (w i : ℕ) → IsView v → slice_get v.nodes k ≡ Some m → m ≡ Leaf w i → v.leaves ≤ i → IsFree v k m
free_known v k m w i is at e le =
    let there : slice_get v.nodes k ≡ Some (Leaf w i) = at ∙ ap (λ (o : Node). let p : Option Node = Some o in p) e in
    let index : i ≡ v.leaves + k = elim (is.leaf_in k w i there) [
      | inl lt ↦ absurd (omega (arith, lt, le))
      | inr q ↦ q
    ] in
    let width : w ≡ slice_index v.widths k = (when_some (is_width w) w (slice_index v.widths k) (is.widths.each k (Leaf w i) there)).1 in
    e ∙ ap (λ (x : ℕ). Leaf x i) width ∙ ap (λ (x : ℕ). Leaf (slice_index v.widths k) x) index

pub own_known : (v : ViewParts) (k : ℕ) (m : Node) → ((w i : ℕ) → m ≡ Leaf w i → i < v.leaves) → IsFree v k m → ⊥
own_known v k m own free = omega (arith, own _ _ free)

pub stands_free : (g : Graph) (table : List ℕ) (v : ViewParts) (k : ℕ) (m : Node) (w id : ℕ) → IsGraph g → StandBefore g table v k → slice_get v.nodes k ≡ Some m → id ≡ slice_index v.ids k → w ≡ slice_index v.widths k → IsFree v k m → slice_get g.widths id ≡ Some w → StandBefore g table v (k + 1)
stands_free g table v k m w id graph before at id-is w-is free wide =
    let here : slice_get g.widths (slice_index v.ids k) ≡ Some (slice_index v.widths k) = ap (slice_get g.widths) (sym id-is) ∙ wide ∙ ap (λ (x : ℕ). let o : Option ℕ = Some x in o) w-is in
    let n = node_at g.nodes (slice_index v.ids k) (omega (arith, slice_get_within g.widths _ _ here, graph.size)) in
    stands_more g table v k m before at (n.0, inr (record { free = free; at = n.1; width = here }))

pub free_misfit : (g : Graph) (table : List ℕ) (v : ViewParts) (k : ℕ) (m : Node) (w id : ℕ) (e : Misfit) → slice_get v.nodes k ≡ Some m → id ≡ slice_index v.ids k → w ≡ slice_index v.widths k → IsFree v k m → e ≡ Definition id m (slice_get g.nodes id) → (slice_get g.widths id ≡ Some w → ⊥) → HasMisfitAt g table v k e
free_misfit g table v k m w id e at id-is w-is free e-is other =
    (m, at, subst (λ (x : Misfit). IsMisfit g table v k m x) (sym e-is) (id-is, refl, refl, inl (free, λ wide. other (ap (slice_get g.widths) id-is ∙ wide ∙ ap (λ (x : ℕ). let o : Option ℕ = Some x in o) (sym w-is)))))

pub kind_misfit : (g : Graph) (table : List ℕ) (v : ViewParts) (k : ℕ) (m : Node) (id : ℕ) (e : Misfit) → slice_get v.nodes k ≡ Some m → id ≡ slice_index v.ids k → (IsFree v k m → ⊥) → e ≡ Definition id m (slice_get g.nodes id) → ((n : Node) → HasKind g m id n → ⊥) → HasMisfitAt g table v k e
kind_misfit g table v k m id e at id-is whole e-is none =
    (m, at, subst (λ (x : Misfit). IsMisfit g table v k m x) (sym e-is) (id-is, refl, refl, inr (whole, λ n d. none n (subst (λ (x : ℕ). HasKind g m x n) (sym id-is) d))))

pub child_misfit : (g : Graph) (table : List ℕ) (v : ViewParts) (k : ℕ) (m n : Node) (id : ℕ) (e : Misfit) → slice_get v.nodes k ≡ Some m → id ≡ slice_index v.ids k → (IsFree v k m → ⊥) → HasKind g m id n → IsOtherChild table v.ids id m n e → HasMisfitAt g table v k e
child_misfit g table v k m n id (Definition node seen now) at id-is whole d o = absurd o
child_misfit g table v k m n id (Child node child seen now) at id-is whole d o =
    (m, at, (whole, (n, subst (λ (x : ℕ). HasKind g m x n) id-is d, (o.0 ∙ id-is, o.1, o.2, o.3, o.4, o.5))))

-- a graph has each node at one place
pub one_place : (ns : List Node) (x y : ℕ) (n : Node) → NoRepeats ns → slice_get ns x ≡ Some n → slice_get ns y ≡ Some n → x ≡ y
one_place ns x y n once at there = elim (cases_lt x y) [
  | inl lt ↦ absurd (once x y n lt (slice_get_within ns y n there) (get_or_from_slice_get ns x n n at ∙ sym (get_or_from_slice_get ns y n n there)))
  | inr ge ↦ elim (cases_lt y x) [
    | inl lt ↦ absurd (once y x n lt (slice_get_within ns x n at) (get_or_from_slice_get ns y n n there ∙ sym (get_or_from_slice_get ns x n n at)))
    | inr ge2 ↦ omega (arith, ge, ge2)
  ]
]

pub free_there : (v : ViewParts) (k : ℕ) (m : Node) → IsView v → slice_get v.nodes k ≡ Some m → (w : ℕ) × (i : ℕ) × (m ≡ Leaf w i) × (v.leaves ≤ i) → HasFree v
free_there v k m is at (w, i, e, le) =
    let there : slice_get v.nodes k ≡ Some (Leaf w i) = at ∙ ap (λ (o : Node). let p : Option Node = Some o in p) e in
    record {
      place = k;
      width = w;
      index = i;
      at = there;
      past = elim (is.leaf_in k w i there) [
        | inl lt ↦ absurd (omega (arith, lt, le))
        | inr q ↦ sym q
      ];
    }
