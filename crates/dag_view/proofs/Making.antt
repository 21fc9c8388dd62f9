-- What holds of a view that is made.
use Rattle.std.proofs.Common.{◌≡◌, ◌⊎◌, ℕ, ◌+◌, ◌^◌, ◌<◌, ◌≤◌, Bool, true, false, List, [], ◌∷◌, length, take, refl, sym, ◌∙◌, ap, subst, arith, Option, Some, inl, inr}
use Rattle.std.specs.Prelude.{slice_get, slice_index}
use Rattle.std.proofs.lemmas.Bool.Decides.{nat_tests}
use Rattle.std.proofs.lemmas.Option.{slice_get_within, slice_get-get_or, get_or_from_slice_get}
use Rattle.dag.specs.Graph.{Graph, IsGraph, leaves_of, fits_width}
use Rattle.dag.specs.Node.{form, with_children, child_at, when, is_width}
use Rattle.dag.specs.declared.node.Node.{Node}
use Rattle.dag.specs.declared.node.Node.TheVariants.{Leaf}
use Rattle.dag.specs.declared.node.NodeId.{NodeId}
use Rattle.dag.proofs.Reading.{width_reads}
use Rattle.dag.proofs.Replacing.{replaced_width}
use Rattle.bit_blaster.specs.Circuit.{HaveWidths, width_in}
use Rattle.dag_view.specs.View.{ViewParts, IsView, HasParent, IsUnder, IsTableOf, arity, nth_child, bare, Embeds}
use Rattle.dag_view.specs.Made.{IsMade}
use Rattle.dag_view.specs.Under.{AreReady, expands, Among, IsBelow, AreUnder, IsPlacedWhole, AreWidthsOf, IsBySet}
use Rattle.dag_view.specs.declared.expanded.Expanded.{Expanded}
use Rattle.dag_view.proofs.Lists.{among_at, at_among, rising_order, one_rise, rising_short, taken_get}
use Rattle.dag_view.proofs.Positions.{reads_from, replaced_child, replaced_arity, bare_again, shape_free, child_before}
use Rattle.dag_view.proofs.Viewing.{node_at, node_same, one_place, IsGraphLeaf, graph_leaf}

number_same : (x y : ℕ) → Some x ≡ Some y → x ≡ y
number_same x y e = cc

both : (x : Bool) → x ≡ true → x ≡ false → ⊥
both true p q = cc
both false p q = cc

some : (x y : ℕ) → x ≡ y → Some x ≡ Some y
some x y e = ap (λ (z : ℕ). let o : Option ℕ = Some z in o) e

-- nodes under a pair can be placed
pub ready : (g : Graph) (table : List ℕ) (e : Expanded) (a b leaves : ℕ) (ids ws : List ℕ) → IsGraph g → IsTableOf g table → AreUnder g table e a b ids → AreWidthsOf g ids ws → leaves < 2 ^ 31 → AreReady g table e ids ws leaves
ready g table e a b leaves ids ws is t under measured low = record {
  tabled = t;
  inside = under.inside;
  rising = under.rising;
  closed = under.closed;
  measured = measured;
  few = omega (arith, rising_short ids (length g.nodes) under.rising under.inside, is.within, is.small);
  low = low;
}

-- a place of the view is one of the list
pub there : (g : Graph) (table : List ℕ) (e : Expanded) (v : ViewParts) (k : ℕ) (m : Node) → IsMade g table e v → slice_get v.nodes k ≡ Some m → slice_get v.ids k ≡ Some (slice_index v.ids k)
there g table e v k m h at = slice_get-get_or v.ids k 0 (omega (arith, slice_get_within v.nodes k m at, h.size))

pub width_at : (g : Graph) (table : List ℕ) (e : Expanded) (v : ViewParts) (k : ℕ) (m : Node) → IsMade g table e v → slice_get v.nodes k ≡ Some m → slice_get g.widths (slice_index v.ids k) ≡ Some (slice_index v.widths k)
width_at g table e v k m h at = h.measured.each k (slice_index v.ids k) (there g table e v k m h at)

-- the definition of an expanded node
kind_of : (g : Graph) (table ids : List ℕ) (id : ℕ) (m : Node) (p : IsPlacedWhole g table ids id m) → bare p.node ≡ bare m
kind_of g table ids id m p = sym (bare_again p.node (p.first ∷ p.second ∷ p.third ∷ [])) ∙ ap bare (sym p.is)

arity_of : (g : Graph) (table ids : List ℕ) (id : ℕ) (m : Node) (p : IsPlacedWhole g table ids id m) → arity m ≡ arity p.node
arity_of g table ids id m p = ap arity p.is ∙ replaced_arity p.node (p.first ∷ p.second ∷ p.third ∷ [])

-- a child of an expanded node
pub record IsPlacedChild (g : Graph) (table : List ℕ) (v : ViewParts) (k : ℕ) (m : Node) (c i : ℕ) : Type 0 where
  pub retained : (r : ℕ) × (slice_get table c ≡ Some r) × (slice_get v.ids (nth_child m i) ≡ Some r)
  pub before : nth_child m i < k
  pub width : slice_get (take k v.widths) (nth_child m i) ≡ slice_get g.widths c

pub placed_child : (g : Graph) (table : List ℕ) (e : Expanded) (v : ViewParts) (k : ℕ) (m : Node) (i : ℕ) → IsMade g table e v → slice_get v.nodes k ≡ Some m → (p : IsPlacedWhole g table v.ids (slice_index v.ids k) m) → i < arity p.node → IsPlacedChild g table v k m (nth_child p.node i) i
placed_child g table e v k m i h at p lt =
    let c : ℕ = nth_child p.node i in
    let early : c < slice_index v.ids k = child_before g (slice_index v.ids k) p.node i h.graph p.at lt in
    let c-in : c < length table = omega (arith, early, slice_get_within g.nodes _ _ p.at, h.tabled.size) in
    let r : ℕ = slice_index table c in
    let r-is : slice_get table c ≡ Some r = slice_get-get_or table c 0 c-in in
    let placed : slice_get v.ids (nth_child m i) ≡ Some r = p.children i r lt r-is in
    let low : r < slice_index v.ids k = omega (arith, h.tabled.flat.before c r r-is, early) in
    let before : nth_child m i < k = rising_order v.ids (nth_child m i) k r (slice_index v.ids k) h.under.rising placed (there g table e v k m h at) low in
    let inside : nth_child m i < length v.widths = omega (arith, before, slice_get_within v.ids (nth_child m i) r placed, h.measured.size) in
    record {
      retained = (r, r-is, placed);
      before = before;
      width = taken_get k (nth_child m i) v.widths before ∙ slice_get-get_or v.widths (nth_child m i) 0 inside ∙ sym (h.measured.each (nth_child m i) r placed) ∙ h.tabled.widths c r r-is;
    }

-- an expanded leaf is one of the shape's
own_leaf : (g : Graph) (table : List ℕ) (e : Expanded) (v : ViewParts) (k : ℕ) (m : Node) (w i : ℕ) → IsMade g table e v → IsPlacedWhole g table v.ids (slice_index v.ids k) m → m ≡ Leaf w i → IsGraphLeaf g (slice_index v.ids k) w i × (i < v.leaves)
own_leaf g table e v k m w i h p is =
    let l = graph_leaf g (slice_index v.ids k) w i p.node h.graph h.fits p.at (kind_of g table v.ids (slice_index v.ids k) m p ∙ ap bare is) in
    (l, omega (arith, slice_get_within (leaves_of g) i w l.width, h.many))

pub made_embeds : (g : Graph) (table : List ℕ) (e : Expanded) (v : ViewParts) → IsMade g table e v → Embeds g table v
made_embeds g table e v h k m at = elim (h.placed.each k m at) [
  | inl p ↦ (
    p.1.node,
    inl (record {
      stands = record {
        definition = record { at = p.1.at; kind = kind_of g table v.ids (slice_index v.ids k) m p.1; width = width_at g table e v k m h at };
        children = λ i lt.
            let c = placed_child g table e v k m i h at p.1 (subst (λ (x : ℕ). i < x) (arity_of g table v.ids (slice_index v.ids k) m p.1) lt) in
            ap (slice_get table) (get_or_from_slice_get v.ids (nth_child m i) c.retained.0 0 c.retained.2) ∙ h.tabled.flat.itself _ c.retained.0 c.retained.1 ∙ sym c.retained.1;
      };
      own = λ w i is. (own_leaf g table e v k m w i h p.1 is).1;
    }),
  )
  | inr p ↦
      let n = node_at g.nodes (slice_index v.ids k) (h.under.inside _ (among_at v.ids k _ (there g table e v k m h at))) in
      (n.0, inr (record { free = p.1; at = n.1; width = width_at g table e v k m h at }))
]

pub made_widths : (g : Graph) (table : List ℕ) (e : Expanded) (v : ViewParts) → IsMade g table e v → HaveWidths v.nodes v.widths
made_widths g table e v h = record {
  size = omega (arith, h.measured.size, h.size);
  each = λ k m at. elim (h.placed.each k m at) [
    | inl p ↦
        let n : Node = p.1.node in
        let ids : List NodeId = p.1.first ∷ p.1.second ∷ p.1.third ∷ [] in
        let ws : List ℕ = take k v.widths in
        let fits : fits_width g n ≡ Some (slice_index v.widths k) = h.fits _ n p.1.at ∙ width_at g table e v k m h at in
        ap (width_in ws) p.1.is
        ∙ shape_free (leaves_of g) ws (with_children n ids) (slice_index v.widths k)
        (replaced_width (leaves_of g) ws n ids
        ∙ width_reads (leaves_of g) (form n) _ _ _ _ _ _ (reads_from n (λ (i : ℕ). slice_get ws (child_at ids i).0 ≡ slice_get g.widths (nth_child n i)) (λ i lt.
        ap (slice_get ws) (sym (replaced_child n p.1.first p.1.second p.1.third i lt) ∙ ap (λ (o : Node). nth_child o i) (sym p.1.is)) ∙ (placed_child g table e v k m i h at p.1 lt).width))
        ∙ fits)
    | inr p ↦
        let wide = h.graph.wide _ _ (width_at g table e v k m h at) in
        ap (width_in (take k v.widths)) p.1 ∙ named (slice_index v.widths k) wide.0 wide.1
  ];
}
  where
    named : (w : ℕ) → 1 ≤ w → w ≤ 64 → when (is_width w) w ≡ Some w
    named w low high = let t : is_width w ≡ true = grind (arith, nat_tests) in rw t refl

-- a leaf of the view
leaf_cases : (g : Graph) (table : List ℕ) (e : Expanded) (v : ViewParts) (k w i : ℕ) → IsMade g table e v → slice_get v.nodes k ≡ Some (Leaf w i) → (IsGraphLeaf g (slice_index v.ids k) w i × (i < v.leaves)) ⊎ (i ≡ v.leaves + k)
leaf_cases g table e v k w i h at = elim (h.placed.each k (Leaf w i) at) [
  | inl p ↦ inl (own_leaf g table e v k (Leaf w i) w i h p.1 refl)
  | inr p ↦ inr (index w i _ _ p.1)
]
  where
    index : (w i u j : ℕ) → Leaf w i ≡ Leaf u j → i ≡ j
    index w i u j e = cc

pub made_view : (g : Graph) (table : List ℕ) (e : Expanded) (v : ViewParts) → IsMade g table e v → IsView v
made_view g table e v h = record {
  widths = made_widths g table e v h;
  size = sym h.size;
  before = λ k m i at lt. elim (h.placed.each k m at) [
    | inl p ↦ (placed_child g table e v k m i h at p.1 (subst (λ (x : ℕ). i < x) (arity_of g table v.ids (slice_index v.ids k) m p.1) lt)).before
    | inr p ↦ absurd (omega (arith, lt, ap arity p.1))
  ];
  rising = h.under.rising;
  first_at = h.first_at;
  second_at = h.second_at;
  same = number_same _ _ (sym (h.measured.each v.first v.a h.first_at) ∙ h.same ∙ h.measured.each v.second v.b h.second_at);
  leaf_in = λ k w i at. elim (leaf_cases g table e v k w i h at) [
    | inl l ↦ inl l.1
    | inr q ↦ inr q
  ];
  single = λ j k u w i at later. elim (leaf_cases g table e v j u i h at) [
    | inl l ↦ elim (leaf_cases g table e v k w i h later) [
      | inl r ↦
          let width : u ≡ w = number_same u w (sym l.0.width ∙ r.0.width) in
          let here : slice_get g.nodes (slice_index v.ids j) ≡ Some (Leaf w i) = l.0.at ∙ ap (λ (x : ℕ). let o : Option Node = Some (Leaf x i) in o) width in
          let id : slice_index v.ids j ≡ slice_index v.ids k = one_place g.nodes _ _ (Leaf w i) h.graph.distinct here r.0.at in
          one_rise v.ids j k (slice_index v.ids k) h.under.rising (there g table e v j _ h at ∙ some _ _ id) (there g table e v k _ h later)
      | inr q ↦ absurd (omega (arith, l.1, q))
    ]
    | inr q ↦ elim (leaf_cases g table e v k w i h later) [
      | inl r ↦ absurd (omega (arith, r.1, q))
      | inr s ↦ omega (arith, q, s)
    ]
  ];
}

pub made_under : (g : Graph) (table : List ℕ) (e : Expanded) (v : ViewParts) → IsMade g table e v → IsUnder v
made_under g table e v h k lt =
    let m = node_at v.nodes k lt in
    let at : slice_get v.ids k ≡ Some (slice_index v.ids k) = there g table e v k m.0 h m.1 in
    elim (h.under.under (slice_index v.ids k) (among_at v.ids k _ at)) [
      | inl q ↦ inl (one_rise v.ids k v.first v.a h.under.rising (at ∙ some _ _ q) h.first_at)
      | inr o ↦ elim o [
        | inl q ↦ inr (inl (one_rise v.ids k v.second v.b h.under.rising (at ∙ some _ _ q) h.second_at))
        | inr c ↦ inr (inr (parent k (slice_index v.ids k) c.0 at c.1 c.2 c.3))
      ]
    ]
  where
    parent : (k x p : ℕ) → slice_get v.ids k ≡ Some x → Among v.ids p → expands e p ≡ true → IsBelow g table p x → HasParent v.nodes k
    parent k x p at among on below =
        let q = at_among v.ids p among in
        let o = node_at v.nodes q.0 (omega (arith, slice_get_within v.ids q.0 p q.1, h.size)) in
        let id : slice_index v.ids q.0 ≡ p = get_or_from_slice_get v.ids q.0 p 0 q.1 in
        elim (h.placed.each q.0 o.0 o.1) [
          | inl w ↦
              let same : below.node ≡ w.1.node = node_same _ _ (sym below.at ∙ ap (slice_get g.nodes) (sym id) ∙ w.1.at) in
              let i : ℕ = below.retains.0 in
              let lt : i < arity w.1.node = subst (λ (n : Node). i < arity n) same below.retains.1 in
              let retains : slice_get table (nth_child w.1.node i) ≡ Some x = ap (λ (n : Node). slice_get table (nth_child n i)) (sym same) ∙ below.retains.2 in
              let c = placed_child g table e v q.0 o.0 i h o.1 w.1 lt in
              let child : nth_child o.0 i ≡ k = one_rise v.ids _ k x h.under.rising (w.1.children i x lt retains) at in
              record { place = q.0; node = o.0; position = i; later = omega (arith, c.before, child); at = o.1; inside = subst (λ (y : ℕ). i < y) (sym (arity_of g table v.ids (slice_index v.ids q.0) o.0 w.1)) lt; child = child }
          | inr w ↦ absurd (both (expands e p) on (ap (expands e) (sym id) ∙ w.0))
        ]

pub made_by_set : (g : Graph) (table : List ℕ) (e : Expanded) (v : ViewParts) → IsMade g table e v → IsBySet e v
made_by_set g table e v h k m at = (
  λ free. elim (h.placed.each k m at) [
    | inl p ↦ absurd (let l = own_leaf g table e v k m _ _ h p.1 free in omega (arith, l.1))
    | inr p ↦ p.0
  ],
  λ off. elim (h.placed.each k m at) [
    | inl p ↦ absurd (both _ p.0 off)
    | inr p ↦ p.1
  ],
)
