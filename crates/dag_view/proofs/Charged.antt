-- What a view costs: its nodes are nodes of the graph, each once, and none costs more than the one that it stands for.
use Rattle.std.proofs.Common.{◌≡◌, ◌⊎◌, ℕ, zero, suc, ◌+◌, ◌*◌, ◌<◌, ◌≤◌, List, [], ◌∷◌, ◌++◌, length, take, drop, max, refl, sym, ◌∙◌, ap, subst, arith, Option, Some, inl, inr}
use Rattle.std.specs.Prelude.{slice_get, slice_index, unwrap_or}
use Rattle.std.proofs.lemmas.Option.{slice_get_within, slice_get-get_or, get_or_from_slice_get}
use Rattle.dag.specs.Graph.{Graph, graph_charge}
use Rattle.dag.specs.Node.{form, with_children, child_at, children, widest, charge_at, kind_charge, node_charge, charges as graph_charges, first, second, third}
use Rattle.dag.specs.declared.node.Node.{Node}
use Rattle.dag.specs.declared.node.Node.TheVariants.{Leaf, Const, Not, And, Or, Xor, Neg, Plus, Times, Eq, Ult, Slt, Ite, Slice, Cat, Sext, Shl, Shr, Udiv, Urem}
use Rattle.dag.specs.declared.node.NodeId.{NodeId}
use Rattle.dag.proofs.Reading.{charge_reads}
use Rattle.dag.proofs.Replacing.{replaced_charge}
use Rattle.bit_blaster.specs.Circuit.{HaveWidths, width_in, own_width, charge, charges, units}
use Rattle.dag_view.specs.View.{ViewParts, arity, nth_child}
use Rattle.dag_view.specs.Made.{IsMade}
use Rattle.dag_view.specs.Under.{Among, IsRising, IsPlacedWhole}
use Rattle.dag_view.specs.declared.expanded.Expanded.{Expanded}
use Rattle.dag_view.proofs.Lists.{among_at, at_among}
use Rattle.dag_view.proofs.Positions.{reads_from, replaced_child, child_before}
use Rattle.dag_view.proofs.Making.{there, width_at, placed_child, made_widths}
use Rattle.dag_view.proofs.Viewing.{node_at}

-- numbers together
abbrev total : List ℕ → ℕ
total [] = 0
total (x ∷ xs) = x + total xs

-- those from a place on
abbrev total_from : ℕ → List ℕ → ℕ
total_from zero xs = total xs
total_from (suc k) [] = 0
total_from (suc k) (x ∷ xs) = total_from k xs

-- those at some places
abbrev total_at : List ℕ → List ℕ → ℕ
total_at xs [] = 0
total_at xs (i ∷ is) = slice_index xs i + total_at xs is

from_next : (k : ℕ) (xs : List ℕ) → total_from k xs ≡ slice_index xs k + total_from (suc k) xs
from_next zero [] = refl
from_next zero (x ∷ xs) = refl
from_next (suc k) [] = refl
from_next (suc k) (x ∷ xs) = from_next k xs

from_later : (d k : ℕ) (xs : List ℕ) → total_from (d + k) xs ≤ total_from k xs
from_later zero k xs = let e : 0 + k ≡ k = omega arith in subst (λ (n : ℕ). total_from n xs ≤ total_from k xs) (sym e) (omega arith)
from_later (suc d) k xs =
    let e : suc d + k ≡ suc (d + k) = omega arith in
    subst (λ (n : ℕ). total_from n xs ≤ total_from k xs) (sym e) (omega (arith, from_later d k xs, from_next (d + k) xs))

-- numbers at rising places are among all
rising_total : (xs is : List ℕ) (low : ℕ) → IsRising is → ((i : ℕ) → Among is i → low ≤ i) → total_at xs is ≤ total_from low xs
unfolding Among
rising_total xs [] low rises after = omega arith
rising_total xs (i ∷ is) low rises after =
    let rest : total_at xs is ≤ total_from (suc i) xs = rising_total xs is (suc i) (λ j k x y lt p q. rises (suc j) (suc k) x y (omega (arith, lt)) p q) (λ j m. let p = at_among is j m in omega (arith, rises 0 (suc p.0) i j (omega arith) refl p.1)) in
    let high : low ≤ i = after i (inl refl) in
    let d : (n : ℕ) × (i ≡ n + low) = difference low i high in
    let later : total_from i xs ≤ total_from low xs = subst (λ (n : ℕ). total_from n xs ≤ total_from low xs) (sym d.1) (from_later d.0 low xs) in
    omega (arith, rest, later, from_next i xs)
  where
    difference : (a b : ℕ) → a ≤ b → (n : ℕ) × (b ≡ n + a)
    difference zero b le = (b, omega arith)
    difference (suc a) zero le = absurd (omega (arith, le))
    difference (suc a) (suc b) le = let p = difference a b (omega (arith, le)) in (p.0, omega (arith, p.1))

-- what each node of a graph costs, by its place
abbrev costs : List ℕ → List ℕ → List Node → List ℕ
costs all [] ns = []
costs all (w ∷ ws) [] = []
costs all (w ∷ ws) (n ∷ ns) = node_charge all w n ∷ costs all ws ns

costs_total : (all ws : List ℕ) (ns : List Node) → graph_charges all ws ns ≡ total (costs all ws ns)
costs_total all [] ns = refl
costs_total all (w ∷ ws) [] = refl
costs_total all (w ∷ ws) (n ∷ ns) = ap (λ (x : ℕ). node_charge all w n + x) (costs_total all ws ns)

costs_at : (all ws : List ℕ) (ns : List Node) (k w : ℕ) (n : Node) → slice_get ws k ≡ Some w → slice_get ns k ≡ Some n → slice_index (costs all ws ns) k ≡ node_charge all w n
costs_at all [] ns k w n p q = absurd (omega (arith, slice_get_within [] k w p))
costs_at all (v ∷ ws) [] k w n p q = absurd (omega (arith, slice_get_within [] k n q))
costs_at all (v ∷ ws) (m ∷ ns) zero w n p q = here v w m n p q
  where
    here : (v w : ℕ) (m n : Node) → Some v ≡ Some w → Some m ≡ Some n → node_charge all v m ≡ node_charge all w n
    here v w m n p q = cc
costs_at all (v ∷ ws) (m ∷ ns) (suc k) w n p q = costs_at all ws ns k w n p q

-- the least charge of a width
widest_least : (w : ℕ) (xs : List ℕ) → w ≤ widest w xs
widest_least w [] = omega arith
widest_least w (x ∷ xs) = omega (arith, widest_least (max w x) xs)

square_least : (m : ℕ) → 1 ≤ m → m ≤ m * m
square_least zero h = omega arith
square_least (suc m) h = omega (arith, more m (m * suc m))
  where
    more : (a b : ℕ) → a ≤ a + b
    more a b = omega arith

kind_least : (m : ℕ) (n : Node) → 1 ≤ m → 4 * m ≤ charge_at m n
kind_least m (Leaf w i) h = omega arith
kind_least m (Const w v) h = omega arith
kind_least m (Not a) h = omega arith
kind_least m (And a b) h = omega arith
kind_least m (Or a b) h = omega arith
kind_least m (Xor a b) h = omega arith
kind_least m (Neg a) h = omega arith
kind_least m (Plus a b) h = omega arith
kind_least m (Times a b) h = omega (arith, square_least m h)
kind_least m (Eq a b) h = omega arith
kind_least m (Ult a b) h = omega arith
kind_least m (Slt a b) h = omega arith
kind_least m (Ite a b c) h = omega arith
kind_least m (Slice i l a) h = omega arith
kind_least m (Cat a b) h = omega arith
kind_least m (Sext w a) h = omega arith
kind_least m (Shl a b) h = omega arith
kind_least m (Shr a b) h = omega arith
kind_least m (Udiv a b) h = omega (arith, square_least m h)
kind_least m (Urem a b) h = omega (arith, square_least m h)

charge_least : (all : List ℕ) (w : ℕ) (n : Node) → 1 ≤ w → 4 * w ≤ node_charge all w n
charge_least all w n h =
    let xs : List ℕ = take (children n).count (slice_index all (first n) ∷ slice_index all (second n) ∷ slice_index all (third n) ∷ []) in
    omega (arith, widest_least w xs, kind_least (widest w xs) n (omega (arith, h, widest_least w xs)))

-- what each node of a graph costs
abbrev graph_costs : Graph → List ℕ
graph_costs g = costs g.widths g.widths g.nodes

-- an expanded node costs what the graph's does
whole_cost : (g : Graph) (table : List ℕ) (e : Expanded) (v : ViewParts) (k : ℕ) (m : Node) → IsMade g table e v → slice_get v.nodes k ≡ Some m → (p : IsPlacedWhole g table v.ids (slice_index v.ids k) m)
    → node_charge (take k v.widths) (slice_index v.widths k) m ≡ node_charge g.widths (slice_index v.widths k) p.node
whole_cost g table e v k m h at p =
    let ids : List NodeId = p.first ∷ p.second ∷ p.third ∷ [] in
    let ws : List ℕ = take k v.widths in
    let w : ℕ = slice_index v.widths k in
    ap (node_charge ws w) p.is
    ∙ replaced_charge ws w p.node ids
    ∙ charge_reads p.node w _ _ _ _ _ _ (reads_from p.node (λ (i : ℕ). slice_index ws (child_at ids i).0 ≡ slice_index g.widths (nth_child p.node i)) (λ i lt.
    let c = placed_child g table e v k m i h at p lt in
    let place : nth_child m i ≡ (child_at ids i).0 = ap (λ (o : Node). nth_child o i) p.is ∙ replaced_child p.node p.first p.second p.third i lt in
    let early : nth_child p.node i < slice_index v.ids k = child_before g (slice_index v.ids k) p.node i h.graph p.at lt in
    let inside : slice_get g.widths (nth_child p.node i) ≡ Some (slice_index g.widths (nth_child p.node i)) = slice_get-get_or g.widths (nth_child p.node i) 0 (omega (arith, early, slice_get_within g.nodes _ _ p.at, h.graph.size)) in
    ap (slice_index ws) (sym place) ∙ get_or_from_slice_get ws (nth_child m i) (slice_index g.widths (nth_child p.node i)) 0 (c.width ∙ inside)))

-- no node costs more than the one that it stands for
placed_cost : (g : Graph) (table : List ℕ) (e : Expanded) (v : ViewParts) (k : ℕ) (m : Node) → IsMade g table e v → slice_get v.nodes k ≡ Some m → node_charge (take k v.widths) (slice_index v.widths k) m ≤ slice_index (graph_costs g) (slice_index v.ids k)
placed_cost g table e v k m h at =
    let w : ℕ = slice_index v.widths k in
    let id : ℕ = slice_index v.ids k in
    let wide : slice_get g.widths id ≡ Some w = width_at g table e v k m h at in
    elim (h.placed.each k m at) [
      | inl p ↦ omega (arith, whole_cost g table e v k m h at p.1, costs_at g.widths g.widths g.nodes id w p.1.node wide p.1.at)
      | inr p ↦
          let n = node_at g.nodes id (h.under.inside _ (among_at v.ids k _ (there g table e v k m h at))) in
          let free : node_charge (take k v.widths) w m ≡ 4 * w = ap (node_charge (take k v.widths) w) p.1 in
          omega (arith, free, charge_least g.widths w n.0 (h.graph.wide id w wide).0, costs_at g.widths g.widths g.nodes id w n.0 wide n.1)
    ]

take_next : (k : ℕ) (xs : List ℕ) → k < length xs → take k xs ++ slice_index xs k ∷ [] ≡ take (suc k) xs
take_next k [] h = absurd (omega arith)
take_next zero (x ∷ xs) h = refl
take_next (suc k) (x ∷ xs) h = ap (λ (ys : List ℕ). x ∷ ys) (take_next k xs (omega (arith, h)))

-- nodes of these widths from a place on, each of which costs no more than another list says for the place that it stands for
walk_costs : (all xs : List ℕ) (k : ℕ) (nodes : List Node) (ids : List ℕ) → length nodes ≡ length ids → k + length nodes ≤ length all
    → ((j p x : ℕ) (m : Node) → p ≡ k + j → slice_get nodes j ≡ Some m → slice_get ids j ≡ Some x → (width_in (take p all) m ≡ Some (slice_index all p)) × (node_charge (take p all) (slice_index all p) m ≤ slice_index xs x))
    → charges (take k all) nodes ≤ total_at xs ids
unfolding charges
walk_costs all xs k [] ids size within each = omega arith
walk_costs all xs k (n ∷ ns) [] size within each = absurd (omega (arith, size))
walk_costs all xs k (n ∷ ns) (i ∷ is) size within each =
    let here = each 0 k i n (omega arith) refl refl in
    let own : own_width (take k all) n ≡ slice_index all k = ap (λ (o : Option ℕ). unwrap_or o 0) here.0 in
    let next : take k all ++ own_width (take k all) n ∷ [] ≡ take (suc k) all = ap (λ (w : ℕ). take k all ++ w ∷ []) own ∙ take_next k all (omega (arith, within)) in
    let cost : charge (take k all) n ≤ slice_index xs i = subst (λ (w : ℕ). node_charge (take k all) w n ≤ slice_index xs i) (sym own) here.1 in
    let rest : charges (take (suc k) all) ns ≤ total_at xs is = walk_costs all xs (suc k) ns is (omega (arith, size)) (omega (arith, within)) (λ j p x m e a b. each (suc j) p x m (omega (arith, e)) a b) in
    let more : charges (take k all ++ own_width (take k all) n ∷ []) ns ≤ total_at xs is = subst (λ (ws : List ℕ). charges ws ns ≤ total_at xs is) (sym next) rest in
    omega (arith, cost, more)

-- a view's nodes cost no more together than the graph's
pub made_few : (g : Graph) (table : List ℕ) (e : Expanded) (v : ViewParts) → IsMade g table e v → units v.nodes ≤ graph_charge g
made_few g table e v h =
    let widths : HaveWidths v.nodes v.widths = made_widths g table e v h in
    let walked : units v.nodes ≤ total_at (graph_costs g) v.ids = walk_costs v.widths (graph_costs g) 0 v.nodes v.ids h.size (omega (arith, widths.size)) (λ j p x m is a b.
    let same : p ≡ j = omega (arith, is) in
    let id : slice_index v.ids j ≡ x = get_or_from_slice_get v.ids j x 0 b in
    subst (λ (q : ℕ). (width_in (take q v.widths) m ≡ Some (slice_index v.widths q)) × (node_charge (take q v.widths) (slice_index v.widths q) m ≤ slice_index (graph_costs g) x)) (sym same)
    (widths.each j m a, subst (λ (y : ℕ). node_charge (take j v.widths) (slice_index v.widths j) m ≤ slice_index (graph_costs g) y) id (placed_cost g table e v j m h a))) in
    let picked : total_at (graph_costs g) v.ids ≤ total (graph_costs g) = rising_total (graph_costs g) v.ids 0 h.under.rising (λ i m. omega arith) in
    omega (arith, walked, picked, costs_total g.widths g.widths g.nodes)
