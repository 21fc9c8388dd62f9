-- Placing the nodes of a plan in a graph, one after another.
use Rattle.std.proofs.Common.{◌≡◌, ℕ, zero, suc, ◌+◌, ◌*◌, ◌<◌, ◌≤◌, List, [], ◌∷◌, ◌++◌, length, map, get_or, refl, sym, ◌∙◌, ap, subst, arith, Option, Some, None, inl, inr, length-append, take, drop, add-one, set}
use Rattle.std.specs.Prelude.{slice_get, slice_index, slice_index_or, IsSome, unwrap_or}
use Rattle.std.proofs.lemmas.Option.{get_or_from_slice_get}
use Rattle.std.proofs.Math.Seq.{drop-cons}
use Rattle.std.proofs.lemmas.List.{take_more_set, drop_all}
use Rattle.axe_io.specs.Shapes.{ShapeParts, leaf_widths}
use Rattle.dag.specs.declared.node.NodeId.{NodeId}
use Rattle.dag.specs.declared.node.Node.{Node}
use Rattle.dag.specs.declared.value.Word.{Word}
use Rattle.dag.specs.Node.{form, width_by, node_value, kind_charge, word_at, no_node}
use Rattle.dag.specs.Graph.{Graph, Extends, Makes, Costs, fits_width, leaves_of, charge_in}
use Rattle.dag.proofs.Reading.{reads_map, form_reads, value_reads, width_reads, charge_reads}
use Rattle.dag.proofs.Replacing.{replaced_value, replaced_width, replaced_charge}
use Rattle.dag.proofs.Growing.{extends_refl, extends_trans, some_of}
use Rattle.dag.proofs.Lists.{snoc_cases}
use Rattle.bv_rules.specs.declared.plan.PlanId.{PlanId}
use Rattle.bv_rules.specs.declared.plan.PlanId.TheVariants.{Old, New}
use Rattle.bv_rules.specs.declared.plan.PlanNode.{PlanNode}
use Rattle.bv_rules.specs.declared.plan.Plan.{Plan}
use Rattle.bv_rules.specs.Plans.{width_at, value_at, word_at as plan_word, step_child, step_width, step_value, step_charge, plan_widths, plan_values, plan_charge, result_width, steps, Keeps}
use Rattle.rewriter.specs.Building.{resolve, placed, widths_at, values_at, AreInside, IsPlaced}

map_at : (f : NodeId → ℕ) (ids : List NodeId) (i w : ℕ) → slice_get (map f ids) i ≡ Some w → (slice_get ids i ≡ Some (slice_index_or ids i no_node)) × (f (slice_index_or ids i no_node) ≡ w)
map_at f [] i w h = cc
map_at f (x ∷ xs) zero w h = (refl, inner (f x) w h)
  where
    inner : (a b : ℕ) → Some a ≡ Some b → a ≡ b
    inner a b h = cc
map_at f (x ∷ xs) (suc i) w h = map_at f xs i w h

map_index : (f : NodeId → ℕ) (ids : List NodeId) (i : ℕ) (id : NodeId) → slice_get ids i ≡ Some id → slice_index (map f ids) i ≡ f (slice_index_or ids i no_node)
map_index f [] i id h = cc
map_index f (x ∷ xs) zero id h = refl
map_index f (x ∷ xs) (suc i) id h = map_index f xs i id h

map_snoc : (f : NodeId → ℕ) (ids : List NodeId) (id : NodeId) → map f (ids ++ id ∷ []) ≡ map f ids ++ f id ∷ []
map_snoc f [] id = refl
map_snoc f (x ∷ xs) id = ap (λ (rest : List ℕ). f x ∷ rest) (map_snoc f xs id)

-- the node that an id stands for has the width that the plan knows
child_width : (g now : Graph) (ids : List NodeId) (c : PlanId) (w : ℕ) → Extends g now → AreInside now.widths ids → width_at g (widths_at now.widths ids) c ≡ Some w → slice_get now.widths (resolve ids c).0 ≡ Some w
child_width g now ids (Old k) w grows h at = grows.widths k.0 w at
child_width g now ids (New i) w grows h at = let p = map_at (λ (id : NodeId). slice_index now.widths id.0) ids i w at in h i (slice_index_or ids i no_node) p.0 ∙ ap Some p.1

child_same : (g now : Graph) (ids : List NodeId) (c : PlanId) → Extends g now → AreInside now.widths ids → IsSome (width_at g (widths_at now.widths ids) c) → slice_get now.widths (resolve ids c).0 ≡ width_at g (widths_at now.widths ids) c
child_same g now ids c grows h there = let p = some_of (width_at g (widths_at now.widths ids) c) there in child_width g now ids c p.0 grows h p.1 ∙ sym p.1

child_number : (g now : Graph) (ids : List NodeId) (c : PlanId) → Extends g now → AreInside now.widths ids → IsSome (width_at g (widths_at now.widths ids) c) → slice_index now.widths (resolve ids c).0 ≡ unwrap_or (width_at g (widths_at now.widths ids) c) 0
child_number g now ids c grows h there =
    let p = some_of (width_at g (widths_at now.widths ids) c) there in
    get_or_from_slice_get now.widths (resolve ids c).0 p.0 0 (child_width g now ids c p.0 grows h p.1) ∙ sym (ap (λ (o : Option ℕ). unwrap_or o 0) p.1)

abbrev word : ℕ → ℕ → Word
word w v = record { width = w; value = v }

-- and its word
child_word : (g now : Graph) (input values : List ℕ) (ids : List NodeId) (c : PlanId) → Extends g now → AreInside now.widths ids → IsSome (width_at g (widths_at now.widths ids) c) → word_at now.widths values (resolve ids c).0 ≡ plan_word g values (widths_at now.widths ids) (values_at values ids) c
child_word g now input values ids (Old k) grows h there =
    let p = some_of (slice_get g.widths k.0) there in
    let e : slice_index now.widths k.0 ≡ slice_index g.widths k.0 = get_or_from_slice_get now.widths k.0 p.0 0 (grows.widths k.0 p.0 p.1) ∙ sym (get_or_from_slice_get g.widths k.0 p.0 0 p.1) in
    ap (λ (w : ℕ). word w (slice_index values k.0)) e
child_word g now input values ids (New i) grows h there =
    let p = some_of (slice_get (widths_at now.widths ids) i) there in
    let at = map_at (λ (id : NodeId). slice_index now.widths id.0) ids i p.0 p.1 in
    let w : slice_index now.widths (slice_index_or ids i no_node).0 ≡ slice_index (widths_at now.widths ids) i = sym (map_index (λ (id : NodeId). slice_index now.widths id.0) ids i _ at.0) in
    let v : slice_index values (slice_index_or ids i no_node).0 ≡ slice_index (values_at values ids) i = sym (map_index (λ (id : NodeId). slice_index values id.0) ids i _ at.0) in
    ap (λ (u : ℕ). word u (slice_index values (slice_index_or ids i no_node).0)) w ∙ ap (λ (u : ℕ). word (slice_index (widths_at now.widths ids) i) u) v

-- a plan's node that fits has its width over the graph
pub placed_width : (g now : Graph) (ids : List NodeId) (p : PlanNode) → Extends g now → AreInside now.widths ids → IsSome (step_width g (widths_at now.widths ids) p) → fits_width now (placed ids p) ≡ step_width g (widths_at now.widths ids) p
placed_width g now ids p grows h fits =
    replaced_width (leaves_of now) now.widths p.node _
    ∙ ap (λ (s : ShapeParts). width_by (leaf_widths s.params) (form p.node) (slice_get now.widths (resolve ids (step_child p 0)).0) (slice_get now.widths (resolve ids (step_child p 1)).0) (slice_get now.widths (resolve ids (step_child p 2)).0)) grows.shape
    ∙ width_reads (leaves_of g) (form p.node) _ _ _ _ _ _ (reads_map (form p.node) _ _ _ _ _ _ (child_same g now ids (step_child p 0) grows h) (child_same g now ids (step_child p 1) grows h) (child_same g now ids (step_child p 2) grows h) (form_reads (leaves_of g) (form p.node) _ _ _ fits))

-- its value
pub placed_value : (g now : Graph) (input values : List ℕ) (ids : List NodeId) (p : PlanNode) → Extends g now → AreInside now.widths ids → IsSome (step_width g (widths_at now.widths ids) p) → node_value input now.widths values (placed ids p) ≡ step_value g input values (widths_at now.widths ids) (values_at values ids) p
placed_value g now input values ids p grows h fits =
    replaced_value input now.widths values p.node _
    ∙ value_reads input p.node _ _ _ _ _ _ (reads_map (form p.node) _ _ _ _ _ _ (child_word g now input values ids (step_child p 0) grows h) (child_word g now input values ids (step_child p 1) grows h) (child_word g now input values ids (step_child p 2) grows h) (form_reads (leaves_of g) (form p.node) _ _ _ fits))

-- and its charge
pub placed_charge : (g now : Graph) (ids : List NodeId) (p : PlanNode) → Extends g now → AreInside now.widths ids → IsSome (step_width g (widths_at now.widths ids) p) → charge_in now (placed ids p) ≡ step_charge g (widths_at now.widths ids) p
placed_charge g now ids p grows h fits =
    replaced_charge now.widths (unwrap_or (fits_width now (placed ids p)) 0) p.node _
    ∙ ap (λ (o : Option ℕ). kind_charge p.node (unwrap_or o 0) (slice_index now.widths (resolve ids (step_child p 0)).0) (slice_index now.widths (resolve ids (step_child p 1)).0) (slice_index now.widths (resolve ids (step_child p 2)).0)) (placed_width g now ids p grows h fits)
    ∙ charge_reads p.node _ _ _ _ _ _ _ (reads_map (form p.node) _ _ _ _ _ _ (child_number g now ids (step_child p 0) grows h) (child_number g now ids (step_child p 1) grows h) (child_number g now ids (step_child p 2) grows h) (form_reads (leaves_of g) (form p.node) _ _ _ fits))

pub placed_none : (g : Graph) (all : List PlanNode) → IsPlaced g g [] all all
placed_none g all = record {
  grows = extends_refl g;
  inside = λ i id at. absurd (none i id at);
  widths = refl;
  values = λ input values h. refl;
  nodes = omega arith;
  units = omega arith;
}
  where
    none : (i : ℕ) (id : NodeId) → slice_get [] i ≡ Some id → ⊥
    none i id at = cc

first_fits : (g : Graph) (made : List ℕ) (p : PlanNode) (ps : List PlanNode) → IsSome (plan_widths g made (p ∷ ps)) → IsSome (step_width g made p)
first_fits g made p ps h = go (step_width g made p) refl
  where
    go : (o : Option ℕ) → step_width g made p ≡ o → IsSome (step_width g made p)
    go (Some w) e = rw e refl
    go None e = let k = rw e at h in cc

-- the next node fits the graph
pub next_fits : (g now : Graph) (ids : List NodeId) (p : PlanNode) (ps all : List PlanNode) → IsPlaced g now ids (p ∷ ps) all → IsSome (plan_widths g [] all) → IsSome (step_width g (widths_at now.widths ids) p)
next_fits g now ids p ps all h fits = first_fits g (widths_at now.widths ids) p ps (subst (λ (o : Option (List ℕ)). IsSome o) (sym h.widths) fits)

pub placed_fits : (g now : Graph) (ids : List NodeId) (p : PlanNode) (ps all : List PlanNode) → IsPlaced g now ids (p ∷ ps) all → IsSome (plan_widths g [] all) → IsSome (fits_width now (placed ids p))
placed_fits g now ids p ps all h fits =
    let s = next_fits g now ids p ps all h fits in
    subst (λ (o : Option ℕ). IsSome o) (sym (placed_width g now ids p h.grows h.inside s)) s

inside_more : (now new : Graph) (ids : List NodeId) (id : NodeId) (w : ℕ) → Extends now new → AreInside now.widths ids → slice_get new.widths id.0 ≡ Some w → AreInside new.widths (ids ++ id ∷ [])
inside_more now new ids id w grows h at i x there = elim (snoc_cases ids id i x there) [
  | inl p ↦ let q = h i x p.1 in kept x (grows.widths x.0 _ q)
  | inr p ↦ subst (λ (y : NodeId). slice_get new.widths y.0 ≡ Some (slice_index new.widths y.0)) p.1 (at ∙ ap Some (sym (get_or_from_slice_get new.widths id.0 w 0 at)))
]
  where
    kept : (x : NodeId) {v : ℕ} → slice_get new.widths x.0 ≡ Some v → slice_get new.widths x.0 ≡ Some (slice_index new.widths x.0)
    kept x e = e ∙ ap Some (sym (get_or_from_slice_get new.widths x.0 _ 0 e))

widths_kept : (now new : Graph) (ids : List NodeId) → Extends now new → AreInside now.widths ids → widths_at new.widths ids ≡ widths_at now.widths ids
widths_kept now new [] grows h = refl
widths_kept now new (x ∷ xs) grows h =
    let e : slice_index new.widths x.0 ≡ slice_index now.widths x.0 = get_or_from_slice_get new.widths x.0 _ 0 (grows.widths x.0 _ (h 0 x refl)) in
    ap (λ (w : ℕ). w ∷ widths_at new.widths xs) e ∙ ap (λ (rest : List ℕ). slice_index now.widths x.0 ∷ rest) (widths_kept now new xs grows (λ i id at. h (suc i) id at))

-- a node that fits has the same value over a graph that has grown
pub value_grown : (old new : Graph) (n : Node) (input values : List ℕ) → Extends old new → IsSome (fits_width old n) → node_value input new.widths values n ≡ node_value input old.widths values n
value_grown old new n input values grows fits =
    value_reads input n _ _ _ _ _ _ (reads_map (form n) _ _ _ _ _ _ (same _) (same _) (same _) (form_reads (leaves_of old) (form n) _ _ _ fits))
  where
    same : (k : ℕ) → IsSome (slice_get old.widths k) → word_at new.widths values k ≡ word_at old.widths values k
    same k s =
        let p = some_of (slice_get old.widths k) s in
        ap (λ (w : ℕ). word w (slice_index values k)) (get_or_from_slice_get new.widths k p.0 0 (grows.widths k p.0 p.1) ∙ sym (get_or_from_slice_get old.widths k p.0 0 p.1))

widths_step : (g : Graph) (made : List ℕ) (p : PlanNode) (ps : List PlanNode) (w : ℕ) → step_width g made p ≡ Some w → plan_widths g (made ++ w ∷ []) ps ≡ plan_widths g made (p ∷ ps)
widths_step g made p ps w e = rw e refl

-- one node more is placed
pub placed_more : (g now new : Graph) (ids : List NodeId) (id : NodeId) (p : PlanNode) (ps all : List PlanNode) → IsPlaced g now ids (p ∷ ps) all → IsSome (plan_widths g [] all) → Makes now new (placed ids p) id.0 → Costs now new 1 (charge_in now (placed ids p)) → IsPlaced g new (ids ++ id ∷ []) ps all
placed_more g now new ids id p ps all h fits makes costs =
    let s = next_fits g now ids p ps all h fits in
    let w = some_of (step_width g (widths_at now.widths ids) p) s in
    let wide : slice_get new.widths id.0 ≡ Some w.0 = makes.width ∙ placed_width g now ids p h.grows h.inside s ∙ w.1 in
    let made : widths_at new.widths (ids ++ id ∷ []) ≡ widths_at now.widths ids ++ w.0 ∷ [] = map_snoc (λ (x : NodeId). slice_index new.widths x.0) ids id ∙ ap (λ (xs : List ℕ). xs ++ slice_index new.widths id.0 ∷ []) (widths_kept now new ids makes.grows h.inside) ∙ ap (λ (k : ℕ). widths_at now.widths ids ++ k ∷ []) (get_or_from_slice_get new.widths id.0 w.0 0 wide) in
    let number : unwrap_or (step_width g (widths_at now.widths ids) p) 0 ≡ w.0 = ap (λ (o : Option ℕ). unwrap_or o 0) w.1 in
    let left : plan_widths g (widths_at now.widths ids ++ w.0 ∷ []) ps ≡ plan_widths g (widths_at now.widths ids) (p ∷ ps) = widths_step g (widths_at now.widths ids) p ps w.0 w.1 in
    let spent : plan_charge g (widths_at now.widths ids) (p ∷ ps) ≡ step_charge g (widths_at now.widths ids) p + plan_charge g (widths_at now.widths ids ++ w.0 ∷ []) ps = ap (λ (k : ℕ). step_charge g (widths_at now.widths ids) p + plan_charge g (widths_at now.widths ids ++ k ∷ []) ps) number in
    let charge : charge_in now (placed ids p) ≡ step_charge g (widths_at now.widths ids) p = placed_charge g now ids p h.grows h.inside s in
    record {
      grows = extends_trans g now new h.grows makes.grows;
      inside = inside_more now new ids id w.0 makes.grows h.inside wide;
      widths = ap (λ (ws : List ℕ). plan_widths g ws ps) made ∙ left ∙ h.widths;
      values = λ input values hold.
          let before = makes.grows.values input values hold in
          let v : slice_index values id.0 ≡ step_value g input values (widths_at now.widths ids) (values_at values ids) p = makes.value input values hold ∙ front now new ids p makes.grows s h input values ∙ placed_value g now input values ids p h.grows h.inside s in
          let vs : values_at values (ids ++ id ∷ []) ≡ values_at values ids ++ step_value g input values (widths_at now.widths ids) (values_at values ids) p ∷ [] = map_snoc (λ (x : NodeId). slice_index values x.0) ids id ∙ ap (λ (k : ℕ). values_at values ids ++ k ∷ []) v in
          ap (λ (ws : List ℕ). plan_values g input values ws (values_at values (ids ++ id ∷ [])) ps) (made ∙ ap (λ (k : ℕ). widths_at now.widths ids ++ k ∷ []) (sym number))
          ∙ ap (λ (xs : List ℕ). plan_values g input values (widths_at now.widths ids ++ unwrap_or (step_width g (widths_at now.widths ids) p) 0 ∷ []) xs ps) vs
          ∙ h.values input values before;
      nodes = omega (arith, h.nodes, costs.nodes, length-append ids (id ∷ []));
      units = rw made (omega (arith, h.units, costs.units, spent, charge));
    }
  where
    front : (now new : Graph) (ids : List NodeId) (p : PlanNode) → Extends now new → IsSome (step_width g (widths_at now.widths ids) p) → IsPlaced g now ids (p ∷ ps) all → (input values : List ℕ) → node_value input new.widths values (placed ids p) ≡ node_value input now.widths values (placed ids p)
    front now new ids p grows s h input values = value_grown now new (placed ids p) input values grows (subst (λ (o : Option ℕ). IsSome o) (sym (placed_width g now ids p h.grows h.inside s)) s)

child_value : (g now : Graph) (values : List ℕ) (ids : List NodeId) (c : PlanId) (w : ℕ) → width_at g (widths_at now.widths ids) c ≡ Some w → slice_index values (resolve ids c).0 ≡ value_at values (values_at values ids) c
child_value g now values ids (Old k) w at = refl
child_value g now values ids (New i) w at = let p = map_at (λ (id : NodeId). slice_index now.widths id.0) ids i w at in sym (map_index (λ (id : NodeId). slice_index values id.0) ids i _ p.0)

-- a plan whose result has a width has nodes that fit
pub plan_fits : (g : Graph) (n : Node) (p : Plan) → IsSome (fits_width g n) → Keeps g n p → IsSome (plan_widths g [] (steps p))
plan_fits g n p fits k = go (plan_widths g [] (steps p)) (subst (λ (o : Option ℕ). IsSome o) (sym k.sound.width) fits)
  where
    go : (o : Option (List ℕ)) → IsSome (result_width g p.result o) → IsSome o
    go (Some ws) h = refl
    go None h = cc

-- when all nodes are placed, the plan's result is a node of the asked width and value
pub placed_all : (g now : Graph) (n : Node) (p : Plan) (ids : List NodeId) → IsSome (fits_width g n) → Keeps g n p → IsPlaced g now ids [] (steps p) → Makes g now n (resolve ids p.result).0
placed_all g now n p ids fits keeps h =
    let w = some_of (fits_width g n) fits in
    let known : width_at g (widths_at now.widths ids) p.result ≡ Some w.0 = ap (result_width g p.result) h.widths ∙ keeps.sound.width ∙ w.1 in
    record {
      grows = h.grows;
      width = child_width g now ids p.result w.0 h.grows h.inside known ∙ sym w.1;
      value = λ input values hold.
          let before = h.grows.values input values hold in
          child_value g now values ids p.result w.0 known
          ∙ ap (λ (xs : List ℕ). value_at values xs p.result) (h.values input values hold)
          ∙ keeps.value input values before
          ∙ sym (value_grown g now n input values h.grows fits);
    }

-- and at each moment the bounds hold
pub placed_costs : (g now : Graph) (n : Node) (p : Plan) (ids : List NodeId) (todo : List PlanNode) → Keeps g n p → length ids ≤ 16 → IsPlaced g now ids todo (steps p) → Costs g now 16 (4 * charge_in g n)
placed_costs g now n p ids todo keeps few h = record { nodes = omega (arith, h.nodes); units = omega (arith, h.units, keeps.sound.charge) }

pub costs_one : (g now : Graph) (n : Node) → Costs g now 1 (charge_in g n) → Costs g now 16 (4 * charge_in g n)
costs_one g now n h = record { nodes = omega (arith, h.nodes); units = omega (arith, h.units) }

-- the nodes from a place on begin with the one there
pub next_step : (nodes : List PlanNode) (i : ℕ) (d : PlanNode) → i < length nodes → drop i nodes ≡ get_or nodes i d ∷ drop (i + 1) nodes
next_step nodes i d lt = rw (add-one, drop-cons nodes i d) refl

-- what a step that adds nothing more leaves
pub placed_spent : (g now new : Graph) (n : Node) (q : Plan) (ids : List NodeId) (p : PlanNode) (ps : List PlanNode) → IsSome (fits_width g n) → Keeps g n q → length ids < 16 → IsPlaced g now ids (p ∷ ps) (steps q) → Costs now new 1 (charge_in now (placed ids p)) → Costs g new 16 (4 * charge_in g n)
placed_spent g now new n q ids p ps fits keeps few h costs =
    let s = next_fits g now ids p ps (steps q) h (plan_fits g n q fits keeps) in
    let charge : charge_in now (placed ids p) ≡ step_charge g (widths_at now.widths ids) p = placed_charge g now ids p h.grows h.inside s in
    let parts : plan_charge g (widths_at now.widths ids) (p ∷ ps) ≡ step_charge g (widths_at now.widths ids) p + plan_charge g (widths_at now.widths ids ++ unwrap_or (step_width g (widths_at now.widths ids) p) 0 ∷ []) ps = refl in
    record { nodes = omega (arith, h.nodes, costs.nodes); units = omega (arith, h.units, costs.units, keeps.sound.charge, charge, parts) }

-- the loop's state with its next node in sight
pub placed_next : (g now : Graph) (ids : List NodeId) (all : List PlanNode) (i : ℕ) (d : PlanNode) → i < length all → IsPlaced g now ids (drop i all) all → IsPlaced g now ids (get_or all i d ∷ drop (i + 1) all) all
placed_next g now ids all i d lt h = subst (λ (todo : List PlanNode). IsPlaced g now ids todo all) (next_step all i d lt) h

-- and after it, with its place written down
pub placed_written : (g new : Graph) (ids : List NodeId) (all : List PlanNode) (i : ℕ) (id : NodeId) → i < length ids → IsPlaced g new (take i ids ++ id ∷ []) (drop (i + 1) all) all → IsPlaced g new (take (i + 1) (set ids i id)) (drop (i + 1) all) all
placed_written g new ids all i id lt h = subst (λ (xs : List NodeId). IsPlaced g new xs (drop (i + 1) all) all) (sym (take_more_set ids i id lt)) h

-- and at its end
pub placed_end : (g now : Graph) (ids : List NodeId) (all : List PlanNode) (i : ℕ) → length all ≤ i → i ≤ length all → IsPlaced g now (take i ids) (drop i all) all → IsPlaced g now (take (length all) ids) [] all
placed_end g now ids all i ge le h =
    let e : i ≡ length all = omega arith in
    subst (λ (k : ℕ). IsPlaced g now (take k ids) [] all) e (subst (λ (todo : List PlanNode). IsPlaced g now (take i ids) todo all) (drop_all i all ge) h)
