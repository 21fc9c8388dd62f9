-- Nodes that are like the asked one.
use Rattle.std.proofs.Common.{◌≡◌, ℕ, ◌*◌, ◌≤◌, List, [], ◌∷◌, length, take, get_or, refl, sym, ◌∙◌, ap, subst, arith, Option, Some, None}
use Rattle.std.specs.Prelude.{IsSome}
use Rattle.dag.specs.declared.node.NodeId.{NodeId}
use Rattle.dag.specs.declared.node.Node.{Node}
use Rattle.dag.specs.Node.{node_value}
use Rattle.dag.specs.Graph.{Graph, Makes, Costs, fits_width, charge_in}
use Rattle.bv_rules.specs.declared.plan.PlanId.{PlanId}
use Rattle.bv_rules.specs.declared.plan.PlanId.TheVariants.{New, Old}
use Rattle.bv_rules.specs.declared.plan.PlanNode.{PlanNode}
use Rattle.bv_rules.specs.declared.plan.Plan.{Plan}
use Rattle.bv_rules.specs.Plans.{Keeps, steps, step_width, plan_widths, plan_values, result_width, value_at}
use Rattle.dag.proofs.Growing.{extends_refl}
use Rattle.rewriter.specs.Building.{IsLike, IsPlaced, placed}
use Rattle.rewriter.proofs.Placing.{placed_none, placed_width, placed_value, next_fits, plan_fits, value_grown}

pub like_refl : (g : Graph) (n : Node) → IsLike g n n
like_refl g n = record { width = refl; value = λ input values h. refl; charge = omega arith }

pub like_trans : (g : Graph) (a b c : Node) → IsLike g a b → IsLike g b c → IsLike g a c
like_trans g a b c p q = record {
  width = q.width ∙ p.width;
  value = λ input values h. q.value input values h ∙ p.value input values h;
  charge = omega (arith, p.charge, q.charge);
}

pub like_fits : (g : Graph) (a b : Node) → IsLike g a b → IsSome (fits_width g a) → IsSome (fits_width g b)
like_fits g a b h s = subst (λ (o : Option ℕ). IsSome o) (sym h.width) s

-- what adding the like node makes
pub like_makes : (old new : Graph) (a b : Node) (k : ℕ) → IsSome (fits_width old a) → IsLike old a b → Makes old new b k → Makes old new a k
like_makes old new a b k s h m = record {
  grows = m.grows;
  width = m.width ∙ h.width;
  value = λ input values hold.
      m.value input values hold
      ∙ value_grown old new b input values m.grows (like_fits old a b h s)
      ∙ h.value input values (m.grows.values input values hold)
      ∙ sym (value_grown old new a input values m.grows s);
}

pub like_costs : (old new : Graph) (a b : Node) → IsLike old a b → Costs old new 16 (4 * charge_in old b) → Costs old new 16 (4 * charge_in old a)
like_costs old new a b h c = record { nodes = c.nodes; units = omega (arith, c.units, h.charge) }

pub like_costs_one : (old new : Graph) (a b : Node) → IsLike old a b → Costs old new 1 (charge_in old b) → Costs old new 16 (4 * charge_in old a)
like_costs_one old new a b h c = record { nodes = omega (arith, c.nodes); units = omega (arith, c.units, h.charge) }

one_only : (xs : List PlanNode) (d : PlanNode) → length xs ≡ 1 → xs ≡ get_or xs 0 d ∷ []
one_only [] d e = absurd (omega arith)
one_only (x ∷ []) d e = refl
one_only (x ∷ y ∷ ys) d e = absurd (omega arith)

one_width : (g : Graph) (p : PlanNode) → result_width g (New 0) (plan_widths g [] (p ∷ [])) ≡ step_width g [] p
one_width g p = go (step_width g [] p) refl
  where
    go : (o : Option ℕ) → step_width g [] p ≡ o → result_width g (New 0) (plan_widths g [] (p ∷ [])) ≡ step_width g [] p
    go (Some w) e = rw e refl
    go None e = rw e refl

step_fits : (g : Graph) (n : Node) (q : Plan) (p : PlanNode) → IsSome (fits_width g n) → Keeps g n q → steps q ≡ p ∷ [] → IsSome (step_width g [] p)
step_fits g n q p fits keeps all = next_fits g g [] p [] (p ∷ []) (placed_none g (p ∷ [])) (subst (λ (ps : List PlanNode). IsSome (plan_widths g [] ps)) all (plan_fits g n q fits keeps))

-- the one node of a plan has the width of the node that the plan stands for
pub one_like_width : (g : Graph) (n m : Node) (q : Plan) (d : PlanNode) → IsSome (fits_width g n) → Keeps g n q → length (steps q) ≡ 1 → q.result ≡ New 0 → m ≡ placed [] (get_or (steps q) 0 d) → fits_width g m ≡ fits_width g n
one_like_width g n m q d fits keeps one first is =
    let p : PlanNode = get_or (steps q) 0 d in
    let all : steps q ≡ p ∷ [] = one_only (steps q) d one in
    let start : IsPlaced g g [] (p ∷ []) (p ∷ []) = placed_none g (p ∷ []) in
    ap (fits_width g) is
    ∙ placed_width g g [] p start.grows start.inside (step_fits g n q p fits keeps all)
    ∙ sym (one_width g p)
    ∙ ap (λ (ps : List PlanNode). result_width g (New 0) (plan_widths g [] ps)) (sym all)
    ∙ ap (λ (c : PlanId). result_width g c (plan_widths g [] (steps q))) (sym first)
    ∙ keeps.sound.width

pub one_like_fits : (g : Graph) (n m : Node) (q : Plan) (d : PlanNode) → IsSome (fits_width g n) → Keeps g n q → length (steps q) ≡ 1 → q.result ≡ New 0 → m ≡ placed [] (get_or (steps q) 0 d) → IsSome (fits_width g m)
one_like_fits g n m q d fits keeps one first is = subst (λ (o : Option ℕ). IsSome o) (sym (one_like_width g n m q d fits keeps one first is)) fits

-- and is like it, where it is no dearer
pub like_one : (g : Graph) (n m : Node) (q : Plan) (d : PlanNode) → IsSome (fits_width g n) → Keeps g n q → length (steps q) ≡ 1 → q.result ≡ New 0 → m ≡ placed [] (get_or (steps q) 0 d) → charge_in g m ≤ charge_in g n → IsLike g n m
like_one g n m q d fits keeps one first is cheap =
    let p : PlanNode = get_or (steps q) 0 d in
    let all : steps q ≡ p ∷ [] = one_only (steps q) d one in
    let start : IsPlaced g g [] (p ∷ []) (p ∷ []) = placed_none g (p ∷ []) in
    record {
      width = one_like_width g n m q d fits keeps one first is;
      value = λ input values h.
          ap (node_value input g.widths values) is
          ∙ placed_value g g input values [] p start.grows start.inside (step_fits g n q p fits keeps all)
          ∙ ap (λ (ps : List PlanNode). value_at values (plan_values g input values [] [] ps) (New 0)) (sym all)
          ∙ ap (value_at values (plan_values g input values [] [] (steps q))) (sym first)
          ∙ keeps.value input values h;
      charge = cheap;
    }

pub like_costs_same : (old new : Graph) (a b : Node) → IsLike old a b → Costs old new 1 (charge_in old b) → Costs old new 1 (charge_in old a)
like_costs_same old new a b h c = record { nodes = c.nodes; units = omega (arith, c.units, h.charge) }

-- a plan that adds no node
pub present_makes : (g : Graph) (n : Node) (p : Plan) (id : NodeId) → Keeps g n p → p.count ≡ 0 → p.result ≡ Old id → Makes g g n id.0
present_makes g n p id keeps none is =
    let no_steps : steps p ≡ [] = ap (λ (k : ℕ). take k p.nodes) none in
    record {
      grows = extends_refl g;
      width = sym (ap (λ (ps : List PlanNode). result_width g (Old id) (plan_widths g [] ps)) no_steps)
          ∙ ap (λ (c : PlanId). result_width g c (plan_widths g [] (steps p))) (sym is)
          ∙ keeps.sound.width;
      value = λ input values h.
          sym (ap (λ (ps : List PlanNode). value_at values (plan_values g input values [] [] ps) (Old id)) no_steps)
          ∙ ap (value_at values (plan_values g input values [] [] (steps p))) (sym is)
          ∙ keeps.value input values h;
    }
