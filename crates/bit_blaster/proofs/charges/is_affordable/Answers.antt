use Rattle.std.proofs.Common.{◌≡◌, ◌+◌, ◌<◌, ◌≤◌, ◌∷◌, List, ℕ, length, arith, drop, get_or, add-one, drop-cons, subst, length-drop, refl}
use Rattle.dag.specs.declared.node.Node.{Node}
use Rattle.dag.specs.declared.node.Node.TheVariants.{Leaf}
use Rattle.bit_blaster.specs.Circuit.{units}
use Rattle.bit_blaster.proofs.Charging.{IsSummedTo, summed_next, summed_past, summed_all}
use Rattle.bit_blaster.proofs.charges.is_affordable.Goals as goal

pub returns-then-sum : goal.returns-then-sum
returns-then-sum c =
    let lt : c.loop-node.node-index < length c.args.nodes.now = c.loop-node-test.true in
    let e : drop c.loop-node.node-index c.args.nodes.now ≡ get_or c.args.nodes.now c.loop-node.node-index (Leaf 0 0) ∷ drop (c.loop-node.node-index + 1) c.args.nodes.now = rw add-one (drop-cons c.args.nodes.now c.loop-node.node-index (Leaf 0 0) lt) in
    let at = subst (λ (ns : List Node). IsSummedTo (units c.args.nodes.now) c.loop-node.widths.items c.loop-node.sum ns) e c.loop-node.invariant.summed in
    let past : 16777216 < c.loop-node.sum + c.charge_of.result = omega (arith, c.if-sum.true, c.saturating_add-sum.ensures) in
    let width = rw c.deref.ensures.value at c.width_of-width.ensures in
    let charge = rw c.deref-in-loop-node.ensures.value at c.charge_of.ensures in
    let over : 16777216 < units c.args.nodes.now = summed_past _ _ _ _ _ _ _ at width (subst (λ (k : ℕ). 16777216 < c.loop-node.sum + k) charge past) in
    ((λ no. cc), λ le. absurd (omega (arith, le, over)))

pub loop-node-preserved : goal.loop-node-preserved
loop-node-preserved c =
    let lt : c.loop-node.node-index < length c.args.nodes.now = c.loop-node-test.true in
    let e : drop c.loop-node.node-index c.args.nodes.now ≡ get_or c.args.nodes.now c.loop-node.node-index (Leaf 0 0) ∷ drop (c.loop-node.node-index + 1) c.args.nodes.now = rw add-one (drop-cons c.args.nodes.now c.loop-node.node-index (Leaf 0 0) lt) in
    let at = subst (λ (ns : List Node). IsSummedTo (units c.args.nodes.now) c.loop-node.widths.items c.loop-node.sum ns) e c.loop-node.invariant.summed in
    let width = rw c.deref.ensures.value at c.width_of-width.ensures in
    let charge = rw c.deref-in-loop-node.ensures.value at c.charge_of.ensures in
    let low : c.saturating_add-sum.result ≤ 16777216 = c.if-sum.false in
    let sum : c.saturating_add-sum.result ≡ c.loop-node.sum + c.charge_of.result = omega (arith, c.saturating_add-sum.ensures, low) in
    record { summed = rw (c.in_ok-push.ensures.items, sum, charge) (summed_next _ _ _ _ _ _ at width); low = low }

pub returns : goal.returns
returns c = let total : c.loop-node.sum ≡ units c.args.nodes.now = summed_all _ _ _ _ c.loop-node.invariant.summed (omega (arith, length-drop c.loop-node.node-index c.args.nodes.now, c.loop-node-test.false)) in
    ((λ yes. omega (arith, total, c.loop-node.invariant.low)), λ le. refl)
