use Rattle.std.proofs.Common.{◌≡◌, ◌+◌, ◌<◌, ◌∷◌, List, length, arith, drop, get_or, add-one, drop-cons, subst, length-drop, refl}
use Rattle.dag.specs.declared.node.Node.{Node}
use Rattle.dag.specs.declared.node.Node.TheVariants.{Leaf}
use Rattle.bit_blaster.specs.NodeBits.{IsBlastedTo}
use Rattle.bit_blaster.proofs.Blasting.{blasted_none, blasted_more, blasted_all}
use Rattle.bit_blaster.proofs.circuits.blast_affordable.Goals as goal

pub loop-node-init : goal.loop-node-init
loop-node-init c = rw c.in_ok-formula.ensures (blasted_none _ _ _ refl refl c.new-rows.ensures c.requires.fits)

pub loop-node-preserved : goal.loop-node-preserved
loop-node-preserved c =
    let lt : c.loop-node.node-index < length c.args.nodes.now = c.loop-node-test.true in
    let e : drop c.loop-node.node-index c.args.nodes.now ≡ get_or c.args.nodes.now c.loop-node.node-index (Leaf 0 0) ∷ drop (c.loop-node.node-index + 1) c.args.nodes.now = rw add-one (drop-cons c.args.nodes.now c.loop-node.node-index (Leaf 0 0) lt) in
    rw (c.in_ok-push.ensures.ok, c.deref.ensures.value)
    (blasted_more _ _ _ _ _ _ _ (subst (λ (ns : List Node). IsBlastedTo c.loop-node.formula c.loop-node.rows c.args.nodes.now ns) e c.loop-node.invariant) c.in_ok-bits.ensures)

pub returns : goal.returns
returns c = blasted_all _ _ _ _ (omega (arith, length-drop c.loop-node.node-index c.args.nodes.now)) c.requires.some c.loop-node.invariant
