use Rattle.std.proofs.Common.{ℕ, ◌≤◌, [], subst}
use Rattle.dag.specs.declared.node.Node.TheVariants.{Leaf}
use Rattle.dag.specs.Graph.{charge_in}
use Rattle.bv_rules.specs.declared.plan.PlanNode.{PlanNode}
use Rattle.rewriter.proofs.Likeness.{one_like_fits, like_one}
use Rattle.rewriter.proofs.building.next_node.Goals as goal

-- what fills a read past the end of a list of a plan's nodes
abbrev none : PlanNode
none = record { node = Leaf 0 0; children = [] }

pub charge_of-requires : goal.charge_of-requires
charge_of-requires c = one_like_fits c.args.dag.now c.args.node c.placed-next.result c.args.plan none c.requires.fits c.requires.keeps c.if-nodes-eq1.true (c.is_first.ensures c.if-is_first.true) c.placed-next.ensures

pub returns-then-charge_of : goal.returns-then-charge_of
returns-then-charge_of c =
    let cheap = subst (λ (k : ℕ). k ≤ charge_in c.args.dag.now c.args.node) c.charge_of.ensures (subst (λ (k : ℕ). c.charge_of.result ≤ k) c.charge_of-then-is_first.ensures c.if-charge_of.true) in
    like_one c.args.dag.now c.args.node c.placed-next.result c.args.plan none c.requires.fits c.requires.keeps c.if-nodes-eq1.true (c.is_first.ensures c.if-is_first.true) c.placed-next.ensures cheap
