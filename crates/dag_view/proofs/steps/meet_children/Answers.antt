use Rattle.std.proofs.Common.{arith, ◌≡◌, Some, ℕ, ap, subst}
use Rattle.dag.specs.declared.node.Children.{Children}
use Rattle.std.specs.Prelude.{slice_get}
use Rattle.dag_view.specs.View.{arity, nth_child}
use Rattle.dag_view.specs.Under.{AddsChildren}
use Rattle.dag_view.proofs.Taking.{adds_none, adds_next}
use Rattle.dag_view.proofs.steps.meet_children.Goals as goal

pub loop-i-init : goal.loop-i-init
loop-i-init g c = record { adds = adds_none _ _ _; kept = λ k x at. at }

pub loop-i-preserved : goal.loop-i-preserved
loop-i-preserved g c =
    let at : slice_get (g.R.Retains.table c.args.table.now) (nth_child c.args.node c.loop-i.i) ≡ Some c.retained_by.result = rw c.children-children.ensures at c.retained_by.ensures in
    record {
      adds = adds_next _ _ _ _ _ _ _ c.loop-i.invariant.adds at c.in_ok-meet.ensures.among;
      kept = λ k x there. c.in_ok-meet.ensures.kept k x (c.loop-i.invariant.kept k x there);
    }

pub returns-clause-adds : goal.returns-clause-adds
returns-clause-adds g c = let e : c.loop-i.i ≡ arity c.args.node = omega (arith, c.loop-i-test.false, c.loop-i.auto.i-end, ap (λ (x : Children). x.count) c.children-children.ensures) in subst (λ (k : ℕ). AddsChildren (g.R.Retains.table c.args.table.now) c.args.node k c.args.met.now.keys c.loop-i.met.keys) e c.loop-i.invariant.adds
