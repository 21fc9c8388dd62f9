use Rattle.std.proofs.Common.{◌≡◌, ◌<◌, ℕ, arith, refl}
use Rattle.dag.specs.declared.node.Node.TheVariants.{Leaf}
use Rattle.dag_view.specs.View.{ViewParts, IsFree}
use Rattle.dag_view.proofs.Positions.{child_before}
use Rattle.dag_view.proofs.Viewing.{free_known, own_known, stands_free, stands_whole, free_misfit, child_misfit, inside}
use Rattle.dag_view.proofs.view.View.stands_at.Goals as goal

pub returns-in-Err-clause-err : goal.returns-in-Err-clause-err
returns-in-Err-clause-err c =
    let v : ViewParts = c.args.self.now in
    let p = c.if-is_free.ensures.free refl in
    let free : IsFree v c.args.k c.seen_at-seen.result.0 = free_known v c.args.k _ p.0 p.1 c.seen_at-seen.ensures.known c.seen_at-seen.ensures.node p.2 (omega (arith, p.3, c.leaves.ensures)) in
    free_misfit c.args.dag.now c.args.table.now v c.args.k _ _ _ c.in-Err.misfit c.seen_at-seen.ensures.node c.seen_at-seen.ensures.id c.seen_at-seen.ensures.width free c.in-Err.ensures.err.0 c.in-Err.ensures.err.1

pub returns-then-is_free-clause-ok : goal.returns-then-is_free-clause-ok
returns-then-is_free-clause-ok c =
    let v : ViewParts = c.args.self.now in
    let p = c.if-is_free.ensures.free refl in
    let free : IsFree v c.args.k c.seen_at-seen.result.0 = free_known v c.args.k _ p.0 p.1 c.seen_at-seen.ensures.known c.seen_at-seen.ensures.node p.2 (omega (arith, p.3, c.leaves.ensures)) in
    stands_free c.args.dag.now c.args.table.now v c.args.k _ _ _ c.known.ensures.graph c.requires.before c.seen_at-seen.ensures.node c.seen_at-seen.ensures.id c.seen_at-seen.ensures.width free c.in_default.ensures.ok

pub same_children-requires-clause-seen : goal.same_children-requires-clause-seen
same_children-requires-clause-seen c =
    rw c.seen_ids.ensures (inside c.args.dag.now c.args.table.now c.args.self.now c.args.k c.seen_at-seen.result.0 c.in-Ok.now _ c.known.ensures.graph c.seen_at-seen.ensures.known c.requires.table.size (λ j o i found lt. child_before c.args.dag.now j o i c.known.ensures.graph found lt) c.requires.before c.seen_at-seen.ensures.node c.in-Ok.ensures.ok).seen

pub same_children-requires-clause-now : goal.same_children-requires-clause-now
same_children-requires-clause-now c =
    (inside c.args.dag.now c.args.table.now c.args.self.now c.args.k c.seen_at-seen.result.0 c.in-Ok.now _ c.known.ensures.graph c.seen_at-seen.ensures.known c.requires.table.size (λ j o i found lt. child_before c.args.dag.now j o i c.known.ensures.graph found lt) c.requires.before c.seen_at-seen.ensures.node c.in-Ok.ensures.ok).now

pub returns-in-Err-same_children-clause-err : goal.returns-in-Err-same_children-clause-err
returns-in-Err-same_children-clause-err c =
    let v : ViewParts = c.args.self.now in
    let own : (w i : ℕ) → c.seen_at-seen.result.0 ≡ Leaf w i → i < v.leaves = λ w i e. omega (arith, c.if-is_free.ensures.own refl w i e, c.leaves.ensures) in
    child_misfit c.args.dag.now c.args.table.now v c.args.k _ _ _ c.in-Err-same_children.misfit c.seen_at-seen.ensures.node c.seen_at-seen.ensures.id (own_known v c.args.k _ own) c.in-Ok.ensures.ok (rw c.seen_ids.ensures at c.in-Err-same_children.ensures.err)

pub returns-clause-ok : goal.returns-clause-ok
returns-clause-ok c =
    let v : ViewParts = c.args.self.now in
    let own : (w i : ℕ) → c.seen_at-seen.result.0 ≡ Leaf w i → i < v.leaves = λ w i e. omega (arith, c.if-is_free.ensures.own refl w i e, c.leaves.ensures) in
    stands_whole c.args.dag.now c.args.table.now v c.args.k _ _ _ c.known.ensures.graph c.known.ensures.fits c.requires.table c.seen_at-seen.ensures.known (λ j o i found lt. child_before c.args.dag.now j o i c.known.ensures.graph found lt) c.requires.before c.seen_at-seen.ensures.node c.seen_at-seen.ensures.id own c.in-Ok.ensures.ok (rw c.seen_ids.ensures at c.in_default-same_children.ensures.ok)
