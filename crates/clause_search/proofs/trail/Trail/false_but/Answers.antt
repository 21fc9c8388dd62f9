use Rattle.std.proofs.Common.{◌≡◌, ◌<◌, arith, ap, sym, subst, refl, length, take}
use Rattle.std.proofs.lemmas.Bool.{false≢true, not-true, not-false, both_ways}
use Rattle.std.proofs.lemmas.List.{take_all}
use Rattle.cnf_clauses.specs.Literal.{Literal, same_literal}
use Rattle.clause_log.proofs.Resolving.{same_literal-true, same_literal_from}
use Rattle.std.specs.List.{Contains}
use Rattle.clause_search.specs.Path.{AllButFalseIn}
use Rattle.clause_search.proofs.Paths.{all_but_item, item_in}
use Rattle.clause_search.proofs.trail.Trail.false_but.Goals as goal
use Rattle.clause_search.proofs.trail.Trail.false_but.Goals.{else-ne-via-then-ne+else-not-holds_before, else-ne-via-else-ne}

pub holds_before-requires : goal.holds_before-requires
holds_before-requires c =
    let l : Literal = c.l-item.result in
    let room : l.var < length c.args.self.now.places.items = c.requires l (item_in c.args.c.now c.loop-l.l-index l c.loop-l-test.true c.l-item.is) in
    omega (arith, room, ap (λ (m : Literal). m.var) c.opposite.ensures)

pub returns-then-not-holds_before : goal.returns-then-not-holds_before
returns-then-not-holds_before c =
    let l : Literal = c.l-item.result in
    let other : l ≡ c.args.u → ⊥ = (λ same. both_ways (same_literal l c.args.u) (not-true (same_literal l c.args.u) (sym c.if-ne.ensures)) (same_literal_from l c.args.u same)) in (
      (λ no. absurd (false≢true no)),
      (λ all. absurd (both_ways c.holds_before.result c.if-not-holds_before.true (c.holds_before.ensures.1 (subst (Contains (take c.args.n c.args.self.now.path.items)) (sym c.opposite.ensures) (all l (item_in c.args.c.now c.loop-l.l-index l c.loop-l-test.true c.l-item.is) other))))),
    )

pub loop-l-preserved : goal.loop-l-preserved
loop-l-preserved c =
    let l : Literal = c.l-item.result in
    all_but_item (take c.args.n c.args.self.now.path.items) c.args.u c.args.c.now c.loop-l.l-index l c.loop-l-test.true c.l-item.is c.loop-l.invariant
    (λ other. elim c.else-ne.branch [
      | else-ne-via-then-ne+else-not-holds_before w ↦ subst (Contains (take c.args.n c.args.self.now.path.items)) w.opposite.ensures (w.holds_before.ensures.0 w.if-not-holds_before.false)
      | else-ne-via-else-ne w ↦ absurd (other (same_literal-true l c.args.u (not-false (same_literal l c.args.u) (sym w.if-ne.ensures))))
    ])

pub returns : goal.returns
returns c = ((λ _. subst (AllButFalseIn (take c.args.n c.args.self.now.path.items) c.args.u) (take_all c.loop-l.l-index c.args.c.now c.loop-l-test.false) c.loop-l.invariant), (λ _. refl))
