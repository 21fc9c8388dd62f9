use Rattle.std.proofs.Common.{◌≡◌, ◌<◌, arith, ap, sym, subst, length, take, List}
use Rattle.std.proofs.lemmas.Bool.{not-true, not-false, both_ways}
use Rattle.std.proofs.lemmas.List.{take_all}
use Rattle.std.specs.List.{Contains}
use Rattle.cnf_clauses.specs.Literal.{Literal, same_literal}
use Rattle.clause_log.proofs.Resolving.{same_literal-true, same_literal_from}
use Rattle.clause_search.specs.Path.{AllButFalseIn, IsFalseIn}
use Rattle.clause_search.proofs.Paths.{all_but_item, item_in}
use Rattle.clause_search.proofs.watch.open_but.Goals as goal
use Rattle.clause_search.proofs.watch.open_but.Goals.{else-ne-via-then-ne+else-not-holds_before, else-ne-via-else-ne}

pub holds_before-requires : goal.holds_before-requires
holds_before-requires c =
    let l : Literal = c.l-item.result in
    let room : l.var < length c.args.trail.now.places.items = c.requires l (item_in c.args.c.now c.loop-l.l-index l c.loop-l-test.true c.l-item.is) in
    omega (arith, room, ap (λ (m : Literal). m.var) c.opposite.ensures)

pub returns-then-not-holds_before : goal.returns-then-not-holds_before
returns-then-not-holds_before c =
    let path : List Literal = c.args.trail.now.path.items in
    let l : Literal = c.l-item.result in
    let whole : take c.len-count.result path ≡ path = take_all c.len-count.result path (omega (arith, c.len-count.ensures, c.args.trail.now.path.ok.0)) in (
      item_in c.args.c.now c.loop-l.l-index l c.loop-l-test.true c.l-item.is,
      (λ same. both_ways (same_literal l c.args.other) (not-true (same_literal l c.args.other) (sym c.if-ne.ensures)) (same_literal_from l c.args.other same)),
      (λ l-false. both_ways c.holds_before.result c.if-not-holds_before.true (c.holds_before.ensures.1 (subst (Contains (take c.len-count.result path)) (sym c.opposite.ensures) (subst (λ (p : List Literal). IsFalseIn p l) (sym whole) l-false)))),
    )

pub loop-l-preserved : goal.loop-l-preserved
loop-l-preserved c =
    let path : List Literal = c.args.trail.now.path.items in
    let l : Literal = c.l-item.result in
    let whole : take c.len-count.result path ≡ path = take_all c.len-count.result path (omega (arith, c.len-count.ensures, c.args.trail.now.path.ok.0)) in
    all_but_item path c.args.other c.args.c.now c.loop-l.l-index l c.loop-l-test.true c.l-item.is c.loop-l.invariant
    (λ other. elim c.else-ne.branch [
      | else-ne-via-then-ne+else-not-holds_before w ↦ subst (Contains path) w.opposite.ensures (subst (λ (p : List Literal). Contains p w.opposite.result) whole (w.holds_before.ensures.0 w.if-not-holds_before.false))
      | else-ne-via-else-ne w ↦ absurd (other (same_literal-true l c.args.other (not-false (same_literal l c.args.other) (sym w.if-ne.ensures))))
    ])

pub returns : goal.returns
returns c = subst (AllButFalseIn c.args.trail.now.path.items c.args.other) (take_all c.loop-l.l-index c.args.c.now c.loop-l-test.false) c.loop-l.invariant
