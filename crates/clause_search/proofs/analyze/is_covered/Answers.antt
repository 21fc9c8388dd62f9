use Rattle.std.proofs.Common.{◌≡◌, List, sym, subst, refl}
use Rattle.std.proofs.lemmas.Bool.{false≢true, not-true, not-false, both_ways}
use Rattle.std.proofs.lemmas.List.{take_all}
use Rattle.cnf_clauses.specs.Literal.{Literal, same_literal}
use Rattle.clause_log.proofs.Resolving.{same_literal-true, same_literal_from}
use Rattle.clause_search.specs.Learnt.{IsCovered}
use Rattle.clause_search.proofs.Paths.{item_in}
use Rattle.clause_search.proofs.Analysis.{covered_item}
use Rattle.clause_search.proofs.analyze.is_covered.Goals as goal
use Rattle.clause_search.proofs.analyze.is_covered.Goals.{else-ne-via-then-ne+else-not-contains, else-ne-via-else-ne}

pub returns-then-not-contains : goal.returns-then-not-contains
returns-then-not-contains c =
    let l : Literal = c.l-item.result in
    let other : l ≡ c.args.follows → ⊥ = (λ same. both_ways (same_literal l c.args.follows) (not-true (same_literal l c.args.follows) (sym c.if-ne.ensures)) (same_literal_from l c.args.follows same)) in (
      (λ no. absurd (false≢true no)),
      (λ all. absurd (both_ways c.contains.result c.if-not-contains.true (c.contains.ensures.1 (all l (item_in c.args.reason.now c.loop-l.l-index l c.loop-l-test.true c.l-item.is) other)))),
    )

pub loop-l-preserved : goal.loop-l-preserved
loop-l-preserved c =
    let l : Literal = c.l-item.result in
    covered_item c.args.scratch.now.literals c.args.reason.now c.args.follows c.loop-l.l-index l c.loop-l-test.true c.l-item.is c.loop-l.invariant
    (λ other. elim c.else-ne.branch [
      | else-ne-via-then-ne+else-not-contains w ↦ w.contains.ensures.0 w.if-not-contains.false
      | else-ne-via-else-ne w ↦ absurd (other (same_literal-true l c.args.follows (not-false (same_literal l c.args.follows) (sym w.if-ne.ensures))))
    ])

pub returns : goal.returns
returns c = ((λ _. subst (λ (zs : List Literal). IsCovered c.args.scratch.now.literals zs c.args.follows) (take_all c.loop-l.l-index c.args.reason.now c.loop-l-test.false) c.loop-l.invariant), (λ _. refl))
