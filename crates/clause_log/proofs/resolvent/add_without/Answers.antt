use Rattle.std.proofs.Common.{◌≡◌, ◌++◌, List, take, get_or, ap, sym, ◌∙◌, refl, length}
use Rattle.std.proofs.lemmas.List.{append-nil}
use Rattle.std.proofs.lemmas.Bool.{not-true, not-false, both_ways}
use Rattle.cnf_clauses.specs.Literal.{Literal, same_literal}
use Rattle.clause_log.specs.Resolution.{first_places, without}
use Rattle.clause_log.proofs.Resolving.{without_from-nil, added, skipped, same_literal-true, same_literal_from}
use Rattle.clause_log.proofs.resolvent.add_without.Goals as goal
use Rattle.clause_log.proofs.resolvent.add_without.Goals.{then-ne+in_ok-add_once, else-ne}

pub loop-lit-init : goal.loop-lit-init
loop-lit-init c = ((λ xs e. e ∙ ap first_places (sym (append-nil xs) ∙ ap (λ (zs : List Literal). xs ++ zs) (sym (without_from-nil c.args.but)))), c.requires.marked, refl)

pub loop-lit-preserved : goal.loop-lit-preserved
loop-lit-preserved c =
    let l : Literal = c.lit-item.result in
    let i = c.loop-lit.lit-index in
    let whole : List Literal = c.args.clause.now in
    let itself : get_or whole i l ≡ l = sym c.lit-item.is in
    let v = c.loop-lit.invariant in (
      (λ xs e. elim c.if-ne.branch [
        | then-ne+in_ok-add_once w ↦ ap (λ o. o.items) w.literals-is ∙ (w.in_ok-add_once.ensures.literals (xs ++ without c.args.but (take i whole)) (v.0 xs e) ∙ ap first_places (added c.args.but l xs whole i c.loop-lit-test.true itself (λ is. both_ways (same_literal l c.args.but) (not-true (same_literal l c.args.but) (sym w.if-ne.ensures)) (same_literal_from l c.args.but is))))
        | else-ne w ↦ ap (λ o. o.items) w.literals-is ∙ (v.0 xs e ∙ ap (λ (zs : List Literal). first_places (xs ++ zs)) (sym (skipped c.args.but l whole i c.loop-lit-test.true itself (same_literal-true l c.args.but (not-false (same_literal l c.args.but) (sym w.if-ne.ensures))))))
      ]),
      elim c.if-ne.branch [
        | then-ne+in_ok-add_once w ↦ rw (w.literals-is, w.marks-is) w.in_ok-add_once.ensures.marked
        | else-ne w ↦ rw (w.literals-is, w.marks-is) v.1
      ],
      elim c.if-ne.branch [
        | then-ne+in_ok-add_once w ↦ ap (λ m. length m.items) w.marks-is ∙ (w.in_ok-add_once.ensures.size ∙ v.2)
        | else-ne w ↦ ap (λ m. length m.items) w.marks-is ∙ v.2
      ],
    )
