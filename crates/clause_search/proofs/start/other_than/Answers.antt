use Rattle.std.proofs.Common.{◌≡◌, List, take, get_or, sym, ◌∙◌, subst, ⊎_elim}
use Rattle.std.specs.List.{Contains}
use Rattle.std.proofs.lemmas.Bool.{not-false}
use Rattle.std.proofs.lemmas.List.{take_all, take_more}
use Rattle.std.proofs.lemmas.List.Elements.{Contains-push_cases}
use Rattle.cnf_clauses.specs.Literal.{Literal, same_literal}
use Rattle.clause_log.proofs.Resolving.{same_literal-true}
use Rattle.clause_search.proofs.start.other_than.Goals as goal

pub loop-l-preserved : goal.loop-l-preserved
loop-l-preserved c = λ m m-in.
    let cl : List Literal = c.args.c.now in
    let i = c.loop-l.l-index in
    let l : Literal = c.l-item.result in
    ⊎_elim (λ before. c.loop-l.invariant m before)
    (λ here. sym here ∙ (sym c.l-item.is ∙ same_literal-true l c.args.first (not-false (same_literal l c.args.first) (sym c.if-ne.ensures))))
    (Contains-push_cases (take i cl) (get_or cl i l) m (subst (λ (zs : List Literal). Contains zs m) (take_more cl i l c.loop-l-test.true) m-in))

pub returns : goal.returns
returns c = subst (λ (zs : List Literal). (m : Literal) → Contains zs m → m ≡ c.args.first) (take_all c.loop-l.l-index c.args.c.now c.loop-l-test.false) c.loop-l.invariant
