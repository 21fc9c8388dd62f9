use Rattle.std.proofs.Common.{◌≡◌, ◌++◌, ◌∷◌, [], ◌+◌, List, take, ap, sym, ◌∙◌, refl}
use Rattle.std.proofs.lemmas.List.{append-nil, append_assoc, take_more}
use Rattle.cnf_clauses.specs.Literal.{Literal}
use Rattle.clause_log.specs.Resolution.{first_places}
use Rattle.clause_log.proofs.resolvent.add_all.Goals as goal

pub loop-lit-init : goal.loop-lit-init
loop-lit-init c = ((λ xs e. e ∙ ap first_places (sym (append-nil xs))), c.requires.marked, refl)

pub loop-lit-preserved : goal.loop-lit-preserved
loop-lit-preserved c =
    let i = c.loop-lit.lit-index in
    let whole : List Literal = c.args.clause.now in
    let more : take (i + 1) whole ≡ take i whole ++ c.lit-item.result ∷ [] = take_more whole i c.lit-item.result c.loop-lit-test.true ∙ ap (λ (m : Literal). take i whole ++ m ∷ []) (sym c.lit-item.is) in (
      (λ xs e. c.in_ok-add_once.ensures.literals (xs ++ take i whole) (c.loop-lit.invariant.0 xs e) ∙ ap first_places (append_assoc xs (take i whole) (c.lit-item.result ∷ []) ∙ ap (λ (zs : List Literal). xs ++ zs) (sym more))),
      c.in_ok-add_once.ensures.marked,
      c.in_ok-add_once.ensures.size ∙ c.loop-lit.invariant.2,
    )
