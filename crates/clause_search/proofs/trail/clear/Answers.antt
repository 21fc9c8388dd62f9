use Rattle.std.proofs.Common.{◌≡◌, ◌<◌, arith, ap, ◌∙◌, get_or, length, None}
use Rattle.std.proofs.lemmas.List.{length-set}
use Rattle.cnf_clauses.specs.Literal.{Literal}
use Rattle.clause_search.proofs.Paths.{cleared_more, others_more}
use Rattle.clause_search.proofs.trail.clear.Goals as goal

pub loop-l-preserved : goal.loop-l-preserved
loop-l-preserved c =
    let i = c.loop-l.l-index in
    let e : Literal = c.l-item.result in
    let at : c.var.result ≡ (get_or c.args.gone.now i e).var = c.var.ensures.value ∙ ap (λ (m : Literal). m.var) c.l-item.is in
    let room : (get_or c.args.gone.now i e).var < length c.loop-l.places.items = omega (arith, c.requires i e c.loop-l-test.true, c.loop-l.invariant.1) in
    rw at (
      cleared_more c.loop-l.places.items c.args.gone.now i e c.loop-l-test.true room c.loop-l.invariant.0,
      length-set c.loop-l.places.items (get_or c.args.gone.now i e).var None ∙ c.loop-l.invariant.1,
      others_more c.loop-l.places.items c.args.places.now.items c.args.gone.now i e c.loop-l.invariant.2,
    )
