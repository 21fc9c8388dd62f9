use Rattle.std.proofs.Common.{◌≡◌, ℕ, ◌∙◌, List, None, length, subst, sym, ap, arith}
use Rattle.std.proofs.lemmas.List.{length_push}
use Rattle.cnf_clauses.specs.Literal.{Literal}
use Rattle.clause_log.specs.Log.{clauses_of}
use Rattle.clause_search.specs.Pass.{IsAtRest, AreLists}
use Rattle.clause_search.proofs.Searches.{IsSearch-decide}
use Rattle.clause_search.proofs.Passes.{watching_decide}
use Rattle.clause_search.proofs.run.advance.Goals as goal

pub decide-preserved : goal.decide-preserved
decide-preserved c =
    let db : List (List Literal) = clauses_of c.args.log.now in
    let t = c.propagate_watched.new.trail in
    let w = c.propagate_watched.new.watches in
    let p = c.in_ok-id.ensures in
    let e = c.in_ok-decide-in-Some-pick.ensures in
    let l : Literal = c.in-Some-pick.l in
    let rest : IsAtRest db t.path.items t.starts.items w.pairs.items None = subst (IsAtRest db t.path.items t.starts.items w.pairs.items) c.in-None.is p.at_rest in
    let head-is : c.len-head.result ≡ length t.path.items = omega (arith, c.len-head.ensures, t.path.ok.0) in (
      rw (e.path, e.reasons, e.starts, e.places) (IsSearch-decide db t.path.items t.reasons.items t.starts.items (length t.places.items) l t.is_trail.same_length t.is_trail.inside p.search rest.0),
      subst (λ (k : ℕ). AreLists db k w.pairs.items w.lists.items) (sym e.places) p.lists,
      e.places ∙ (p.places ∙ c.decide.invariant.2),
      omega (arith, head-is, ap length e.path, length_push t.path.items l),
      rw (e.path, e.starts, head-is) (watching_decide db t.path.items t.starts.items w.pairs.items l t.is_trail.inside rest.1),
    )
