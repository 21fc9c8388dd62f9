use Rattle.std.proofs.Common.{◌≡◌, ℕ, ◌<◌, ◌∙◌, List, [], length, get_or, sym, ap, subst}
use Rattle.cnf_clauses.specs.Literal.{Literal}
use Rattle.cnf_clauses.specs.Clause.{HasVariablesBelow}
use Rattle.cnf_clauses.specs.Formula.{Cnf}
use Rattle.clause_log.specs.Log.{clauses_of}
use Rattle.clause_search.proofs.Models.{IsSearch-start}
use Rattle.clause_search.proofs.run.empty_trail.Goals as goal

pub returns-clause-search : goal.returns-clause-search
returns-clause-search c =
    let t = c.in_ok-trail.trail in
    let e = c.in_ok-trail.ensures in
    let db : List (List Literal) = clauses_of c.args.log.now in
    let count : length t.places.items ≡ c.args.log.now.formula.variables = e.places ∙ (c.variables-variables.ensures.value ∙ ap (λ (f : Cnf). f.variables) c.formula.ensures.formula) in
    IsSearch-start db t.path.items t.reasons.items t.starts.items (length t.places.items) e.path e.starts
    (subst (λ (n : ℕ). (k : ℕ) → k < length db → HasVariablesBelow n (get_or db k [])) (sym count) c.formula.ensures.is_log.over)
    (λ k h empty. c.requires (k, h, empty))
