use Rattle.std.proofs.Common.{◌≡◌, ℕ, ◌∙◌, ◌++◌, ◌∷◌, [], ◌-◌, List, length, take, sym, ap, subst, arith}
use Rattle.std.proofs.lemmas.List.{get_or_push}
use Rattle.cnf_clauses.specs.Literal.{Literal}
use Rattle.cnf_clauses.specs.Formula.{Cnf}
use Rattle.cnf_clauses.specs.declared.lit.ClauseId.{ClauseId}
use Rattle.clause_log.specs.Resolution.{IsNew, Step, clause_at, resolvents}
use Rattle.clause_log.specs.Line.{Line, line_from}
use Rattle.clause_log.specs.Log.{clauses_of}
use Rattle.clause_search.specs.Path.{IsClosedFor}
use Rattle.clause_search.specs.Learnt.{IsAsserting, last_start}
use Rattle.clause_search.proofs.Searches.{learnt_is_new}
use Rattle.clause_search.proofs.Learning.{clauses_after}
use Rattle.clause_search.proofs.learn.teach.Goals as goal

pub returns-clause-line : goal.returns-clause-line
returns-clause-line c =
    let log = c.args.log.now in
    let new = c.append.new.log in
    let db : List (List Literal) = clauses_of log in
    let t = c.args.trail.now in
    let d = c.in_ok-lesson.lesson.derivation in
    let u : Literal = c.in_ok-lesson.lesson.first in
    let b : ℕ = last_start t.starts.items in
    let steps : List Step = d.steps.items in
    let text : List Literal = resolvents db (clause_at db c.args.conflict) steps in
    let line : Line = line_from db d.start steps in
    let text-is : line.clause ≡ text = ap (λ (s : ClauseId). resolvents db (clause_at db s) steps) c.in_ok-lesson.ensures.start in
    let asserting : IsAsserting t.path.items b text u = c.in_ok-lesson.ensures.asserting in
    let e = c.in_ok-id.ensures in
    let below : IsClosedFor (take b t.path.items) db = c.requires.search.closed (length t.starts.items - 1) (omega (arith, c.requires.level)) in
    record {
      line = line;
      items = e.line;
      is_new = subst (IsNew db) (sym text-is) (learnt_is_new db t.path.items t.reasons.items t.starts.items t.places.items b text u t.is_trail below asserting.is_false asserting.others);
    }

pub returns-clause-taught : goal.returns-clause-taught
returns-clause-taught c =
    let log = c.args.log.now in
    let new = c.append.new.log in
    let db : List (List Literal) = clauses_of log in
    let t = c.args.trail.now in
    let d = c.in_ok-lesson.lesson.derivation in
    let u : Literal = c.in_ok-lesson.lesson.first in
    let b : ℕ = last_start t.starts.items in
    let steps : List Step = d.steps.items in
    let text : List Literal = resolvents db (clause_at db c.args.conflict) steps in
    let line : Line = line_from db d.start steps in
    let text-is : line.clause ≡ text = ap (λ (s : ClauseId). resolvents db (clause_at db s) steps) c.in_ok-lesson.ensures.start in
    let asserting : IsAsserting t.path.items b text u = c.in_ok-lesson.ensures.asserting in
    let e = c.in_ok-id.ensures in
    let after : clauses_of new ≡ db ++ line.clause ∷ [] = clauses_after log.formula.clauses new.formula.clauses log.lines new.lines line (ap (λ (f : Cnf). f.clauses) e.formula) e.line in
    let at-id : clause_at (clauses_of new) c.in_ok-id.id ≡ line.clause = ap (λ (cs : List (List Literal)). clause_at cs c.in_ok-id.id) after ∙ get_or_push db line.clause [] c.in_ok-id.id.0 (sym e.id) in
    record {
      id_is = e.id;
      clauses = after ∙ ap (λ (x : List Literal). db ++ x ∷ []) (sym at-id);
      asserting = subst (λ (x : List Literal). IsAsserting t.path.items b x u) (sym (at-id ∙ text-is)) asserting;
    }
