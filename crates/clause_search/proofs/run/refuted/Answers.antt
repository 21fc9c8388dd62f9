use Rattle.std.proofs.Common.{◌≡◌, ◌∙◌, ◌++◌, ◌∷◌, [], List, sym, ap, subst, arith}
use Rattle.std.specs.List.{Contains}
use Rattle.std.proofs.lemmas.List.Elements.{Contains-push}
use Rattle.cnf_clauses.specs.Literal.{Literal}
use Rattle.cnf_clauses.specs.Formula.{Cnf}
use Rattle.cnf_clauses.specs.declared.lit.ClauseId.{ClauseId}
use Rattle.clause_log.specs.Resolution.{IsNew, Step, clause_at, resolvents}
use Rattle.clause_log.specs.Line.{Line, line_from}
use Rattle.clause_log.specs.Log.{clauses_of, EachIsNew}
use Rattle.clause_search.specs.New.{AddsNew}
use Rattle.clause_search.proofs.Learning.{clauses_after, empty_is_new}
use Rattle.clause_search.proofs.Models.{EachIsNew-more, length-added}
use Rattle.clause_search.proofs.run.refuted.Goals as goal

pub returns : goal.returns
returns c =
    let log = c.args.log in
    let new = c.append.new.log in
    let db : List (List Literal) = clauses_of log in
    let d = c.in_ok-derivation.derivation in
    let steps : List Step = d.steps.items in
    let e = c.in_ok-_id.ensures in
    let line : Line = line_from db d.start steps in
    let empty : line.clause ≡ [] = ap (λ (s : ClauseId). resolvents db (clause_at db s) steps) c.in_ok-derivation.ensures.start ∙ c.in_ok-derivation.ensures.empty in
    let adds : AddsNew log.formula.clauses log.lines new.lines = record { line = line; items = e.line; is_new = subst (IsNew db) (sym empty) (empty_is_new db c.requires.search.some) } in
    let kept : new.formula.clauses ≡ log.formula.clauses = ap (λ (f : Cnf). f.clauses) e.formula in
    let after : clauses_of new ≡ db ++ line.clause ∷ [] = clauses_after log.formula.clauses new.formula.clauses log.lines new.lines line kept e.line in (
      e.formula,
      record {
        few = omega (arith, length-added log.formula.clauses log.lines new.lines adds, c.requires.room);
        follows = c.formula-formula.ensures.is_log.follows;
        new = subst (λ (fs : List (List Literal)). EachIsNew fs new.lines) (sym kept) (EachIsNew-more log.formula.clauses log.lines new.lines c.requires.new adds);
        refutes = subst (λ (zs : List (List Literal)). Contains zs []) (sym after) (subst (λ (x : List Literal). Contains (db ++ x ∷ []) []) (sym empty) (Contains-push db []));
      },
    )
