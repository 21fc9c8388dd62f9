use Rattle.std.proofs.Common.{ℕ, ◌+◌, ◌∙◌, List, None, sym, ap, subst, arith}
use Rattle.std.specs.Vec.{vec_len}
use Rattle.std.proofs.lemmas.Bool.{eqb-true}
use Rattle.cnf_clauses.specs.Literal.{Literal}
use Rattle.cnf_clauses.specs.Clause.{Models}
use Rattle.cnf_clauses.specs.Formula.{Cnf}
use Rattle.clause_log.specs.Log.{clauses_of, EachIsNew}
use Rattle.clause_search.specs.Found.{assigned}
use Rattle.clause_search.specs.Pass.{IsDecidedWatched, AreLists}
use Rattle.clause_search.proofs.Paths.{no_level}
use Rattle.clause_search.proofs.Models.{path_is_model, EachIsNew-more, length-added}
use Rattle.clause_search.proofs.run.searched.Goals as goal

pub start_watching-requires-clause-started : goal.start_watching-requires-clause-started
start_watching-requires-clause-started c = c.requires.started

pub returns-in-None : goal.returns-in-None
returns-in-None c =
    let t = c.advance.new.trail in
    let w = c.advance.new.watches in
    let log = c.lines.log in
    let i = c.lines.invariant in
    let a = c.in_ok-advance.ensures in
    let values = c.in_ok-values_of-in-None.field-0 in
    let v = c.in_ok-values_of-in-None.ensures in
    let decided : IsDecidedWatched (clauses_of log) t.path.items t.starts.items t.places.items w.pairs.items None = subst (IsDecidedWatched (clauses_of log) t.path.items t.starts.items t.places.items w.pairs.items) c.in-None.is a.decided in (
      v.count ∙ (a.places ∙ i.4),
      subst (Models (assigned values.items)) (ap (λ (f : Cnf). f.clauses) i.0)
          (path_is_model log.formula.clauses log.lines t.path.items t.reasons.items t.starts.items t.places.items values.items t.is_trail v.values decided.1 a.search.over decided.0),
    )

pub refuted-requires-clause-level : goal.refuted-requires-clause-level
refuted-requires-clause-level c =
    let t = c.advance.new.trail in
    no_level t.starts.items (omega (arith, eqb-true (vec_len t.starts) 0 (sym c.is_empty.ensures ∙ c.if-is_empty.true), t.starts.ok.0))

pub lines-preserved : goal.lines-preserved
lines-preserved c =
    let log = c.lines.log in
    let new = c.learn.new.log in
    let w = c.learn.new.watches in
    let i = c.lines.invariant in
    let a = c.in_ok-advance.ensures in
    let e = c.in_ok-head-in-Some.ensures in
    let r = c.in_ok-head-in-Some-2.ensures in (
      e.formula ∙ i.0,
      length-added log.formula.clauses log.lines new.lines e.line ∙ ap (λ (k : ℕ). k + 1) i.1,
      subst (λ (fs : List (List Literal)). EachIsNew fs new.lines) (sym (ap (λ (f : Cnf). f.clauses) e.formula)) (EachIsNew-more log.formula.clauses log.lines new.lines i.2 e.line),
      r.search,
      r.places ∙ (e.places ∙ (a.places ∙ i.4)),
      e.variables ∙ i.5,
      subst (λ (k : ℕ). AreLists (clauses_of new) k w.pairs.items w.lists.items) (sym r.places) e.lists,
      r.head,
      r.watching,
    )
