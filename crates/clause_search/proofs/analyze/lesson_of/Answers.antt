use Rattle.std.proofs.Common.{◌≡◌, ◌∙◌, List, subst}
use Rattle.cnf_clauses.specs.Literal.{Literal}
use Rattle.cnf_clauses.specs.declared.lit.ClauseId.{ClauseId}
use Rattle.clause_log.specs.Log.{clauses_of}
use Rattle.clause_search.specs.Learnt.{IsLearnt, last_start}
use Rattle.clause_search.proofs.Analysis.{asserted_line}
use Rattle.clause_search.proofs.analyze.lesson_of.Goals as goal

pub begin-requires-clause-over : goal.begin-requires-clause-over
begin-requires-clause-over c = rw c.requires.variables (c.requires.search.over c.args.conflict.0 c.requires.there)

pub returns-clause-asserting : goal.returns-clause-asserting
returns-clause-asserting c =
    let db : List (List Literal) = clauses_of c.args.log.now in
    let t = c.args.trail.now in
    let b = last_start t.starts.items in
    let scratch = c.minimise.new.scratch.literals in
    let steps = c.minimise.new.derivation.steps.items in
    let u : Literal = c.in_ok-first.first in
    let start-is : c.walk_back.new.derivation.start ≡ c.args.conflict = c.in_ok-first.ensures.start ∙ c.in_ok-derivation.ensures.start in
    asserted_line db c.args.conflict t.path.items b scratch steps u (subst (λ (s : ClauseId). IsLearnt db s t.path.items b scratch steps u) start-is c.in_ok-minimise.ensures.learnt)
