use Rattle.std.proofs.Common.{◌≡◌, ◌∙◌, subst, sym, ap}
use Rattle.cnf_clauses.specs.Clause.{IsMet}
use Rattle.clause_log.specs.Resolution.{clause_at}
use Rattle.clause_log.specs.Log.{ClauseLog, clauses_of, all_clauses, EachFollows}
use Rattle.clause_log.proofs.Logs.{Models-log}
use Rattle.clause_log.proofs.log.Log.clause.Goals as goal

pub returns-clause-sound : goal.returns-clause-sound
returns-clause-sound c = λ v models.
    let log = c.args.self.now in
    let same : clause_at (all_clauses c.self.inside.formula.clauses c.self.inside.lines) c.args.id ≡ clause_at (clauses_of log) c.args.id = ap (λ (l : ClauseLog). clause_at (clauses_of l) c.args.id) c.self.view_is in
    let follows : EachFollows log.formula.clauses log.lines = subst (λ (l : ClauseLog). EachFollows l.formula.clauses l.lines) c.self.view_is c.self.invariant.0.follows in
    subst (IsMet v) (sym (c.clause_in.ensures ∙ same)) (Models-log v log.formula.clauses log.lines follows models c.args.id.0 c.requires)
