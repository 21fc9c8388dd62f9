use Rattle.clause_log.proofs.Listing.{lines_of-push}
use Rattle.clause_log.proofs.lines.Lines.push.Goals as goal

pub returns-in-Ok-clause-ok : goal.returns-in-Ok-clause-ok
returns-in-Ok-clause-ok c =
    let i = c.self.inside in
    rw (c.push_reserved.ensures.items, c.reserve.ensures.items, c.in_ok-push.ensures.ok, c.in-Ok.ensures.ok, ← c.self.view_is)
    (lines_of-push i.starts.items i.steps i.clauses c.args.start c.args.steps.now c.args.clause.now c.self.invariant.0 c.self.invariant.1)
