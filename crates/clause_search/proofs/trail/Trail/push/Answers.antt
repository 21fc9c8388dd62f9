use Rattle.std.proofs.Common.{arith}
use Rattle.clause_search.proofs.Paths.{IsTrail-push}
use Rattle.clause_search.proofs.trail.Trail.push.Goals as goal

pub invariant_of-self-in-Ok : goal.invariant_of-self-in-Ok
invariant_of-self-in-Ok c = record { is_trail = rw (c.in_ok-push.ensures.items, c.in-Ok.ensures.items, c.var-at.ensures.value) (IsTrail-push c.args.self.now.path.items c.args.self.now.reasons.items c.args.self.now.starts.items c.args.self.now.places.items c.args.l c.args.reason c.len-n.result c.args.self.now.is_trail c.requires.inside c.requires.free (omega (arith, c.args.self.now.path.ok.0, c.len-n.ensures))) }
