use Rattle.candidate_classes.proofs.MemberLemmas.{undivided}
use Rattle.candidate_classes.proofs.classes.undivided.Goals as goal

pub invariant_of-result : goal.invariant_of-result
invariant_of-result c = undivided _ _ _ _ c.args.n c.ranges.n.fits c.in_ok-leaders.ensures c.in_ok-members.ensures c.in_ok-finer.ensures c.in_ok-nexts.ensures
