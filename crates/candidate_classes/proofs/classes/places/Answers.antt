use Rattle.std.proofs.Common.{◌∙◌}
use Rattle.candidate_classes.proofs.MemberLemmas.{range_next}
use Rattle.candidate_classes.proofs.classes.places.Goals as goal

pub loop-k-preserved : goal.loop-k-preserved
loop-k-preserved c = c.in_ok-push.ensures.items ∙ rw c.loop-k.invariant (range_next c.loop-k.k)
