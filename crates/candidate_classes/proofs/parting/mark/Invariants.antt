use Rattle.candidate_classes.proofs.MemberLemmas.{AreMarked}
use Rattle.candidate_classes.proofs.parting.mark.Given as goal

abbrev pub invariant-loop-i : goal.invariant-loop-i
invariant-loop-i l = AreMarked l.leaders l.members l.marks l.i
