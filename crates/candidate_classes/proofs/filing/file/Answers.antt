use Rattle.std.proofs.Common.{arith}
use Rattle.candidate_classes.proofs.MemberLemmas.{of_places_size}
use Rattle.candidate_classes.proofs.Refining.{filed_more, filed_own}
use Rattle.candidate_classes.proofs.filing.file.Goals as goal

pub returns-then-leader-k-clause-filed : goal.returns-then-leader-k-clause-filed
returns-then-leader-k-clause-filed c = filed_own _ _ _ _ _ _ _ _ _ c.slot_of-slot.ensures.is c.head_of-first.ensures (omega (arith, of_places_size c.args.leaders.now c.args.members.now, c.requires.inside)) c.requires.filed c.found-leader.ensures c.if-leader-k.true

pub returns-else-leader-k-clause-filed : goal.returns-else-leader-k-clause-filed
returns-else-leader-k-clause-filed c = filed_more _ _ _ _ _ _ _ _ _ c.slot_of-slot.ensures.is c.head_of-first.ensures (omega (arith, of_places_size c.args.leaders.now c.args.members.now, c.requires.inside)) c.requires.filed c.found-leader.ensures c.if-leader-k.false
