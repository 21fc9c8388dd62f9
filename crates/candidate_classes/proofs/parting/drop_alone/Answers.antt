use Rattle.std.proofs.Common.{◌∙◌, ℕ, List, sym, subst}
use Rattle.candidate_classes.specs.Partition.{AreParting}
use Rattle.candidate_classes.proofs.MemberLemmas.{AreAllMarked, marked_part}
use Rattle.candidate_classes.proofs.parting.drop_alone.Goals as goal

pub returns-clause-parting : goal.returns-clause-parting
returns-clause-parting c =
    let leaders : List ℕ = c.args.leaders.now in
    let marks : List ℕ = c.mark.new.marks in
    let marked : AreAllMarked leaders c.args.members.now.items marks = subst (λ (xs : List ℕ). AreAllMarked leaders xs marks) c.deref-2.ensures.value c.mark.ensures.led in
    subst (AreParting leaders) (sym c.keep_marked.ensures) (marked_part leaders c.args.members.now.items marks (c.mark.ensures.size ∙ c.unmark.ensures ∙ c.requires.marks) c.requires.parting marked)
