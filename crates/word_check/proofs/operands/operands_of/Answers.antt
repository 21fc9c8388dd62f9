use Rattle.std.proofs.Common.{◌∙◌, length, true, false, length-set}
use Rattle.std.proofs.lemmas.List.{length-replicate}
use Rattle.word_check.proofs.OperandLaws.{alone_operands, operands_kept}
use Rattle.word_check.proofs.operands.operands_of.Goals as goal

pub loop-i-init : goal.loop-i-init
loop-i-init c = rw c.in_ok-members.ensures (record {
  size = length-set _ c.args.place true ∙ length-replicate (length c.args.nodes.now) false;
  operands = alone_operands c.args.nodes.now c.args.joining c.args.place (length c.args.nodes.now) c.requires;
})

pub loop-i-preserved : goal.loop-i-preserved
loop-i-preserved c = record {
  size = c.replace.ensures.size ∙ c.loop-i.invariant.size;
  operands = operands_kept c.args.nodes.now c.args.joining c.args.place _ _ c.loop-i.invariant.operands c.replace.ensures.joined;
}
