use Rattle.std.proofs.Common.{◌∙◌, sym}
use Rattle.word_check.proofs.OverlapLaws.{overlap_at, overlap_turned}
use Rattle.word_check.proofs.overlaps.has_overlap.Goals as goal

pub returns-then-has_operands : goal.returns-then-has_operands
returns-then-has_operands c = λ on. overlap_at c.args.nodes.now c.args.a c.args.b c.args.place c.in-Some.node (sym c.node_at.ensures ∙ c.in-Some.is) (c.has_operands.ensures c.if-has_operands.true)

pub returns : goal.returns
returns c = λ on. overlap_at c.args.nodes.now c.args.a c.args.b c.args.place c.in-Some.node (sym c.node_at.ensures ∙ c.in-Some.is) (overlap_turned c.args.a c.args.b c.in-Some.node (c.has_operands-2.ensures on))
