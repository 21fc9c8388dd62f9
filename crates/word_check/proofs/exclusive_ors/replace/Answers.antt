use Rattle.std.proofs.Common.{ap, ◌∙◌, sym, Option, Some}
use Rattle.dag.specs.declared.node.Node.{Node}
use Rattle.word_check.proofs.ExclusiveOrLaws.{constant_kept, turned_kept, both_kept}
use Rattle.word_check.proofs.exclusive_ors.replace.Goals as goal

pub returns-in-Const-clause-kept : goal.returns-in-Const-clause-kept
returns-in-Const-clause-kept c = λ on. constant_kept c.args.nodes.now c.args.widths.now c.args.xors.now c.trade_constant.new.xors c.args.place c.in-Const.width c.in-Const.value (sym c.node_at.ensures ∙ c.in-Some.is ∙ ap (λ (n : Node). let o : Option Node = Some n in o) c.in-Const.is) (c.trade_constant.ensures.kept on)

pub returns-in-Some-width_at-clause-kept : goal.returns-in-Some-width_at-clause-kept
returns-in-Some-width_at-clause-kept c = λ on. turned_kept c.args.nodes.now c.args.widths.now c.args.xors.now c.trade_turned.new.xors c.args.place c.in-Some-width_at.width c.in-Not.a (sym c.node_at.ensures ∙ c.in-Some.is ∙ ap (λ (n : Node). let o : Option Node = Some n in o) c.in-Not.is) (sym c.width_at.ensures ∙ c.in-Some-width_at.is) (c.trade_turned.ensures.kept on)

pub returns-in-Xor-clause-kept : goal.returns-in-Xor-clause-kept
returns-in-Xor-clause-kept c = λ on. both_kept c.args.nodes.now c.args.widths.now c.args.xors.now c.trade_both.new.xors c.args.place c.in-Xor.a c.in-Xor.b (sym c.node_at.ensures ∙ c.in-Some.is ∙ ap (λ (n : Node). let o : Option Node = Some n in o) c.in-Xor.is) (c.trade_both.ensures.kept on)
