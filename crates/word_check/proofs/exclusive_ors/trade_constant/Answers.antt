use Rattle.std.specs.Prelude.{slice_index}
use Rattle.word_check.specs.ExclusiveOrs.{xor_all}
use Rattle.word_check.proofs.ExclusiveOrLaws.{constant_traded}
use Rattle.word_check.proofs.exclusive_ors.trade_constant.Goals as goal

pub returns-clause-kept : goal.returns-clause-kept
returns-clause-kept c = λ on vs. constant_traded c.args.xors.now.constant (xor_all c.args.xors.now.members.items vs) c.args.value (slice_index vs c.args.place) _ (c.toggle.ensures.toggles on vs)
