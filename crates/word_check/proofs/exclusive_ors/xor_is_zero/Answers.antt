use Rattle.std.proofs.Common.{refl}
use Rattle.word_check.proofs.ExclusiveOrLaws.{no_xor}
use Rattle.word_check.proofs.exclusive_ors.xor_is_zero.Goals as goal

pub returns : goal.returns
returns c = λ on. no_xor c.args.nodes.now c.args.widths.now c.args.first c.args.second (record { members = c.in_ok-no_members.field-0; constant = 0 }) c.toggle.new.xors c.toggle-2.new.xors c.replace_all.new.xors _ refl c.in_ok-no_members.ensures (c.if-not-toggle.ensures.toggles refl) (c.if-not-toggle-2.ensures.toggles refl) (c.if-not-replace_all.ensures refl) (c.is_zero_xor.ensures on)
