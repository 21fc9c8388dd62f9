use Rattle.std.specs.Prelude.{slice_index}
use Rattle.std.proofs.Common.{refl}
use Rattle.word_check.specs.ExclusiveOrs.{xor_total}
use Rattle.word_check.proofs.ExclusiveOrLaws.{both_traded}
use Rattle.word_check.proofs.exclusive_ors.trade_both.Goals as goal

pub returns-clause-kept : goal.returns-clause-kept
returns-clause-kept c = λ on vs. both_traded (xor_total c.args.xors.now vs) (slice_index vs c.args.place) (slice_index vs c.args.a.0) (slice_index vs c.args.b.0) _ _ _ (c.if-not-toggle.ensures.toggles refl vs) (c.if-not-toggle-2.ensures.toggles refl vs) (c.toggle-3.ensures.toggles on vs)
