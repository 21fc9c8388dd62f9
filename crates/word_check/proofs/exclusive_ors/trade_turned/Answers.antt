use Rattle.std.proofs.Common.{refl, ℕ, ◌≡◌, subst}
use Rattle.std.specs.Prelude.{slice_index, bit_xor}
use Rattle.word_check.specs.ExclusiveOrs.{xor_all, xor_total}
use Rattle.word_check.proofs.ExclusiveOrLaws.{turned_traded}
use Rattle.word_check.proofs.exclusive_ors.trade_turned.Goals as goal

pub returns-clause-kept : goal.returns-clause-kept
returns-clause-kept c = λ on vs.
    subst (λ (n : ℕ). xor_total c.toggle-2.new.xors vs ≡ bit_xor (bit_xor (xor_total c.args.xors.now vs) (slice_index vs c.args.place)) (bit_xor (slice_index vs c.args.a.0) n)) c.mask.ensures
    (turned_traded c.args.xors.now.constant (xor_all c.args.xors.now.members.items vs) c.mask.result (slice_index vs c.args.place) (slice_index vs c.args.a.0) _ _ (c.if-not-toggle.ensures.toggles refl vs) (c.toggle-2.ensures.toggles on vs))
