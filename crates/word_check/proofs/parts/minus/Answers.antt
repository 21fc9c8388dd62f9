use Rattle.std.proofs.Common.{ap, ℕ, ◌∙◌}
use Rattle.bv_words.specs.Words.{times}
use Rattle.word_check.specs.declared.sums.Term.{Term}
use Rattle.word_check.proofs.PartLaws.{neg_parts}
use Rattle.word_check.proofs.parts.minus.Goals as goal

pub returns : goal.returns
returns c = neg_parts _ _ _ c.args.term c.args.a _ _ c.requires.is c.in_ok-wraps.ensures.0 c.in_ok-wraps.ensures.1 c.constant.ensures.constant (ap (λ (k : ℕ). let t : Term = record { factor = k; place = c.args.a.0 } in t) (c.times.ensures.value ∙ ap (times c.args.width c.args.term.factor) c.mask.ensures)) c.constant.ensures.right
