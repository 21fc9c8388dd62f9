use Rattle.std.proofs.Common.{◌∙◌, ap, ℕ}
use Rattle.bv_words.specs.Words.{times}
use Rattle.word_check.proofs.OverlapLaws.{one_of_parts}
use Rattle.word_check.proofs.overlaps.one_of.Goals as goal

pub returns : goal.returns
returns c = one_of_parts c.args.nodes.now c.args.width c.args.term c.args.a c.args.b _ _ c.requires.is c.in_ok-place.ensures
    (c.times.ensures.value ∙ ap (λ (n : ℕ). times c.args.width n 2) (c.times-opposite.ensures.value ∙ ap (times c.args.width c.args.term.factor) c.mask.ensures))
