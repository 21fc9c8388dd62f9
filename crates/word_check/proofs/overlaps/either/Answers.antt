use Rattle.std.proofs.Common.{◌∙◌, ap}
use Rattle.bv_words.specs.Words.{times}
use Rattle.word_check.proofs.OverlapLaws.{either_parts}
use Rattle.word_check.proofs.overlaps.either.Goals as goal

pub returns : goal.returns
returns c = either_parts c.args.nodes.now c.args.width c.args.term c.args.a c.args.b _ _ c.requires.is c.in_ok-place.ensures (c.times-opposite.ensures.value ∙ ap (times c.args.width c.args.term.factor) c.mask.ensures)
