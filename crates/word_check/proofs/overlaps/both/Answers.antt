use Rattle.word_check.proofs.OverlapLaws.{both_parts}
use Rattle.word_check.proofs.overlaps.both.Goals as goal

pub returns : goal.returns
returns c = λ width. both_parts c.args.nodes.now width c.args.term c.args.a c.args.b _ _ _ c.requires.is c.in_ok-place.ensures
