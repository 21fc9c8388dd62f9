use Rattle.rewriter.proofs.Likeness.{like_makes}
use Rattle.rewriter.proofs.building.place_no_dearer.Goals as goal

pub returns-clause-makes : goal.returns-clause-makes
returns-clause-makes c = like_makes _ _ _ _ _ c.requires.fits c.requires.like c.in_ok-id.ensures.makes
