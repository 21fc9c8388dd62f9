use Rattle.bit_blaster.proofs.Folding.{known_by}
use Rattle.bit_blaster.proofs.gates.known.Goals as goal

pub returns : goal.returns
returns c = known_by c.related.result c.constant.result c.args.l c.constant.ensures c.related.ensures
