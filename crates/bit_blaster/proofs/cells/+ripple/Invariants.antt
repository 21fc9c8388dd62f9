use Rattle.std.proofs.Common.{length}
use Rattle.bit_blaster.proofs.cells.+ripple.Given as goal

abbrev pub decreases-ripple : goal.decreases-ripple
decreases-ripple l = length l.xs.now
