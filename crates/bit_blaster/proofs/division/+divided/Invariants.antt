use Rattle.std.proofs.Common.{length}
use Rattle.bit_blaster.proofs.division.+divided.Given as goal

abbrev pub decreases-divided : goal.decreases-divided
decreases-divided l = length l.xs.now
