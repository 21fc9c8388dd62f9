use Rattle.std.proofs.Common.{◌≡◌, replicate}
use Rattle.bit_blaster.proofs.words.repeated.Given as goal

abbrev pub invariant-loop-i : goal.invariant-loop-i
invariant-loop-i l = l.out.items ≡ replicate l.i l.l
