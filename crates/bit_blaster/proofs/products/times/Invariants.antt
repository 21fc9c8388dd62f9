use Rattle.bit_blaster.proofs.ProductLemmas.{IsSummed}
use Rattle.bit_blaster.proofs.products.times.Given as goal

abbrev pub invariant-loop-i : goal.invariant-loop-i
invariant-loop-i l = IsSummed l.initial.f l.f l.xs l.ys l.i l.sum.items
