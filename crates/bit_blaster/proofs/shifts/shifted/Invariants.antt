use Rattle.bit_blaster.proofs.ShiftLemmas.{IsShifted}
use Rattle.bit_blaster.proofs.shifts.shifted.Given as goal

abbrev pub invariant-loop-j : goal.invariant-loop-j
invariant-loop-j l = IsShifted l.initial.f l.f l.left l.xs l.ys l.j l.over l.word.items
