use Rattle.std.proofs.Common.{◌≡◌, drop}
use Rattle.job_meaning.specs.Jobs.{are_numbers}
use Rattle.job_meaning.proofs.shown.are_numbers.Given as goal

abbrev pub invariant-loop-at : goal.invariant-loop-at
invariant-loop-at l = are_numbers (drop l.at l.words) (drop l.at l.numbers) ≡ are_numbers l.words l.numbers
