use Rattle.std.proofs.Common.{◌≡◌, ◌<◌, ℕ, get_or}
use Rattle.word_check.proofs.sums.are_zero.Given as goal

abbrev pub invariant-loop-factor : goal.invariant-loop-factor
invariant-loop-factor l = (k : ℕ) → k < l.factor-index → get_or l.factors k 0 ≡ 0
