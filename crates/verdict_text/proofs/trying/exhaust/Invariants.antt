use Rattle.std.proofs.Common.{◌≡◌, ◌-◌, ◌^◌}
use Rattle.axe_io.specs.Inputs.{bits_of, number_of, IsInput}
use Rattle.job_meaning.specs.Jobs.{widths_of}
use Rattle.job_meaning.specs.Meant.{meant}
use Rattle.job_meaning.specs.Trying.{tried_from, tried}
use Rattle.verdict_text.proofs.trying.exhaust.Given as goal

abbrev pub invariant-loop-input : goal.invariant-loop-input
invariant-loop-input l = record {
  is_input : IsInput (widths_of (meant l.job)) l.input;
  so_far : tried_from (meant l.job) (2 ^ bits_of (widths_of (meant l.job)) - number_of (widths_of (meant l.job)) l.input) (number_of (widths_of (meant l.job)) l.input) ≡ tried (meant l.job);
}

abbrev pub decreases-loop-input : goal.decreases-loop-input
decreases-loop-input l = 2 ^ bits_of (widths_of (meant l.job)) - number_of (widths_of (meant l.job)) l.input
