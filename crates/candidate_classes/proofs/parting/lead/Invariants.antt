use Rattle.std.proofs.Common.{◌≡◌, ℕ, ◌<◌}
use Rattle.std.specs.Prelude.{slice_index}
use Rattle.std.specs.List.{Contains}
use Rattle.candidate_classes.proofs.parting.lead.Given as goal

abbrev pub invariant-loop-i : goal.invariant-loop-i
invariant-loop-i l = record {
  led : (j : ℕ) → j < l.i → slice_index l.leaders (slice_index l.members j) ≡ slice_index l.members (slice_index l.finer j);
  others : (k : ℕ) → (Contains l.members k → ⊥) → slice_index l.leaders k ≡ slice_index l.initial.leaders k;
}
