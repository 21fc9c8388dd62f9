use Rattle.std.proofs.Common.{◌≡◌, ℕ, ◌+◌, ◌<◌, ◌≤◌}
use Rattle.std.specs.Prelude.{slice_index}
use Rattle.candidate_classes.specs.Filing.{SameKey, slot, of_places}
use Rattle.candidate_classes.proofs.filing.found.Given as goal

abbrev pub invariant-loop-at : goal.invariant-loop-at
invariant-loop-at l = record {
  low : l.at ≤ l.k;
  there : (j : ℕ) → l.at ≡ j + 1 → (slot (of_places l.leaders l.members) (of_places l.values l.members) j ≡ slot (of_places l.leaders l.members) (of_places l.values l.members) l.k) × (slice_index l.finer j ≡ j);
  covers : (j : ℕ) → j < l.k → slice_index l.finer j ≡ j → SameKey (of_places l.leaders l.members) (of_places l.values l.members) j l.k → j + 1 ≤ l.at;
}

abbrev pub decreases-loop-at : goal.decreases-loop-at
decreases-loop-at l = l.at
