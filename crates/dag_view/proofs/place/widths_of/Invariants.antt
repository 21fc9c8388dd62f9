use Rattle.std.proofs.Common.{◌≡◌, ◌<◌, ℕ, Some, length}
use Rattle.std.specs.Prelude.{slice_get, slice_index}
use Rattle.dag_view.proofs.place.widths_of.Given as goal

abbrev pub invariant-loop-id : goal.invariant-loop-id
invariant-loop-id l = record {
  size : length l.widths.items ≡ l.id-index;
  each : (k id : ℕ) → k < l.id-index → slice_get l.ids k ≡ Some id → slice_get l.dag.widths id ≡ Some (slice_index l.widths.items k);
}
