use Rattle.std.proofs.Common.{◌≡◌, ℕ, Some}
use Rattle.std.specs.Prelude.{slice_get}
use Rattle.dag_view.specs.Under.{AddsChildren}
use Rattle.dag_view.proofs.steps.meet_children.Given as goal

abbrev pub invariant-loop-i : goal.invariant-loop-i
invariant-loop-i g l = record {
  adds : AddsChildren (g.R.Retains.table l.table) l.fn.node l.i l.initial.met.keys l.met.keys;
  kept : (k x : ℕ) → slice_get l.initial.met.keys k ≡ Some x → slice_get l.met.keys k ≡ Some x;
}
