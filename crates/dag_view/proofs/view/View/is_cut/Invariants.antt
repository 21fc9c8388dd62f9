use Rattle.std.proofs.Common.{◌≡◌, ◌<◌, ℕ, Some}
use Rattle.std.specs.Prelude.{slice_get}
use Rattle.dag.specs.declared.node.Node.TheVariants.{Leaf}
use Rattle.dag_view.proofs.view.View.is_cut.Given as goal

abbrev pub invariant-loop-k : goal.invariant-loop-k
invariant-loop-k l = (j w i : ℕ) → j < l.k → slice_get l.self.nodes j ≡ Some (Leaf w i) → i < l.self.leaves
