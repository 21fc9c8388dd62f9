use Rattle.std.proofs.Common.{◌≡◌, ℕ, ◌<◌, [], get_or}
use Rattle.clause_log.specs.Log.{clauses_of}
use Rattle.clause_log.proofs.log.Log.refutes.Given as goal

abbrev pub invariant-loop-k : goal.invariant-loop-k
invariant-loop-k l = (k : ℕ) → k < l.k → get_or (clauses_of l.self) k [] ≡ [] → ⊥
