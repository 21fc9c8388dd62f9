use Rattle.std.proofs.Common.{◌≡◌, drop, map, nat_le}
use Rattle.std.specs.List.{find}
use Rattle.clause_log.specs.Missing.{named}
use Rattle.clause_log.proofs.log.first_missing.Given as goal

abbrev pub invariant-loop-step : goal.invariant-loop-step
invariant-loop-step l = find (nat_le l.count) (map named (drop l.step-index l.steps)) ≡ find (nat_le l.count) (map named l.steps)
