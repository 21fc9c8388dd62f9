-- Nothing is added, so the pass has the numbers that it had.
use Rattle.std.proofs.Common.{◌∙◌, ap, []}
use Rattle.turn_lock.specs.Entries.{numbers_of}
use Rattle.turn_lock_bench.proofs.Counted.{nothing_added, as_numbered}
use Rattle.turn_lock_bench.proofs.counter.turn.Goals as goal

pub returns-clause-numbers : goal.returns-clause-numbers
returns-clause-numbers g c = let stands = c.enter-held.ensures.value in
    as_numbered [] _ _ (ap (λ p. p.rows) (c.leave.ensures.left [] (stands.0, nothing_added _ _ _ stands.1))) ∙ ap numbers_of c.enter-held.ensures.held.1
