-- One entry is added, and the pass keeps its numbers.
use Rattle.std.proofs.Common.{◌∙◌, ap, [], ◌∷◌}
use Rattle.turn_lock.specs.Entries.{numbers_of}
use Rattle.turn_lock_bench.proofs.Counted.{as_numbered, more_added}
use Rattle.turn_lock_bench.proofs.tests.add.Goals as goal

pub returns-clause-numbers : goal.returns-clause-numbers
returns-clause-numbers g c =
    let stands = c.enter-journal.ensures.value in
    let added = (c.least-number.result, c.args.n) ∷ [] in
    as_numbered added _ _
    (ap (λ p. p.rows) (c.leave.ensures.left added (c.with_entry.ensures.name ∙ stands.0, more_added _ _ added _ _ stands.1 c.with_entry.ensures.entries)))
    ∙ ap numbers_of c.enter-journal.ensures.held.1
