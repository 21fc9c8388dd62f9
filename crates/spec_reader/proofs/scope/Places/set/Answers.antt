use Rattle.std.proofs.Common.{ℕ, List, Bor}
use Rattle.spec_reader.proofs.scope.Places.set.Goals as goal

pub returns-clause-set : goal.returns-clause-set
returns-clause-set c other =
    let q : Bor (List ℕ) = record { ref_ptr = c.args.name.ref_ptr; now = other } in
    c.in_ok-insert.ensures.updates.0 q
