use Rattle.std.proofs.Common.{ℕ, List, Bor}
use Rattle.spec_reader.proofs.scope.Places.restore.Goals as goal

pub returns-in-None : goal.returns-in-None
returns-in-None c other =
    let q : Bor (List ℕ) = record { ref_ptr = c.args.name.ref_ptr; now = other } in
    cc (c.in-None.is, c.remove.ensures.updates.0 q)

pub returns-in-Some-get_mut : goal.returns-in-Some-get_mut
returns-in-Some-get_mut c other =
    let q : Bor (List ℕ) = record { ref_ptr = c.args.name.ref_ptr; now = other } in
    cc (c.in-Some.is, ((c.get_mut.follows.holds c.in-Some.before).3 c.requires).0 q)
