use Rattle.std.proofs.Common.{ℕ, List, Bor}
use Rattle.spec_reader.specs.Forms.{meaning_in}
use Rattle.spec_reader.proofs.Meanings.{inserted}
use Rattle.spec_reader.proofs.meaning.Names.add_new.Goals as goal

pub returns-in_ok-insert-in-None : goal.returns-in_ok-insert-in-None
returns-in_ok-insert-in-None c other =
    let q : Bor (List ℕ) = record { ref_ptr = c.args.name.ref_ptr; now = other } in
    inserted (meaning_in c.args.self.now) c.args.name.now other c.args.meaning _ (cc (c.in-None.is, c.meaning_of.ensures)) (c.in_ok-insert-in-None.ensures.updates.0 q)
