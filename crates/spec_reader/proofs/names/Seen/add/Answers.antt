use Rattle.std.proofs.Common.{ℕ, List, Bor, ◌∙◌}
use Rattle.std.specs.Str.{bytes_eq}
use Rattle.spec_reader.specs.Names.{is_seen}
use Rattle.spec_reader.proofs.Freshness.{added}
use Rattle.spec_reader.proofs.names.Seen.add.Goals as goal

pub returns : goal.returns
returns c other =
    let q : Bor (List ℕ) = record { ref_ptr = c.args.name.ref_ptr; now = other } in
    c.in_ok-insert.ensures.updates.0 q ∙ added (bytes_eq c.args.name.now other) (is_seen c.args.self.now other)
