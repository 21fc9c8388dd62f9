use Rattle.std.proofs.Common.{◌≡◌, length, sym, ◌∙◌, ap, arith}
use Rattle.clause_log.proofs.Listing.{length-lines_of}
use Rattle.clause_log.proofs.lines.Lines.len.Goals as goal

pub returns : goal.returns
returns c =
    let i = c.self.inside in
    let count : length c.args.self.now ≡ length i.starts.items = sym (ap length c.self.view_is) ∙ length-lines_of i.starts.items i.steps i.clauses c.self.invariant.0 c.self.invariant.1 in
    omega (arith, count, c.len.ensures)
