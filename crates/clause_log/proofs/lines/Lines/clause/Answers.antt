use Rattle.std.proofs.Common.{◌≡◌, List, [], length, get_or, sym, ◌∙◌, ap, arith}
use Rattle.clause_log.specs.Line.{Line}
use Rattle.clause_log.proofs.Listing.{length-lines_of, text_at}
use Rattle.clause_log.proofs.lines.Lines.clause.Goals as goal

pub row-requires : goal.row-requires
row-requires c =
    let i = c.self.inside in
    let count : length c.args.self.now ≡ length i.starts.items = sym (ap length c.self.view_is) ∙ length-lines_of i.starts.items i.steps i.clauses c.self.invariant.0 c.self.invariant.1 in
    omega (arith, count, c.self.invariant.0, c.self.invariant.1, c.requires)

pub returns : goal.returns
returns c = λ d.
    let i = c.self.inside in
    let count : length c.args.self.now ≡ length i.starts.items = sym (ap length c.self.view_is) ∙ length-lines_of i.starts.items i.steps i.clauses c.self.invariant.0 c.self.invariant.1 in
    c.row.ensures ∙ (text_at i.starts.items i.steps i.clauses c.args.line d [] c.self.invariant.0 c.self.invariant.1 (omega (arith, count, c.requires)) ∙ ap (λ (ls : List Line). (get_or ls c.args.line d).clause) c.self.view_is)
