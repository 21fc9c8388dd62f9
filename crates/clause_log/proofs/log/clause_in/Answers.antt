use Rattle.std.proofs.Common.{ℕ, ◌-◌, List, map, ◌∙◌, arith}
use Rattle.std.proofs.lemmas.List.{length-append, length-map}
use Rattle.clause_log.specs.Line.{Line, clause_of}
use Rattle.clause_log.proofs.Logs.{no_line, clause_at_line}
use Rattle.clause_log.proofs.log.clause_in.Goals as goal

pub returns-else-id-count : goal.returns-else-id-count
returns-else-id-count c =
    let fs = c.args.formula.now.clauses in
    let ls : List Line = c.args.lines.now in
    let k : ℕ = c.args.id.0 - c.clauses-count.result in
    c.clause-else-id-count.ensures no_line ∙ clause_at_line fs ls c.args.id.0 k no_line (omega (arith, c.clauses-count.ensures, c.if-id-count.false)) (omega (arith, c.clauses-count.ensures, c.if-id-count.false, c.requires, length-append fs (map clause_of ls), length-map ls clause_of))
