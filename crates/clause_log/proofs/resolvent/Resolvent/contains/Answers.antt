use Rattle.std.proofs.Common.{◌≡◌, List, ap, sym, ◌∙◌, arith, false}
use Rattle.std.proofs.lemmas.List.{get_or_read}
use Rattle.cnf_clauses.specs.Literal.{Literal}
use Rattle.clause_log.specs.Resolution.{stands_in}
use Rattle.clause_log.specs.Marks.{Scratch}
use Rattle.clause_log.proofs.Resolving.{stands_in-true, stands_in_from}
use Rattle.clause_log.proofs.resolvent.Resolvent.contains.Goals as goal

pub returns-then-at-len : goal.returns-then-at-len
returns-then-at-len c =
    let i = c.self.inside in
    let same : i.literals.items ≡ c.args.self.now.literals = ap (λ (s : Scratch). s.literals) c.self.view_is in
    let read : c.index.result.now ≡ stands_in c.args.self.now.literals c.args.lit =
    get_or_read i.marks.items c.code-at.result c.index.result.now (omega arith) c.index.ensures false
    ∙ (rw c.code-at.ensures (c.self.invariant.marked.exact c.args.lit (omega arith)) ∙ ap (λ (xs : List Literal). stands_in xs c.args.lit) same) in
    (λ t. stands_in-true c.args.self.now.literals c.args.lit (sym read ∙ t), λ there. read ∙ stands_in_from c.args.self.now.literals c.args.lit there)
