use Rattle.std.proofs.Common.{◌≡◌, ℕ, ◌*◌, ◌++◌, List, ◌∙◌, sym, ap}
use Rattle.std.proofs.lemmas.Result.{on_ok_weaker}
use Rattle.cnf_clauses.specs.Literal.{Literal, opposite}
use Rattle.clause_log.specs.Resolution.{first_places, without}
use Rattle.clause_log.specs.Marks.{Scratch}
use Rattle.clause_log.proofs.Resolving.{first_places-without, resolvent-is}
use Rattle.clause_log.proofs.Marking.{has_marks}
use Rattle.clause_log.proofs.resolvent.Resolvent.resolve.Goals as goal

pub add_without-requires-clause-inside : goal.add_without-requires-clause-inside
add_without-requires-clause-inside c = has_marks c.args.self.now.variables c.take_out.new.marks.items c.args.clause.now (c.take_out.ensures.size ∙ (c.self.invariant.size ∙ ap (λ (n : ℕ). 2 * n) (ap (λ (s : Scratch). s.variables) c.self.view_is))) c.requires

pub returns-clause-literals : goal.returns-clause-literals
returns-clause-literals c =
    let old : List Literal = c.self.inside.literals.items in
    let p : Literal = c.args.on in
    let seen : old ≡ c.args.self.now.literals = ap (λ (s : Scratch). s.literals) c.self.view_is in
    let base : c.take_out.new.literals.items ≡ first_places (without p old) = c.take_out.ensures.literals ∙ sym (first_places-without p old ∙ ap (without p) c.self.invariant.marked.once) in
    on_ok_weaker c.add_without.result
    (λ all. all (without p old) base
    ∙ (ap (λ (q : Literal). first_places (without p old ++ without q c.args.clause.now)) c.opposite.ensures
    ∙ (ap (λ (zs : List Literal). first_places (without p zs ++ without (opposite p) c.args.clause.now)) seen ∙ sym (resolvent-is p c.args.self.now.literals c.args.clause.now))))
    c.add_without.ensures.literals
