use Rattle.std.proofs.Common.{ℕ, ◌*◌, [], ◌∙◌, sym, ap}
use Rattle.std.proofs.lemmas.Result.{on_ok_weaker}
use Rattle.clause_log.specs.Marks.{Scratch}
use Rattle.clause_log.proofs.Resolving.{first_places-nil}
use Rattle.clause_log.proofs.Marking.{IsMarked-nil, has_marks}
use Rattle.clause_log.proofs.resolvent.Resolvent.begin.Goals as goal

pub add_all-requires-clause-marked : goal.add_all-requires-clause-marked
add_all-requires-clause-marked c = rw c.clear.ensures.items (IsMarked-nil c.unmark.new.marks.items c.unmark.ensures.marks)

pub add_all-requires-clause-inside : goal.add_all-requires-clause-inside
add_all-requires-clause-inside c = has_marks c.args.self.now.variables c.unmark.new.marks.items c.args.clause.now (c.unmark.ensures.size ∙ (c.self.invariant.size ∙ ap (λ (n : ℕ). 2 * n) (ap (λ (s : Scratch). s.variables) c.self.view_is))) c.requires

pub returns-clause-literals : goal.returns-clause-literals
returns-clause-literals c = on_ok_weaker c.add_all.result (λ all. all [] (c.clear.ensures.items ∙ sym first_places-nil)) c.add_all.ensures.literals
