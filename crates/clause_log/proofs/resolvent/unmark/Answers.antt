use Rattle.std.proofs.Common.{◌≡◌, ◌<◌, ◌+◌, ◌∙◌, sym, refl, subst, drop, get_or, set, length, true, false, arith}
use Rattle.std.specs.List.{Contains}
use Rattle.std.proofs.lemmas.List.{length-set}
use Rattle.cnf_clauses.specs.Literal.{Literal, code_of}
use Rattle.clause_log.proofs.Resolving.{stands_in-true}
use Rattle.clause_log.proofs.Marking.{unmarked_more, unmarked_all}
use Rattle.clause_log.proofs.resolvent.unmark.Goals as goal

pub loop-lit-init : goal.loop-lit-init
loop-lit-init c = ((λ k k-in e. stands_in-true c.args.literals.now k (sym (c.requires.exact k k-in) ∙ e)), refl)

pub returns-clause-marks : goal.returns-clause-marks
returns-clause-marks c = unmarked_all c.loop-lit.marks.items c.args.literals.now c.loop-lit.lit-index (omega arith) c.loop-lit.invariant.0

pub loop-lit-preserved : goal.loop-lit-preserved
loop-lit-preserved c =
    let i = c.loop-lit.lit-index in
    let gone : get_or c.args.literals.now i c.lit-item.result ≡ c.lit-item.result = sym c.lit-item.is in (
      rw c.code.ensures (subst (λ (m : Literal). (k : Literal) → code_of k < length (set c.loop-lit.marks.items (code_of m) false) → get_or (set c.loop-lit.marks.items (code_of m) false) (code_of k) false ≡ true → Contains (drop (i + 1) c.args.literals.now) k) gone
          (λ k k-in e. unmarked_more c.loop-lit.marks.items c.args.literals.now i c.lit-item.result c.loop-lit-test.true c.loop-lit.invariant.0 k (omega (arith, k-in, length-set c.loop-lit.marks.items (code_of (get_or c.args.literals.now i c.lit-item.result)) false)) e)),
      length-set c.loop-lit.marks.items c.code.result false ∙ c.loop-lit.invariant.1,
    )
