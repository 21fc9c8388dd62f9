use Rattle.std.proofs.Common.{◌≡◌, ◌*◌, arith, false, ◌∙◌, ap, List, Bool, get_or, replicate, rules}
use Rattle.cnf_clauses.specs.Literal.{code_of}
use Rattle.std.proofs.lemmas.List.{get_or-replicate}
use Rattle.clause_log.proofs.Marking.{IsMarked-nil}
use Rattle.clause_log.proofs.resolvent.Resolvent.new.Goals as goal

pub invariant_of-result : goal.invariant_of-result
invariant_of-result c =
    let all : c.in_ok-marks.marks.items ≡ replicate (2 * c.args.variables) false = c.in_ok-marks.ensures.items_if_clones_equal (λ y e. search rules) in
    rw c.new.ensures.items record {
      size = omega (arith, c.in_ok-marks.ensures.len);
      marked = IsMarked-nil c.in_ok-marks.marks.items (λ l h. ap (λ (bs : List Bool). get_or bs (code_of l) false) all ∙ get_or-replicate (2 * c.args.variables) (code_of l) false false (omega (arith, h, c.in_ok-marks.ensures.len)));
    }
