use Rattle.std.proofs.Common.{◌++◌, ◌∷◌, ◌<◌, ℕ, List, length, arith, [], get_or, ⊎_elim, subst, sym, ap}
use Rattle.std.proofs.lemmas.List.{get_or_append_left, get_or_push, length_push}
use Rattle.std.proofs.lemmas.Bool.{cases_lt}
use Rattle.cnf_clauses.specs.Literal.{Literal}
use Rattle.cnf_clauses.specs.Clause.{HasVariablesBelow}
use Rattle.cnf_clauses.specs.Formula.{Cnf}
use Rattle.cnf_clauses.proofs.Variables.{below_from_over}
use Rattle.cnf_clauses.proofs.formula.Formula.add.Goals as goal

over_push : (n : ℕ) (cs : List (List Literal)) (c : List Literal) → ((k : ℕ) → k < length cs → HasVariablesBelow n (get_or cs k [])) → HasVariablesBelow n c → (k : ℕ) → k < length (cs ++ c ∷ []) → HasVariablesBelow n (get_or (cs ++ c ∷ []) k [])
over_push n cs c all here k h =
    ⊎_elim (λ lt. subst (HasVariablesBelow n) (sym (get_or_append_left cs (c ∷ []) [] k lt)) (all k lt))
    (λ ge. subst (HasVariablesBelow n) (sym (get_or_push cs c [] k (omega (arith, length_push cs c)))) here) (cases_lt k (length cs))

pub invariant_of-self-2 : goal.invariant_of-self-2
invariant_of-self-2 c =
    let i = c.self.inside in
    let variables = ap (λ (f : Cnf). f.variables) c.self.view_is in
    let count = ap (λ (f : Cnf). length f.clauses) c.self.view_is in
    rw c.in_ok-push.ensures.ok record {
      few = omega (arith, length_push i.clauses c.args.lits.now, count, c.requires.room);
      small = c.self.invariant.small;
      over = over_push i.variables i.clauses c.args.lits.now c.self.invariant.over (subst (λ (n : ℕ). HasVariablesBelow n c.args.lits.now) (sym variables) (below_from_over c.args.self.now.variables c.args.lits.now c.requires.over));
    }
