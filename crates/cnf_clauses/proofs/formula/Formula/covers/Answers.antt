use Rattle.std.proofs.Common.{◌≡◌, ℕ, ◌<◌, List, take, get_or, refl, sym, ap, arith, subst, ⊎_elim}
use Rattle.std.specs.List.{Contains}
use Rattle.std.proofs.lemmas.Bool.{false≢true}
use Rattle.std.proofs.lemmas.List.{take_all, take_more}
use Rattle.std.proofs.lemmas.List.Elements.{Contains-push_cases}
use Rattle.cnf_clauses.specs.Literal.{Literal}
use Rattle.cnf_clauses.specs.Clause.{HasVariablesBelow, IsOver}
use Rattle.cnf_clauses.specs.Formula.{Cnf}
use Rattle.cnf_clauses.proofs.Variables.{below_from_over, over_from_below}
use Rattle.cnf_clauses.proofs.formula.Formula.covers.Goals as goal

pub returns-then-var-variables : goal.returns-then-var-variables
returns-then-var-variables c =
    let same : c.self.inside.variables ≡ c.args.self.now.variables = ap (λ (f : Cnf). f.variables) c.self.view_is in (
      (λ no. absurd (false≢true no)),
      (λ over. let below : c.lit-item.result.var < c.args.self.now.variables = below_from_over c.args.self.now.variables c.args.lits.now over c.lit-item.result (c.loop-lit.lit-index, c.loop-lit-test.true, sym c.lit-item.is) in
          absurd (omega (arith, below, same, c.var.ensures.value, c.if-var-variables.true))),
    )

pub loop-lit-preserved : goal.loop-lit-preserved
loop-lit-preserved c = λ l l-in.
    let cs : List Literal = c.args.lits.now in
    let i = c.loop-lit.lit-index in
    let here : c.lit-item.result.var < c.self.inside.variables = omega (arith, c.var.ensures.value, c.if-var-variables.false) in
    ⊎_elim (λ before. c.loop-lit.invariant l before)
    (λ at. subst (λ (m : Literal). m.var < c.self.inside.variables) at (subst (λ (m : Literal). m.var < c.self.inside.variables) c.lit-item.is here))
    (Contains-push_cases (take i cs) (get_or cs i c.lit-item.result) l (subst (λ (zs : List Literal). Contains zs l) (take_more cs i c.lit-item.result c.loop-lit-test.true) l-in))

pub returns : goal.returns
returns c =
    let same : c.self.inside.variables ≡ c.args.self.now.variables = ap (λ (f : Cnf). f.variables) c.self.view_is in
    let below : HasVariablesBelow c.self.inside.variables c.args.lits.now = subst (HasVariablesBelow c.self.inside.variables) (take_all c.loop-lit.lit-index c.args.lits.now c.loop-lit-test.false) c.loop-lit.invariant in
    ((λ _. subst (λ (n : ℕ). IsOver n c.args.lits.now) same (over_from_below c.self.inside.variables c.args.lits.now below)), (λ _. refl))
