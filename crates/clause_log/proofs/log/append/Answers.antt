use Rattle.std.proofs.Common.{◌≡◌, ◌∙◌, ◌++◌, ◌∷◌, [], ◌<◌, ◌≤◌, ◌==◌, ℕ, List, length, sym, ap, subst, arith, ⊎_elim}
use Rattle.std.proofs.lemmas.Result.{on_ok_weaker}
use Rattle.std.proofs.lemmas.Bool.{eqb-true, eq-eqb, both_ways, cases_lt}
use Rattle.cnf_clauses.specs.Literal.{Literal}
use Rattle.cnf_clauses.specs.Clause.{HasVariablesBelow}
use Rattle.clause_log.specs.Resolution.{clause_at}
use Rattle.clause_log.specs.Line.{Line, line_from}
use Rattle.clause_log.specs.Log.{all_clauses}
use Rattle.clause_log.proofs.Logs.{resolvents_none, resolvents_once, IsLog-append, follows_from}
use Rattle.clause_log.proofs.log.append.Goals as goal

pub returns-then-is_empty-clause-log : goal.returns-then-is_empty-clause-log
returns-then-is_empty-clause-log c =
    let db : List (List Literal) = all_clauses c.args.formula.now.clauses c.args.lines.now in
    let made : Line = line_from db c.args.start c.args.steps.now in
    let none : length c.args.steps.now ≡ 0 = eqb-true (length c.args.steps.now) 0 (sym c.is_empty.ensures ∙ c.if-is_empty.true) in
    let copied : c.deref.result.now ≡ clause_at db c.args.start = c.deref.ensures.value ∙ (c.in_ok-clause.ensures.items ∙ c.clause_in.ensures) in
    let line : Line = record { start = c.args.start; steps = c.args.steps.now; clause = c.deref.result.now } in
    let same : c.deref.result.now ≡ made.clause = copied ∙ sym (resolvents_none db (clause_at db c.args.start) c.args.steps.now none) in
    let is : line ≡ made = ap (λ (t : List Literal). let l : Line = record { start = c.args.start; steps = c.args.steps.now; clause = t } in l) same in
    IsLog-append c.push.result c.args.formula.now.variables c.args.formula.now.clauses c.args.lines.now c.push.new.self line made c.push.ensures.ok c.push.ensures.err is c.requires.log c.requires.room
    (follows_from db c.args.start c.args.steps.now c.requires.start c.requires.steps)
    (subst (HasVariablesBelow c.args.formula.now.variables) (sym copied ∙ same) (c.requires.log.over c.args.start.0 c.requires.start))

pub returns-then-is_empty-clause-ok : goal.returns-then-is_empty-clause-ok
returns-then-is_empty-clause-ok c =
    let db : List (List Literal) = all_clauses c.args.formula.now.clauses c.args.lines.now in
    let made : Line = line_from db c.args.start c.args.steps.now in
    let none : length c.args.steps.now ≡ 0 = eqb-true (length c.args.steps.now) 0 (sym c.is_empty.ensures ∙ c.if-is_empty.true) in
    let copied : c.deref.result.now ≡ clause_at db c.args.start = c.deref.ensures.value ∙ (c.in_ok-clause.ensures.items ∙ c.clause_in.ensures) in
    let line : Line = record { start = c.args.start; steps = c.args.steps.now; clause = c.deref.result.now } in
    let same : c.deref.result.now ≡ made.clause = copied ∙ sym (resolvents_none db (clause_at db c.args.start) c.args.steps.now none) in
    let is : line ≡ made = ap (λ (t : List Literal). let l : Line = record { start = c.args.start; steps = c.args.steps.now; clause = t } in l) same in
    on_ok_weaker c.push.result (λ (e : c.push.new.self ≡ c.args.lines.now ++ line ∷ []). e ∙ ap (λ (l : Line). c.args.lines.now ++ l ∷ []) is) c.push.ensures.ok

pub returns-clause-log : goal.returns-clause-log
returns-clause-log c =
    let db : List (List Literal) = all_clauses c.args.formula.now.clauses c.args.lines.now in
    let made : Line = line_from db c.args.start c.args.steps.now in
    let some : 0 < length c.args.steps.now = ⊎_elim (λ (lt : 0 < length c.args.steps.now). lt) (λ (ge : length c.args.steps.now ≤ 0). absurd (both_ways (length c.args.steps.now == 0) (sym c.is_empty.ensures ∙ c.if-is_empty.false) (eq-eqb (length c.args.steps.now) 0 (omega arith)))) (cases_lt 0 (length c.args.steps.now)) in
    let line : Line = record { start = c.args.start; steps = c.args.steps.now; clause = c.literals.result.now } in
    let same : c.literals.result.now ≡ made.clause = c.literals.ensures.value ∙ (c.in_ok-derive.ensures.literals ∙ resolvents_once db (clause_at db c.args.start) c.args.steps.now some) in
    let is : line ≡ made = ap (λ (t : List Literal). let l : Line = record { start = c.args.start; steps = c.args.steps.now; clause = t } in l) same in
    IsLog-append c.push-2.result c.args.formula.now.variables c.args.formula.now.clauses c.args.lines.now c.push-2.new.self line made c.push-2.ensures.ok c.push-2.ensures.err is c.requires.log c.requires.room
    (follows_from db c.args.start c.args.steps.now c.requires.start c.requires.steps)
    (subst (HasVariablesBelow c.args.formula.now.variables) (sym c.literals.ensures.value ∙ same) (subst (λ (n : ℕ). HasVariablesBelow n c.derive.new.scratch.literals) (c.in_ok-derive.ensures.variables ∙ c.requires.variables) c.literals.ensures.over))

pub returns-clause-ok : goal.returns-clause-ok
returns-clause-ok c =
    let db : List (List Literal) = all_clauses c.args.formula.now.clauses c.args.lines.now in
    let made : Line = line_from db c.args.start c.args.steps.now in
    let some : 0 < length c.args.steps.now = ⊎_elim (λ (lt : 0 < length c.args.steps.now). lt) (λ (ge : length c.args.steps.now ≤ 0). absurd (both_ways (length c.args.steps.now == 0) (sym c.is_empty.ensures ∙ c.if-is_empty.false) (eq-eqb (length c.args.steps.now) 0 (omega arith)))) (cases_lt 0 (length c.args.steps.now)) in
    let line : Line = record { start = c.args.start; steps = c.args.steps.now; clause = c.literals.result.now } in
    let same : c.literals.result.now ≡ made.clause = c.literals.ensures.value ∙ (c.in_ok-derive.ensures.literals ∙ resolvents_once db (clause_at db c.args.start) c.args.steps.now some) in
    let is : line ≡ made = ap (λ (t : List Literal). let l : Line = record { start = c.args.start; steps = c.args.steps.now; clause = t } in l) same in
    on_ok_weaker c.push-2.result (λ (e : c.push-2.new.self ≡ c.args.lines.now ++ line ∷ []). e ∙ ap (λ (l : Line). c.args.lines.now ++ l ∷ []) is) c.push-2.ensures.ok
