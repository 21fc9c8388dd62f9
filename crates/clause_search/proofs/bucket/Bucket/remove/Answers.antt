use Rattle.std.proofs.Common.{◌≡◌, ℕ, ◌+◌, ◌-◌, length, get_or, arith, ap, ◌∙◌, ⊎_elim, List, vec_len}
use Rattle.std.proofs.lemmas.Bool.{cases_lt}
use Rattle.cnf_clauses.specs.declared.lit.ClauseId.{ClauseId}
use Rattle.clause_search.proofs.bucket.Bucket.remove.Goals as goal

pub returns-clause-later : goal.returns-clause-later
returns-clause-later c = λ j d after low.
    let xs : List ClauseId = c.self.inside.ids.items in
    let same = ap length c.self.view_is in
    let e = c.swap_remove-id.ensures in
    ⊎_elim (λ lt. (j, omega arith, omega (arith, e.len, c.swap_remove-id.new.self.ok.0, c.self.inside.ids.ok.0, same), e.by_index.1 j d (omega arith) (omega (arith, c.self.inside.ids.ok.0, same)) ∙ ap (λ (ys : List ClauseId). get_or ys j d) c.self.view_is))
    (λ ge. (c.args.i, omega arith, omega (arith, e.len, c.swap_remove-id.new.self.ok.0, c.self.inside.ids.ok.0, same), e.by_index.0 d (omega (arith, c.self.inside.ids.ok.0, same)) ∙ (ap (λ (m : ℕ). get_or xs m d) (let j-is : vec_len c.self.inside.ids - 1 ≡ j = omega (arith, c.self.inside.ids.ok.0, same) in j-is) ∙ ap (λ (ys : List ClauseId). get_or ys j d) c.self.view_is))) (cases_lt (j + 1) (length c.args.self.now))
