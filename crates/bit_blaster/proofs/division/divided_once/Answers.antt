use Rattle.std.proofs.Common.{◌≡◌, ◌∙◌, ◌∷◌, ◌++◌, List, ap}
use Rattle.cnf_clauses.specs.Literal.{Literal}
use Rattle.cnf_clauses.specs.Clause.{IsOver}
use Rattle.bit_blaster.proofs.Growing.{over_after}
use Rattle.bit_blaster.proofs.ProductLemmas.{over_take}
use Rattle.bit_blaster.proofs.DivisionLemmas.{divided_step}
use Rattle.bit_blaster.proofs.division.divided_once.Goals as goal

pub chosen-requires-clause-xs_in : goal.chosen-requires-clause-xs_in
chosen-requires-clause-xs_in c = rw (c.split_at.ensures.front, c.deref-3.ensures.value) (over_take _ _ _ c.in_ok-c.ensures.out_in)

pub chosen-requires-clause-ys_in : goal.chosen-requires-clause-ys_in
chosen-requires-clause-ys_in c =
    let e : c.in_ok-twice.twice.items ≡ c.args.x ∷ c.args.rest.now = c.in_ok-twice.ensures ∙ (ap (λ (ls : List Literal). ls ++ c.args.rest.now) (c.deref.ensures.value ∙ c.in_ok-low.ensures)) in
    let o : IsOver c.args.f.now.variables (c.args.x ∷ c.args.rest.now) = (c.requires.x_in, c.requires.rest_in) in
    rw (c.split_at-2.ensures.front, c.deref-4.ensures.value, e) (over_take _ _ (c.args.x ∷ c.args.rest.now) (over_after _ _ _ (c.args.x ∷ c.args.rest.now) c.in_ok-c.ensures.grows o))

pub returns : goal.returns
returns c =
    let e : c.in_ok-twice.twice.items ≡ c.args.x ∷ c.args.rest.now = c.in_ok-twice.ensures ∙ (ap (λ (ls : List Literal). ls ++ c.args.rest.now) (c.deref.ensures.value ∙ c.in_ok-low.ensures)) in
    divided_step _ _ _ _ _ _ _ _ _ _ _ e c.requires.longer (rw (c.deref-2.ensures.value, c.new-less.ensures.items) at c.in_ok-c.ensures)
    (rw (c.split_at.ensures.front, c.deref-3.ensures.value, c.split_at-2.ensures.front, c.deref-4.ensures.value) at c.in_ok-out.ensures)
