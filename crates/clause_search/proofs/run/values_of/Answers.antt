use Rattle.std.proofs.Common.{◌≡◌, ℕ, ◌+◌, List, length, take, subst, sym, ◌∙◌, ap, arith, false}
use Rattle.std.specs.List.{Contains}
use Rattle.std.proofs.lemmas.List.{take_all, length_push}
use Rattle.cnf_clauses.specs.Literal.{Literal}
use Rattle.clause_search.proofs.Models.{values_more}
use Rattle.clause_search.proofs.run.values_of.Goals as goal

pub loop-v-preserved : goal.loop-v-preserved
loop-v-preserved c =
    let path : List Literal = c.args.trail.now.path.items in
    let l : Literal = record { var = c.loop-v.v; negated = false } in
    let is : c.new-positive.result ≡ l = c.new-positive.ensures in
    let whole : take c.len-count.result path ≡ path = take_all c.len-count.result path (omega (arith, c.len-count.ensures, c.args.trail.now.path.ok.0)) in (
      values_more path c.loop-v.values.items c.push.new.self.items c.loop-v.v c.holds_before.result c.loop-v.invariant.0 c.loop-v.invariant.1 c.in_ok-push.ensures.items
          (λ yes. subst (Contains path) is (subst (λ (p : List Literal). Contains p c.new-positive.result) whole (c.holds_before.ensures.0 yes)))
          (λ l-in. c.holds_before.ensures.1 (subst (λ (p : List Literal). Contains p c.new-positive.result) (sym whole) (subst (Contains path) (sym is) l-in))),
      ap length c.in_ok-push.ensures.items ∙ (length_push c.loop-v.values.items c.holds_before.result ∙ ap (λ (k : ℕ). k + 1) c.loop-v.invariant.1),
    )
