use Rattle.std.proofs.Common.{◌≡◌, ℕ, ◌<◌, ◌-◌, ap, ◌∙◌, get_or, drop, length, List, take, subst, None}
use Rattle.std.proofs.lemmas.List.{get_or_read, take_rest}
use Rattle.cnf_clauses.specs.Literal.{Literal}
use Rattle.clause_search.proofs.Paths.{IsTrail-cut}
use Rattle.clause_search.proofs.trail.Trail.cut.Goals as goal

pub invariant_of-self : goal.invariant_of-self
invariant_of-self c =
    let t = c.args.self.now in
    let n = c.index-n.result.now in
    let n-is : n ≡ get_or t.starts.items c.args.level 0 = get_or_read t.starts.items c.args.level n c.requires c.index-n.ensures 0 in
    let gone-is : take (length c.deref.result.now - n) (drop n c.deref.result.now) ≡ drop n t.path.items = take_rest c.deref.result.now n ∙ ap (drop n) c.deref.ensures.value in
    let cleared = subst (λ (gs : List Literal). (k : ℕ) (d : Literal) → k < length gs → get_or c.clear.new.places.items (get_or gs k d).var None ≡ None) gone-is c.clear.ensures.cleared in
    let others = subst (λ (gs : List Literal). (v : ℕ) → ((k : ℕ) (d : Literal) → k < length gs → (get_or gs k d).var ≡ v → ⊥) → get_or c.clear.new.places.items v None ≡ get_or t.places.items v None) gone-is c.clear.ensures.others in
    record {
      is_trail = rw (c.truncate.ensures.items, c.truncate-2.ensures.items, c.truncate-3.ensures.items)
          (IsTrail-cut t.path.items t.reasons.items t.starts.items t.places.items c.clear.new.places.items c.args.level n t.is_trail c.requires n-is cleared others c.clear.ensures.len);
    }
