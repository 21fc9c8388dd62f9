use Rattle.std.proofs.Common.{◌≡◌, ℕ, Some, None, get_or, sym, ◌∙◌, arith, ap}
use Rattle.std.proofs.lemmas.List.{get_or_read}
use Rattle.clause_search.proofs.trail.Trail.value.Goals as goal

pub index-requires-in-Some : goal.index-requires-in-Some
index-requires-in-Some c =
    let t = c.args.self.now in
    let at : get_or t.places.items c.args.l.var None ≡ Some c.in-Some.p = ap (λ (v : ℕ). get_or t.places.items v None) (sym c.var.ensures.value) ∙ (sym (get_or_read t.places.items c.var.result c.index.result.now (omega (arith, c.requires, c.var.ensures.value)) c.index.ensures None) ∙ c.in-Some.is) in
    let low = (t.is_trail.standing c.args.l.var c.in-Some.p c.args.l at).0 in
    omega (arith, low, t.path.ok.0)
