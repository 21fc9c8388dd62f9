use Rattle.std.proofs.Common.{◌≡◌, ℕ, ◌<◌, Some, None, get_or, length, sym, ◌∙◌, arith, ap}
use Rattle.std.proofs.lemmas.List.{get_or_read}
use Rattle.cnf_clauses.specs.Literal.{Literal}
use Rattle.clause_log.proofs.Resolving.{same_literal-true, same_literal_from}
use Rattle.clause_search.proofs.Paths.{place_of, holds_at}
use Rattle.clause_search.proofs.trail.Trail.holds_before.Goals as goal

pub index-requires-then-p-n : goal.index-requires-then-p-n
index-requires-then-p-n c =
    let t = c.args.self.now in
    let at : get_or t.places.items c.args.l.var None ≡ Some c.in-Some.p = ap (λ (v : ℕ). get_or t.places.items v None) (sym c.var.ensures.value) ∙ (sym (get_or_read t.places.items c.var.result c.index.result.now (omega (arith, c.requires, c.var.ensures.value)) c.index.ensures None) ∙ c.in-Some.is) in
    let low = (t.is_trail.standing c.args.l.var c.in-Some.p c.args.l at).0 in
    omega (arith, low, t.path.ok.0)

pub returns-then-p-n : goal.returns-then-p-n
returns-then-p-n c =
    let t = c.args.self.now in
    let at : get_or t.places.items c.args.l.var None ≡ Some c.in-Some.p = ap (λ (v : ℕ). get_or t.places.items v None) (sym c.var.ensures.value) ∙ (sym (get_or_read t.places.items c.var.result c.index.result.now (omega (arith, c.requires, c.var.ensures.value)) c.index.ensures None) ∙ c.in-Some.is) in
    let low : c.in-Some.p < length t.path.items = (t.is_trail.standing c.args.l.var c.in-Some.p c.args.l at).0 in
    let there : (d : Literal) → c.index-then-p-n.result.now ≡ get_or t.path.items c.in-Some.p d = λ (d : Literal). get_or_read t.path.items c.in-Some.p c.index-then-p-n.result.now low c.index-then-p-n.ensures d in (
      (λ yes. holds_at t.path.items c.args.n c.in-Some.p c.args.l c.if-p-n.true low (sym (there c.args.l) ∙ same_literal-true c.index-then-p-n.result.now c.args.l (sym c.eq.ensures ∙ yes))),
      (λ holds. c.eq.ensures ∙ same_literal_from c.index-then-p-n.result.now c.args.l (there c.args.l ∙ (place_of t.path.items t.reasons.items t.starts.items t.places.items c.args.n c.in-Some.p c.args.l t.is_trail at holds).1)),
    )
