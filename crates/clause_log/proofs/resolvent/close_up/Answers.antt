use Rattle.std.proofs.Common.{◌≡◌, ℕ, ◌+◌, ◌<◌, List, ◌∷◌, ◌++◌, [], refl, sym, ◌∙◌, ap, arith, length, drop, get_or}
use Rattle.std.proofs.lemmas.List.{take_all, take_more_set, drop-set-lt, drop-drop, get_or-drop, length-set}
use Rattle.std.proofs.lemmas.Bool.{not-true, not-false, both_ways}
use Rattle.cnf_clauses.specs.Literal.{Literal, same_literal}
use Rattle.clause_log.specs.Resolution.{without}
use Rattle.clause_log.proofs.Resolving.{without_from-nil, added, skipped, same_literal-true, same_literal_from}
use Rattle.clause_log.proofs.resolvent.close_up.Goals as goal
use Rattle.clause_log.proofs.resolvent.close_up.Goals.{then-ne, else-ne}

at_drop : (xs was : List Literal) (i : ℕ) (d : Literal) → drop i xs ≡ drop i was → get_or xs i d ≡ d → get_or was i d ≡ d
at_drop xs was i d e is =
    let here : i + 0 ≡ i = omega arith in
    sym (ap (λ (k : ℕ). get_or was k d) here) ∙ (sym (get_or-drop i was 0 d) ∙ (ap (λ (zs : List Literal). get_or zs 0 d) (sym e) ∙ (get_or-drop i xs 0 d ∙ (ap (λ (k : ℕ). get_or xs k d) here ∙ is))))

next_drop : (xs was : List Literal) (i : ℕ) → drop i xs ≡ drop i was → drop (i + 1) xs ≡ drop (i + 1) was
next_drop xs was i e = sym (drop-drop 1 i xs) ∙ (ap (drop 1) e ∙ drop-drop 1 i was)

pub loop-i-init : goal.loop-i-init
loop-i-init c = (omega arith, refl, sym (without_from-nil c.args.lit), refl)

pub loop-i-preserved : goal.loop-i-preserved
loop-i-preserved c =
    let p : Literal = c.args.lit in
    let other : Literal = c.index.result.now in
    let xs : List Literal = c.loop-i.literals.items in
    let was : List Literal = c.args.literals.now.items in
    let i : ℕ = c.loop-i.i in
    let v = c.loop-i.invariant in
    let inside : i < length was = omega arith in
    let inside-xs : i < length xs = omega (arith, v.1) in
    let at : get_or was i other ≡ other = at_drop xs was i other v.3 (sym c.index.ensures) in
    elim c.if-ne.branch [
      | then-ne w ↦ rw (w.literals-is, w.kept-is) (
        omega (arith, v.0),
        length-set xs c.loop-i.kept other ∙ v.1,
        take_more_set xs c.loop-i.kept other (omega (arith, v.0)) ∙ (ap (λ (zs : List Literal). zs ++ other ∷ []) v.2 ∙ added p other [] was i inside at (λ is. both_ways (same_literal other p) (not-true (same_literal other p) (sym w.if-ne.ensures)) (same_literal_from other p is))),
        drop-set-lt (i + 1) xs c.loop-i.kept other (omega (arith, v.0)) ∙ next_drop xs was i v.3,
      )
      | else-ne w ↦ rw (w.literals-is, w.kept-is) (
        omega (arith, v.0),
        v.1,
        v.2 ∙ sym (skipped p other was i inside at (same_literal-true other p (not-false (same_literal other p) (sym w.if-ne.ensures)))),
        next_drop xs was i v.3,
      )
    ]

pub returns : goal.returns
returns c =
    c.truncate.ensures.items ∙ (c.loop-i.invariant.2 ∙ ap (without c.args.lit) (take_all c.loop-i.i c.args.literals.now.items (omega (arith, c.loop-i-test.false, c.len-i-end.ensures))))
