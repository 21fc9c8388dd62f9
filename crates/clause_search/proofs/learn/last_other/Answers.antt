use Rattle.std.proofs.Common.{◌≡◌, ℕ, ◌+◌, ◌<◌, Bool, true, false, not, Option, Some, None, List, length, take, get_or, sym, ◌∙◌, ap, subst, inl, inr, refl, ◌⊎◌}
use Rattle.std.proofs.lemmas.Bool.{not-true, not-false, both_ways}
use Rattle.std.proofs.lemmas.List.{take_all}
use Rattle.cnf_clauses.specs.Literal.{Literal, opposite, same_literal}
use Rattle.clause_log.proofs.Resolving.{same_literal-true, same_literal_from}
use Rattle.clause_search.specs.Last.{IsLast}
use Rattle.clause_search.proofs.Paths.{free_is_not, item_in}
use Rattle.clause_search.proofs.Lasts.{last_same, last_kept, last_new, last_gives}
use Rattle.clause_search.proofs.learn.last_other.Goals as goal
use Rattle.clause_search.proofs.learn.last_other.Goals.{then-ne+then-first_one, then-first_one-via-then-first_one, then-first_one-via-else-first_one+then-place-at, then-ne+else-first_one+else-place-at, else-ne}
use Rattle.std.specs.Option.{is_none, is_some}

true_false' : true ≡ false → ⊥
true_false' e = cc

none_if : (r : Bool) (o : Option Literal) → is_some o ≡ not r → r ≡ true → is_none o ≡ true
none_if r None e t = refl
none_if r (Some x) e t = absurd (true_false' (e ∙ ap not t))

some_if : (r : Bool) (o : Option Literal) → is_some o ≡ not r → r ≡ false → is_none o ≡ false
some_if r None e f = absurd (true_false' (sym (e ∙ ap not f)))
some_if r (Some x) e f = refl

pub place_of-at-requires-clause-inside : goal.place_of-at-requires-clause-inside
place_of-at-requires-clause-inside c = c.requires.inside c.l-item.result (item_in c.args.c.now c.loop-l.l-index c.l-item.result c.loop-l-test.true c.l-item.is)

pub place_of-at-requires-clause-placed : goal.place_of-at-requires-clause-placed
place_of-at-requires-clause-placed c = λ none.
    let t = c.args.trail.now in
    let l : Literal = c.l-item.result in
    let ne : l ≡ c.args.first → ⊥ = (λ same. both_ways (same_literal l c.args.first) (not-true (same_literal l c.args.first) (sym c.if-ne.ensures)) (same_literal_from l c.args.first same)) in
    free_is_not t.path.items t.reasons.items t.starts.items t.places.items l (opposite l) t.is_trail none refl (c.requires.others l (item_in c.args.c.now c.loop-l.l-index l c.loop-l-test.true c.l-item.is) ne)

pub loop-l-preserved : goal.loop-l-preserved
loop-l-preserved c =
    let t = c.args.trail.now in
    let cl : List Literal = c.args.c.now in
    let i = c.loop-l.l-index in
    let ps : List (Option ℕ) = t.places.items in
    let l : Literal = c.l-item.result in
    let is : l ≡ get_or cl i l = c.l-item.is in
    let at : (p : ℕ) → get_or ps l.var None ≡ Some p → get_or ps (get_or cl i l).var None ≡ Some p = (λ p e. ap (λ (m : Literal). get_or ps m.var None) (sym is) ∙ e) in
    let h : i < length cl = c.loop-l-test.true in
    let before : IsLast t.path.items ps c.args.first (take i cl) c.loop-l.place c.loop-l.last = c.loop-l.invariant in
    let Goal : ℕ → Option Literal → Type 0 = IsLast t.path.items ps c.args.first (take (i + 1) cl) in
    let moved : (p : ℕ) (o : Option Literal) → c.if-ne.place ≡ p → c.if-ne.last ≡ o → Goal p o → Goal c.if-ne.place c.if-ne.last =
    (λ p o e f g. subst (λ (q : ℕ). Goal q c.if-ne.last) (sym e) (subst (Goal p) (sym f) g)) in
    elim c.if-ne.branch [
      | then-ne+then-first_one w ↦
          (let ne : l ≡ c.args.first → ⊥ = (λ same. both_ways (same_literal l c.args.first) (not-true (same_literal l c.args.first) (sym w.if-ne.ensures)) (same_literal_from l c.args.first same)) in
          let why : (is_none c.loop-l.last ≡ true) ⊎ (c.loop-l.place < w.place_of-at.result) = elim w.then-first_one.branch [
            | then-first_one-via-then-first_one v ↦ inl (none_if w.is_none-first_one.result c.loop-l.last w.is_none-first_one.ensures v.if-first_one.true)
            | then-first_one-via-else-first_one+then-place-at v ↦ inr v.if-place-at.true
          ] in
          moved w.place_of-at.result (Some l) w.place-is w.last-is (subst (λ (m : Literal). Goal w.place_of-at.result (Some m)) (sym is) (last_new t.path.items ps c.args.first cl i l c.loop-l.place w.place_of-at.result c.loop-l.last h why (λ e. ne (is ∙ e)) (at w.place_of-at.result w.place_of-at.ensures) before)))
      | then-ne+else-first_one+else-place-at w ↦
          moved c.loop-l.place c.loop-l.last w.place-is w.last-is (last_kept t.path.items ps c.args.first cl i l c.loop-l.place w.place_of-at.result c.loop-l.last h (some_if w.is_none-first_one.result c.loop-l.last w.is_none-first_one.ensures w.if-first_one.false) w.if-place-at.false (at w.place_of-at.result w.place_of-at.ensures) before)
      | else-ne w ↦ moved c.loop-l.place c.loop-l.last w.place-is w.last-is (last_same t.path.items ps c.args.first cl i l c.loop-l.place c.loop-l.last h (sym is ∙ same_literal-true l c.args.first (not-false (same_literal l c.args.first) (sym w.if-ne.ensures))) before)
    ]

pub returns : goal.returns
returns c =
    let t = c.args.trail.now in
    last_gives t.path.items t.reasons.items t.starts.items t.places.items c.args.first c.args.c.now c.loop-l.place c.loop-l.last t.is_trail c.requires.others
    (subst (λ (zs : List Literal). IsLast t.path.items t.places.items c.args.first zs c.loop-l.place c.loop-l.last) (take_all c.loop-l.l-index c.args.c.now c.loop-l-test.false) c.loop-l.invariant)
