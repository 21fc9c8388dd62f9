use Rattle.std.proofs.Common.{◌≡◌, ◌∙◌, ℕ, ◌+◌, ◌<◌, List, [], Option, length, get_or, ap, subst, arith}
use Rattle.std.specs.List.{Contains}
use Rattle.std.specs.Option.{MatchOption}
use Rattle.std.proofs.lemmas.List.{length_push}
use Rattle.cnf_clauses.specs.Literal.{Literal}
use Rattle.clause_log.specs.Log.{clauses_of}
use Rattle.clause_search.specs.declared.watch.Pair.{Pair}
use Rattle.clause_search.specs.Pass.{pair_of}
use Rattle.clause_search.proofs.Passes.{code_in_range}
use Rattle.clause_search.proofs.Paths.{item_in}
use Rattle.clause_search.proofs.Starts.{some_literal, chosen, held_more}
use Rattle.clause_search.proofs.start.start_watching.Goals as goal

pub bounds-clause-0 : goal.bounds-clause-0
bounds-clause-0 c =
    let db : List (List Literal) = clauses_of c.args.log.now in
    let here : c.loop-k.k < length db = omega (arith, c.loop-k-test.true, c.clauses-k-end.ensures) in
    omega (arith, some_literal (get_or db c.loop-k.k []) (c.requires.search.some c.loop-k.k here), ap length c.clause-clause.ensures.value)

pub watch_new-requires-clause-first : goal.watch_new-requires-clause-first
watch_new-requires-clause-first c =
    let t = c.args.trail.now in
    let db : List (List Literal) = clauses_of c.args.log.now in
    let k : ℕ = c.loop-k.k in
    let here : k < length db = omega (arith, c.loop-k-test.true, c.clauses-k-end.ensures) in
    let text : List Literal = get_or db k [] in
    let first : Literal = c.index-clause-0.result in
    let same : c.clause-clause.result.now ≡ text = c.clause-clause.ensures.value in
    let some : 0 < length text = some_literal text (c.requires.search.some k here) in
    let first-in : Contains text first = subst (λ (x : List Literal). Contains x first) same (item_in c.clause-clause.result.now 0 first (omega (arith, some, ap length same)) c.index-clause-0.is) in
    let chosen-by : MatchOption c.other_than-other.result ((l : Literal) → Contains text l → l ≡ first) (λ x. Contains text x × (x ≡ first → ⊥)) = subst (λ (y : List Literal). MatchOption c.other_than-other.result ((l : Literal) → Contains y l → l ≡ first) (λ x. Contains y x × (x ≡ first → ⊥))) same c.other_than-other.ensures in
    omega (arith, code_in_range first (length t.places.items) (c.requires.search.over k here first first-in), c.loop-k.invariant.2)

pub watch_new-requires-clause-other : goal.watch_new-requires-clause-other
watch_new-requires-clause-other c = λ x e.
    let t = c.args.trail.now in
    let db : List (List Literal) = clauses_of c.args.log.now in
    let k : ℕ = c.loop-k.k in
    let here : k < length db = omega (arith, c.loop-k-test.true, c.clauses-k-end.ensures) in
    let text : List Literal = get_or db k [] in
    let first : Literal = c.index-clause-0.result in
    let same : c.clause-clause.result.now ≡ text = c.clause-clause.ensures.value in
    let some : 0 < length text = some_literal text (c.requires.search.some k here) in
    let first-in : Contains text first = subst (λ (x : List Literal). Contains x first) same (item_in c.clause-clause.result.now 0 first (omega (arith, some, ap length same)) c.index-clause-0.is) in
    let chosen-by : MatchOption c.other_than-other.result ((l : Literal) → Contains text l → l ≡ first) (λ x. Contains text x × (x ≡ first → ⊥)) = subst (λ (y : List Literal). MatchOption c.other_than-other.result ((l : Literal) → Contains y l → l ≡ first) (λ x. Contains y x × (x ≡ first → ⊥))) same c.other_than-other.ensures in
    let there = subst (λ (o : Option Literal). MatchOption o ((l : Literal) → Contains text l → l ≡ first) (λ x. Contains text x × (x ≡ first → ⊥))) e chosen-by in
    omega (arith, code_in_range x (length t.places.items) (c.requires.search.over k here x there.0), c.loop-k.invariant.2)

pub loop-k-preserved : goal.loop-k-preserved
loop-k-preserved c =
    let t = c.args.trail.now in
    let db : List (List Literal) = clauses_of c.args.log.now in
    let k : ℕ = c.loop-k.k in
    let here : k < length db = omega (arith, c.loop-k-test.true, c.clauses-k-end.ensures) in
    let text : List Literal = get_or db k [] in
    let first : Literal = c.index-clause-0.result in
    let same : c.clause-clause.result.now ≡ text = c.clause-clause.ensures.value in
    let some : 0 < length text = some_literal text (c.requires.search.some k here) in
    let first-in : Contains text first = subst (λ (x : List Literal). Contains x first) same (item_in c.clause-clause.result.now 0 first (omega (arith, some, ap length same)) c.index-clause-0.is) in
    let chosen-by : MatchOption c.other_than-other.result ((l : Literal) → Contains text l → l ≡ first) (λ x. Contains text x × (x ≡ first → ⊥)) = subst (λ (y : List Literal). MatchOption c.other_than-other.result ((l : Literal) → Contains y l → l ≡ first) (λ x. Contains y x × (x ≡ first → ⊥))) same c.other_than-other.ensures in
    let e = c.in_ok-watch_new.ensures in
    let o : Option Pair = pair_of first c.other_than-other.result in (
      e.listed,
      ap length e.pairs ∙ (length_push c.loop-k.watches.pairs.items o ∙ ap (λ (m : ℕ). m + 1) c.loop-k.invariant.1),
      e.lists ∙ c.loop-k.invariant.2,
      held_more t.path.items db c.loop-k.watches.pairs.items c.watch_new.new.watches.pairs.items k o c.loop-k.invariant.1 e.pairs c.loop-k.invariant.3
          (chosen t.path.items text first c.other_than-other.result first-in (c.requires.started k here) chosen-by),
    )
