use Rattle.std.proofs.Common.{◌≡◌, ℕ, ◌*◌, ◌<◌, Some, None, List, [], ◌∷◌, ◌++◌, Option, length, get_or, set, sym, ◌∙◌, arith, ap, subst, refl}
use Rattle.std.specs.List.{Contains}
use Rattle.std.proofs.lemmas.List.{length-set}
use Rattle.std.proofs.lemmas.List.Elements.{Contains-push}
use Rattle.cnf_clauses.specs.Literal.{Literal, code_of}
use Rattle.cnf_clauses.specs.declared.lit.ClauseId.{ClauseId}
use Rattle.clause_log.specs.Resolution.{clause_at}
use Rattle.clause_log.specs.Log.{clauses_of}
use Rattle.clause_search.specs.declared.watch.Pair.{Pair}
use Rattle.clause_search.specs.declared.watch.Reaction.TheVariants.{Held, Pushed, Open}
use Rattle.clause_search.specs.Path.{IsFalseIn}
use Rattle.clause_search.specs.Watch.{IsHeld}
use Rattle.clause_search.specs.WatchStep.{IsStepped, IsOther}
use Rattle.clause_search.specs.Lists.{IsRemoved, IsAdded}
use Rattle.clause_search.specs.Pass.{IsPassing}
use Rattle.clause_search.proofs.Paths.{no_lit}
use Rattle.clause_search.proofs.Passes.{listed_stale, listed_moved, passing_stale, passing_kept, passing_push, passing_moved, passing_along, has_pair, gone_is_false, not_gone, other_not_gone, code_in_range, code_same, pair_in_range}
use Rattle.clause_search.proofs.pass.visit_at.Goals as goal

pub returns-in-None-clause-lists : goal.returns-in-None-clause-lists
returns-in-None-clause-lists c =
    let w = c.args.watches.now in
    let id = c.entry-id.result in
    let ls : List (List ClauseId) = w.lists.items in
    let id-is : id ≡ get_or (get_or ls (code_of c.args.gone) []) c.args.i id = c.entry-id.ensures ∙ (ap (λ (x : List (List ClauseId)). get_or (get_or x c.code-at.result []) c.args.i id) c.deref.ensures.value ∙ ap (λ (a : ℕ). get_or (get_or ls a []) c.args.i id) c.code-at.ensures) in
    let r : IsRemoved ls c.drop_at.new.lists.items (code_of c.args.gone) c.args.i = subst (λ (a : ℕ). IsRemoved ls c.drop_at.new.lists.items a c.args.i) c.code-at.ensures c.drop_at.ensures.removed in
    let none : IsOther (get_or w.pairs.items id.0 None) c.args.gone None = subst (λ (ps : List (Option Pair)). IsOther (get_or ps id.0 None) c.args.gone None) c.deref-2.ensures.value c.in-None.ensures in
    record {
      listed = listed_stale w.pairs.items ls c.drop_at.new.lists.items c.args.i id c.args.gone c.requires.i r id-is none c.requires.lists.listed;
      for_each_clause = c.requires.lists.for_each_clause;
      for_each_literal = r.lists ∙ c.requires.lists.for_each_literal;
    }

pub returns-in-None-clause-visit : goal.returns-in-None-clause-visit
returns-in-None-clause-visit c =
    let db : List (List Literal) = clauses_of c.args.log.now in
    let t = c.args.trail.now in
    let w = c.args.watches.now in
    let id = c.entry-id.result in
    let ls : List (List ClauseId) = w.lists.items in
    let id-is : id ≡ get_or (get_or ls (code_of c.args.gone) []) c.args.i id = c.entry-id.ensures ∙ (ap (λ (x : List (List ClauseId)). get_or (get_or x c.code-at.result []) c.args.i id) c.deref.ensures.value ∙ ap (λ (a : ℕ). get_or (get_or ls a []) c.args.i id) c.code-at.ensures) in
    let r : IsRemoved ls c.drop_at.new.lists.items (code_of c.args.gone) c.args.i = subst (λ (a : ℕ). IsRemoved ls c.drop_at.new.lists.items a c.args.i) c.code-at.ensures c.drop_at.ensures.removed in
    let none : IsOther (get_or w.pairs.items id.0 None) c.args.gone None = subst (λ (ps : List (Option Pair)). IsOther (get_or ps id.0 None) c.args.gone None) c.deref-2.ensures.value c.in-None.ensures in
    (passing_stale db t.path.items c.args.q t.starts.items w.pairs.items ls c.drop_at.new.lists.items (code_of c.args.gone) c.args.i id c.args.gone no_lit c.requires.q (c.requires.gone no_lit) r id-is none c.requires.passing, r.shorter)

pub returns-in-Held-clause-visit : goal.returns-in-Held-clause-visit
returns-in-Held-clause-visit c =
    let db : List (List Literal) = clauses_of c.args.log.now in
    let t = c.args.trail.now in
    let n = c.step_at.new.trail in
    let w = c.args.watches.now in
    let id = c.entry-id.result in
    let ls : List (List ClauseId) = w.lists.items in
    let id-is : id ≡ get_or (get_or ls (code_of c.args.gone) []) c.args.i id = c.entry-id.ensures ∙ (ap (λ (x : List (List ClauseId)). get_or (get_or x c.code-at.result []) c.args.i id) c.deref.ensures.value ∙ ap (λ (a : ℕ). get_or (get_or ls a []) c.args.i id) c.code-at.ensures) in
    let e = c.in_ok-step_at-in-Some.ensures in
    let stepped : IsStepped db id c.in-Some.other t.path.items n.path.items Held = subst (IsStepped db id c.in-Some.other t.path.items n.path.items) c.in-Held.is e.stepped in
    let pair = has_pair (get_or w.pairs.items id.0 None) c.args.gone c.in-Some.other (subst (λ (ps : List (Option Pair)). IsOther (get_or ps id.0 None) c.args.gone (Some c.in-Some.other)) c.deref-2.ensures.value c.in-Some.ensures) in (
      passing_kept db n.path.items n.reasons.items n.starts.items n.places.items c.args.q w.pairs.items (get_or ls (code_of c.args.gone) []) c.args.i id pair.0 c.args.gone c.in-Some.other n.is_trail id-is pair.1 pair.2 stepped.1
          (passing_along db t.path.items n.path.items c.args.q t.starts.items n.starts.items w.pairs.items (get_or ls (code_of c.args.gone) []) c.args.i stepped.0 e.starts c.requires.passing),
      refl,
    )

pub returns-in-Pushed-clause-visit : goal.returns-in-Pushed-clause-visit
returns-in-Pushed-clause-visit c =
    let db : List (List Literal) = clauses_of c.args.log.now in
    let t = c.args.trail.now in
    let n = c.step_at.new.trail in
    let w = c.args.watches.now in
    let id = c.entry-id.result in
    let ls : List (List ClauseId) = w.lists.items in
    let id-is : id ≡ get_or (get_or ls (code_of c.args.gone) []) c.args.i id = c.entry-id.ensures ∙ (ap (λ (x : List (List ClauseId)). get_or (get_or x c.code-at.result []) c.args.i id) c.deref.ensures.value ∙ ap (λ (a : ℕ). get_or (get_or ls a []) c.args.i id) c.code-at.ensures) in
    let e = c.in_ok-step_at-in-Some.ensures in
    let o : Literal = c.in-Some.other in
    let stepped : IsStepped db id o t.path.items n.path.items Pushed = subst (IsStepped db id o t.path.items n.path.items) c.in-Pushed.is e.stepped in
    let pair = has_pair (get_or w.pairs.items id.0 None) c.args.gone o (subst (λ (ps : List (Option Pair)). IsOther (get_or ps id.0 None) c.args.gone (Some o)) c.deref-2.ensures.value c.in-Some.ensures) in (
      passing_kept db n.path.items n.reasons.items n.starts.items n.places.items c.args.q w.pairs.items (get_or ls (code_of c.args.gone) []) c.args.i id pair.0 c.args.gone o n.is_trail id-is pair.1 pair.2 (subst (λ (p : List Literal). Contains p o) (sym stepped) (Contains-push t.path.items o))
          (passing_along db (t.path.items ++ o ∷ []) n.path.items c.args.q t.starts.items n.starts.items w.pairs.items (get_or ls (code_of c.args.gone) []) c.args.i stepped e.starts
          (passing_push db t.path.items c.args.q t.starts.items w.pairs.items (get_or ls (code_of c.args.gone) []) c.args.i o c.requires.q t.is_trail.inside c.requires.passing)),
      refl,
    )

pub add_to-requires : goal.add_to-requires
add_to-requires c =
    let db : List (List Literal) = clauses_of c.args.log.now in
    let t = c.args.trail.now in
    let n = c.step_at.new.trail in
    let w = c.args.watches.now in
    let ps : List (Option Pair) = w.pairs.items in
    let ls : List (List ClauseId) = w.lists.items in
    let id = c.entry-id.result in
    let o : Literal = c.in-Some.other in
    let l : Literal = c.in-Open.l in
    let gone : Literal = c.args.gone in
    let i = c.args.i in
    let e = c.in_ok-step_at-in-Some.ensures in
    let stepped : IsStepped db id o t.path.items n.path.items (Open l) = subst (IsStepped db id o t.path.items n.path.items) c.in-Open.is e.stepped in
    let pair = has_pair (get_or ps id.0 None) gone o (subst (λ (x : List (Option Pair)). IsOther (get_or x id.0 None) gone (Some o)) c.deref-2.ensures.value c.in-Some.ensures) in
    let room : id.0 < length ps = pair_in_range ps id.0 pair.0 pair.1 in
    let l-low : l.var < length t.places.items = c.requires.search.over id.0 (omega (arith, room, c.requires.lists.for_each_clause)) l stepped.1 in
    omega (arith, code_in_range l (length t.places.items) l-low, c.code.ensures, c.requires.lists.for_each_literal)

pub returns-in_ok-add_to-in-Open-clause-lists : goal.returns-in_ok-add_to-in-Open-clause-lists
returns-in_ok-add_to-in-Open-clause-lists c =
    let db : List (List Literal) = clauses_of c.args.log.now in
    let t = c.args.trail.now in
    let n = c.step_at.new.trail in
    let w = c.args.watches.now in
    let ps : List (Option Pair) = w.pairs.items in
    let ls : List (List ClauseId) = w.lists.items in
    let id = c.entry-id.result in
    let o : Literal = c.in-Some.other in
    let l : Literal = c.in-Open.l in
    let gone : Literal = c.args.gone in
    let i = c.args.i in
    let e = c.in_ok-step_at-in-Some.ensures in
    let stepped : IsStepped db id o t.path.items n.path.items (Open l) = subst (IsStepped db id o t.path.items n.path.items) c.in-Open.is e.stepped in
    let pair = has_pair (get_or ps id.0 None) gone o (subst (λ (x : List (Option Pair)). IsOther (get_or x id.0 None) gone (Some o)) c.deref-2.ensures.value c.in-Some.ensures) in
    let room : id.0 < length ps = pair_in_range ps id.0 pair.0 pair.1 in
    let l-open : IsFalseIn t.path.items l → ⊥ = (λ f. stepped.3 (subst (λ (p : List Literal). IsFalseIn p l) (sym stepped.0) f)) in
    let l-ne : l ≡ gone → ⊥ = not_gone t.path.items l gone (gone_is_false t.path.items c.args.q gone no_lit c.requires.q (c.requires.gone no_lit)) l-open in
    let a : IsAdded ls c.add_to.new.lists.items (code_of l) id = subst (λ (k : ℕ). IsAdded ls c.add_to.new.lists.items k id) c.code.ensures c.in_ok-add_to-in-Open.ensures.added in
    let more : List (List ClauseId) = c.add_to.new.lists.items in
    let new : List (List ClauseId) = c.drop_at-in-Open.new.lists.items in
    let r : IsRemoved more new (code_of gone) i = subst (λ (k : ℕ). IsRemoved more new k i) c.code-at.ensures c.drop_at-in-Open.ensures.removed in
    let id-is : id ≡ get_or (get_or ls (code_of gone) []) i id = c.entry-id.ensures ∙ (ap (λ (x : List (List ClauseId)). get_or (get_or x c.code-at.result []) i id) c.deref.ensures.value ∙ ap (λ (k : ℕ). get_or (get_or ls k []) i id) c.code-at.ensures) in
    let same : get_or more (code_of gone) [] ≡ get_or ls (code_of gone) [] = a.others (code_of gone) (λ x. l-ne (code_same l gone (sym x))) in
    let id-more : id ≡ get_or (get_or more (code_of gone) []) i id = id-is ∙ ap (λ (x : List ClauseId). get_or x i id) (sym same) in
    let i-more : i < length (get_or more (code_of gone) []) = subst (λ (x : List ClauseId). i < length x) (sym same) c.requires.i in
    let held : IsHeld t.path.items c.args.q t.starts.items (clause_at db id) (Some pair.0) = subst (IsHeld t.path.items c.args.q t.starts.items (clause_at db id)) pair.1 (c.requires.passing id.0 (omega (arith, room, c.requires.lists.for_each_clause))).0 in
    let other-ne : o ≡ gone → ⊥ = other_not_gone t.path.items c.args.q t.starts.items (clause_at db id) pair.0 gone o pair.2 held in
    record {
      listed = listed_moved ps ls more new i id pair.0 gone o l room i-more a r id-more pair.1 pair.2 other-ne l-ne c.requires.lists.listed;
      for_each_clause = length-set ps id.0 (Some record { first = o; second = l }) ∙ c.requires.lists.for_each_clause;
      for_each_literal = r.lists ∙ (a.lists ∙ (c.requires.lists.for_each_literal ∙ ap (λ (k : ℕ). 2 * k) (sym e.places)));
    }

pub returns-in_ok-add_to-in-Open-clause-visit : goal.returns-in_ok-add_to-in-Open-clause-visit
returns-in_ok-add_to-in-Open-clause-visit c =
    let db : List (List Literal) = clauses_of c.args.log.now in
    let t = c.args.trail.now in
    let n = c.step_at.new.trail in
    let w = c.args.watches.now in
    let ps : List (Option Pair) = w.pairs.items in
    let ls : List (List ClauseId) = w.lists.items in
    let id = c.entry-id.result in
    let o : Literal = c.in-Some.other in
    let l : Literal = c.in-Open.l in
    let gone : Literal = c.args.gone in
    let i = c.args.i in
    let e = c.in_ok-step_at-in-Some.ensures in
    let stepped : IsStepped db id o t.path.items n.path.items (Open l) = subst (IsStepped db id o t.path.items n.path.items) c.in-Open.is e.stepped in
    let pair = has_pair (get_or ps id.0 None) gone o (subst (λ (x : List (Option Pair)). IsOther (get_or x id.0 None) gone (Some o)) c.deref-2.ensures.value c.in-Some.ensures) in
    let room : id.0 < length ps = pair_in_range ps id.0 pair.0 pair.1 in
    let l-open : IsFalseIn t.path.items l → ⊥ = (λ f. stepped.3 (subst (λ (p : List Literal). IsFalseIn p l) (sym stepped.0) f)) in
    let l-ne : l ≡ gone → ⊥ = not_gone t.path.items l gone (gone_is_false t.path.items c.args.q gone no_lit c.requires.q (c.requires.gone no_lit)) l-open in
    let a : IsAdded ls c.add_to.new.lists.items (code_of l) id = subst (λ (k : ℕ). IsAdded ls c.add_to.new.lists.items k id) c.code.ensures c.in_ok-add_to-in-Open.ensures.added in
    let more : List (List ClauseId) = c.add_to.new.lists.items in
    let new : List (List ClauseId) = c.drop_at-in-Open.new.lists.items in
    let r : IsRemoved more new (code_of gone) i = subst (λ (k : ℕ). IsRemoved more new k i) c.code-at.ensures c.drop_at-in-Open.ensures.removed in
    let id-is : id ≡ get_or (get_or ls (code_of gone) []) i id = c.entry-id.ensures ∙ (ap (λ (x : List (List ClauseId)). get_or (get_or x c.code-at.result []) i id) c.deref.ensures.value ∙ ap (λ (k : ℕ). get_or (get_or ls k []) i id) c.code-at.ensures) in
    let same : get_or more (code_of gone) [] ≡ get_or ls (code_of gone) [] = a.others (code_of gone) (λ x. l-ne (code_same l gone (sym x))) in
    let id-more : id ≡ get_or (get_or more (code_of gone) []) i id = id-is ∙ ap (λ (x : List ClauseId). get_or x i id) (sym same) in
    let i-more : i < length (get_or more (code_of gone) []) = subst (λ (x : List ClauseId). i < length x) (sym same) c.requires.i in
    let passing : IsPassing db t.path.items c.args.q t.starts.items ps (get_or more (code_of gone) []) i = subst (λ (x : List ClauseId). IsPassing db t.path.items c.args.q t.starts.items ps x i) (sym same) c.requires.passing in
    let pairs : List (Option Pair) = set ps id.0 (Some record { first = o; second = l }) in (
      passing_along db t.path.items n.path.items c.args.q t.starts.items n.starts.items pairs (get_or new (code_of gone) []) i stepped.0 e.starts
          (passing_moved db t.path.items t.reasons.items t.starts.items t.places.items c.args.q ps more new (code_of gone) i id pair.0 gone o l no_lit t.is_trail c.requires.q (c.requires.gone no_lit) room r id-more pair.1 pair.2 stepped.1 stepped.2 l-open passing),
      r.shorter ∙ ap (λ (x : List ClauseId). length x) same,
    )
