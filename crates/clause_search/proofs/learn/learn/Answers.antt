use Rattle.std.proofs.Common.{◌≡◌, ℕ, ◌<◌, ◌≤◌, List, [], ◌∷◌, ◌++◌, Option, Some, None, length, get_or, take, sym, ◌∙◌, arith, ap, subst, refl}
use Rattle.std.specs.List.{Contains}
use Rattle.std.specs.Option.{MatchOption}
use Rattle.std.proofs.lemmas.List.{get_or_push, length_push, take_all}
use Rattle.std.proofs.lemmas.List.Elements.{Contains-get_or}
use Rattle.cnf_clauses.specs.Literal.{Literal, opposite}
use Rattle.clause_log.specs.Resolution.{clause_at}
use Rattle.clause_log.specs.Log.{clauses_of}
use Rattle.clause_search.specs.declared.watch.Pair.{Pair}
use Rattle.clause_search.specs.Path.{IsSearch, AllButFalseIn, IsFalseIn, IsTrail, IsReason}
use Rattle.clause_search.specs.Learnt.{last_start}
use Rattle.clause_search.specs.Watch.{IsWatching}
use Rattle.clause_search.specs.Pass.{pair_of}
use Rattle.clause_search.proofs.Searches.{front_in, front_within, IsSearch-push}
use Rattle.clause_search.proofs.Analysis.{over_all, begins_by}
use Rattle.clause_search.proofs.Learning.{all_false_learnt, learn_keeps}
use Rattle.clause_search.proofs.Passes.{code_in_range}
use Rattle.clause_search.proofs.Renewed.{free_after, new_held, watching_learnt, inside_cut}
use Rattle.clause_search.proofs.learn.learn.Goals as goal

pub back_level-level-requires-clause-inside : goal.back_level-level-requires-clause-inside
back_level-level-requires-clause-inside c =
    let log = c.teach.new.log in
    let db : List (List Literal) = clauses_of c.args.log.now in
    let new : List (List Literal) = clauses_of log in
    let t = c.args.trail.now in
    let id = c.in_ok-taught.taught.id in
    let u : Literal = c.in_ok-taught.taught.first in
    let b : ℕ = last_start t.starts.items in
    let made = c.in_ok-taught.ensures.taught in
    let text : List Literal = clause_at new id in
    let over : (l : Literal) → Contains text l → l.var < length t.places.items = over_all t.path.items t.reasons.items t.starts.items t.places.items text t.is_trail (all_false_learnt t.path.items b text u made.asserting) in
    rw c.clause-clause.ensures.value over

pub back_level-level-requires-clause-unit : goal.back_level-level-requires-clause-unit
back_level-level-requires-clause-unit c =
    let log = c.teach.new.log in
    let db : List (List Literal) = clauses_of c.args.log.now in
    let new : List (List Literal) = clauses_of log in
    let t = c.args.trail.now in
    let id = c.in_ok-taught.taught.id in
    let u : Literal = c.in_ok-taught.taught.first in
    let b : ℕ = last_start t.starts.items in
    let made = c.in_ok-taught.ensures.taught in
    let text : List Literal = clause_at new id in
    let over : (l : Literal) → Contains text l → l.var < length t.places.items = over_all t.path.items t.reasons.items t.starts.items t.places.items text t.is_trail (all_false_learnt t.path.items b text u made.asserting) in
    rw c.clause-clause.ensures.value made.asserting.others

pub last_other-other-requires-clause-inside : goal.last_other-other-requires-clause-inside
last_other-other-requires-clause-inside c =
    let log = c.teach.new.log in
    let db : List (List Literal) = clauses_of c.args.log.now in
    let new : List (List Literal) = clauses_of log in
    let t = c.args.trail.now in
    let id = c.in_ok-taught.taught.id in
    let u : Literal = c.in_ok-taught.taught.first in
    let b : ℕ = last_start t.starts.items in
    let made = c.in_ok-taught.ensures.taught in
    let text : List Literal = clause_at new id in
    let over : (l : Literal) → Contains text l → l.var < length t.places.items = over_all t.path.items t.reasons.items t.starts.items t.places.items text t.is_trail (all_false_learnt t.path.items b text u made.asserting) in
    rw c.clause-clause.ensures.value over

pub last_other-other-requires-clause-others : goal.last_other-other-requires-clause-others
last_other-other-requires-clause-others c =
    let log = c.teach.new.log in
    let db : List (List Literal) = clauses_of c.args.log.now in
    let new : List (List Literal) = clauses_of log in
    let t = c.args.trail.now in
    let id = c.in_ok-taught.taught.id in
    let u : Literal = c.in_ok-taught.taught.first in
    let b : ℕ = last_start t.starts.items in
    let made = c.in_ok-taught.ensures.taught in
    let text : List Literal = clause_at new id in
    let over : (l : Literal) → Contains text l → l.var < length t.places.items = over_all t.path.items t.reasons.items t.starts.items t.places.items text t.is_trail (all_false_learnt t.path.items b text u made.asserting) in
    rw c.clause-clause.ensures.value (λ l l-in ne. front_in t.path.items b (opposite l) (made.asserting.others l l-in ne))

pub watch_new-requires-clause-first : goal.watch_new-requires-clause-first
watch_new-requires-clause-first c =
    let log = c.teach.new.log in
    let db : List (List Literal) = clauses_of c.args.log.now in
    let new : List (List Literal) = clauses_of log in
    let t = c.args.trail.now in
    let id = c.in_ok-taught.taught.id in
    let u : Literal = c.in_ok-taught.taught.first in
    let b : ℕ = last_start t.starts.items in
    let made = c.in_ok-taught.ensures.taught in
    let text : List Literal = clause_at new id in
    let over : (l : Literal) → Contains text l → l.var < length t.places.items = over_all t.path.items t.reasons.items t.starts.items t.places.items text t.is_trail (all_false_learnt t.path.items b text u made.asserting) in
    omega (arith, code_in_range u (length t.places.items) (over u made.asserting.holds_it), c.requires.lists.for_each_literal)

pub watch_new-requires-clause-other : goal.watch_new-requires-clause-other
watch_new-requires-clause-other c =
    let log = c.teach.new.log in
    let db : List (List Literal) = clauses_of c.args.log.now in
    let new : List (List Literal) = clauses_of log in
    let t = c.args.trail.now in
    let id = c.in_ok-taught.taught.id in
    let u : Literal = c.in_ok-taught.taught.first in
    let b : ℕ = last_start t.starts.items in
    let made = c.in_ok-taught.ensures.taught in
    let text : List Literal = clause_at new id in
    let over : (l : Literal) → Contains text l → l.var < length t.places.items = over_all t.path.items t.reasons.items t.starts.items t.places.items text t.is_trail (all_false_learnt t.path.items b text u made.asserting) in
    λ x e. let found = subst (λ (x : List Literal). MatchOption c.last_other-other.result ((l : Literal) → Contains x l → l ≡ u) (λ w. Contains x w × (w ≡ u → ⊥) × ((m : ℕ) → IsFalseIn (take m t.path.items) w → AllButFalseIn (take m t.path.items) u x))) c.clause-clause.ensures.value c.last_other-other.ensures in
    let there = subst (λ (o : Option Literal). MatchOption o ((l : Literal) → Contains text l → l ≡ u) (λ w. Contains text w × (w ≡ u → ⊥) × ((m : ℕ) → IsFalseIn (take m t.path.items) w → AllButFalseIn (take m t.path.items) u text))) e found in
    omega (arith, code_in_range x (length t.places.items) (over x there.0), c.requires.lists.for_each_literal)

pub push-requires-clause-inside : goal.push-requires-clause-inside
push-requires-clause-inside c =
    let log = c.teach.new.log in
    let db : List (List Literal) = clauses_of c.args.log.now in
    let new : List (List Literal) = clauses_of log in
    let t = c.args.trail.now in
    let id = c.in_ok-taught.taught.id in
    let u : Literal = c.in_ok-taught.taught.first in
    let b : ℕ = last_start t.starts.items in
    let made = c.in_ok-taught.ensures.taught in
    let text : List Literal = clause_at new id in
    let over : (l : Literal) → Contains text l → l.var < length t.places.items = over_all t.path.items t.reasons.items t.starts.items t.places.items text t.is_trail (all_false_learnt t.path.items b text u made.asserting) in
    omega (arith, over u made.asserting.holds_it, c.cut.ensures.places)

pub push-requires-clause-free : goal.push-requires-clause-free
push-requires-clause-free c =
    let log = c.teach.new.log in
    let db : List (List Literal) = clauses_of c.args.log.now in
    let new : List (List Literal) = clauses_of log in
    let t = c.args.trail.now in
    let id = c.in_ok-taught.taught.id in
    let u : Literal = c.in_ok-taught.taught.first in
    let b : ℕ = last_start t.starts.items in
    let made = c.in_ok-taught.ensures.taught in
    let text : List Literal = clause_at new id in
    let over : (l : Literal) → Contains text l → l.var < length t.places.items = over_all t.path.items t.reasons.items t.starts.items t.places.items text t.is_trail (all_false_learnt t.path.items b text u made.asserting) in
    let level = c.back_level-level.result in
    let low : level < length t.starts.items = c.back_level-level.ensures.below in
    let n : ℕ = get_or t.starts.items level 0 in
    let n-b : n ≤ b = begins_by t.starts.items n t.is_trail.rising (Contains-get_or t.starts.items level 0 low) in
    let n-in : n ≤ length t.path.items = t.is_trail.inside level low in
    let u-open : IsFalseIn (take n t.path.items) u → ⊥ = (λ f. made.asserting.not_before (front_within t.path.items n b (opposite u) n-b f)) in
    let not_unit = subst (λ (x : List Literal). (j : ℕ) → j < level → AllButFalseIn (take (get_or t.starts.items j 0) t.path.items) u x → ⊥) c.clause-clause.ensures.value c.back_level-level.ensures.not_unit in
    let unit = subst (AllButFalseIn (take n t.path.items) u) c.clause-clause.ensures.value c.back_level-level.ensures.unit in
    let cut = c.cut.new.self in
    let s : IsTrail (take n t.path.items) cut.reasons.items cut.starts.items cut.places.items = subst (λ (x : List Literal). IsTrail x cut.reasons.items cut.starts.items cut.places.items) c.cut.ensures.path cut.is_trail in
    free_after t.path.items t.reasons.items t.starts.items t.places.items n cut.starts.items cut.reasons.items cut.places.items u (get_or cut.places.items u.var None) t.is_trail s made.asserting.is_false u-open refl

pub returns-clause-search : goal.returns-clause-search
returns-clause-search c =
    let log = c.teach.new.log in
    let db : List (List Literal) = clauses_of c.args.log.now in
    let new : List (List Literal) = clauses_of log in
    let t = c.args.trail.now in
    let id = c.in_ok-taught.taught.id in
    let u : Literal = c.in_ok-taught.taught.first in
    let b : ℕ = last_start t.starts.items in
    let made = c.in_ok-taught.ensures.taught in
    let text : List Literal = clause_at new id in
    let over : (l : Literal) → Contains text l → l.var < length t.places.items = over_all t.path.items t.reasons.items t.starts.items t.places.items text t.is_trail (all_false_learnt t.path.items b text u made.asserting) in
    let level = c.back_level-level.result in
    let low : level < length t.starts.items = c.back_level-level.ensures.below in
    let n : ℕ = get_or t.starts.items level 0 in
    let n-b : n ≤ b = begins_by t.starts.items n t.is_trail.rising (Contains-get_or t.starts.items level 0 low) in
    let n-in : n ≤ length t.path.items = t.is_trail.inside level low in
    let u-open : IsFalseIn (take n t.path.items) u → ⊥ = (λ f. made.asserting.not_before (front_within t.path.items n b (opposite u) n-b f)) in
    let not_unit = subst (λ (x : List Literal). (j : ℕ) → j < level → AllButFalseIn (take (get_or t.starts.items j 0) t.path.items) u x → ⊥) c.clause-clause.ensures.value c.back_level-level.ensures.not_unit in
    let unit = subst (AllButFalseIn (take n t.path.items) u) c.clause-clause.ensures.value c.back_level-level.ensures.unit in
    let p = c.in_ok-push.ensures in
    let c' : List (List Literal) = db ++ text ∷ [] in
    let kept : IsSearch c' (take n t.path.items) (take n t.reasons.items) (take level t.starts.items) (length t.places.items) = learn_keeps db t.path.items t.reasons.items t.starts.items t.places.items text u level t.is_trail c.requires.search made.asserting low not_unit in
    let at-id : clause_at c' id ≡ text = get_or_push db text [] id.0 (sym made.id_is) in
    let why : IsReason c' (take n t.path.items) (length (take n t.path.items)) u id = record {
      in_db = omega (arith, made.id_is, length_push db text);
      holds_it = subst (λ (x : List Literal). Contains x u) (sym at-id) made.asserting.holds_it;
      others = subst (AllButFalseIn (take (length (take n t.path.items)) (take n t.path.items)) u) (sym at-id) (subst (λ (x : List Literal). AllButFalseIn x u text) (sym (take_all (length (take n t.path.items)) (take n t.path.items) (omega arith))) unit);
    } in
    let lens : length (take n t.reasons.items) ≡ length (take n t.path.items) = ap length (sym c.cut.ensures.reasons) ∙ (c.cut.new.self.is_trail.same_length ∙ ap length c.cut.ensures.path) in
    let whole : IsSearch new (take n t.path.items ++ u ∷ []) (take n t.reasons.items ++ Some id ∷ []) (take level t.starts.items) (length t.places.items) =
    subst (λ (cs : List (List Literal)). IsSearch cs (take n t.path.items ++ u ∷ []) (take n t.reasons.items ++ Some id ∷ []) (take level t.starts.items) (length t.places.items)) (sym made.clauses)
    (IsSearch-push c' (take n t.path.items) (take n t.reasons.items) (take level t.starts.items) (length t.places.items) u id lens (inside_cut t.path.items t.starts.items level low n-in t.is_trail.rising) kept why) in
    rw (p.path, p.reasons, p.starts, p.places, c.cut.ensures.path, c.cut.ensures.reasons, c.cut.ensures.starts, c.cut.ensures.places) whole

pub returns-clause-watching : goal.returns-clause-watching
returns-clause-watching c =
    let log = c.teach.new.log in
    let db : List (List Literal) = clauses_of c.args.log.now in
    let new : List (List Literal) = clauses_of log in
    let t = c.args.trail.now in
    let id = c.in_ok-taught.taught.id in
    let u : Literal = c.in_ok-taught.taught.first in
    let b : ℕ = last_start t.starts.items in
    let made = c.in_ok-taught.ensures.taught in
    let text : List Literal = clause_at new id in
    let over : (l : Literal) → Contains text l → l.var < length t.places.items = over_all t.path.items t.reasons.items t.starts.items t.places.items text t.is_trail (all_false_learnt t.path.items b text u made.asserting) in
    let level = c.back_level-level.result in
    let low : level < length t.starts.items = c.back_level-level.ensures.below in
    let n : ℕ = get_or t.starts.items level 0 in
    let n-b : n ≤ b = begins_by t.starts.items n t.is_trail.rising (Contains-get_or t.starts.items level 0 low) in
    let n-in : n ≤ length t.path.items = t.is_trail.inside level low in
    let u-open : IsFalseIn (take n t.path.items) u → ⊥ = (λ f. made.asserting.not_before (front_within t.path.items n b (opposite u) n-b f)) in
    let not_unit = subst (λ (x : List Literal). (j : ℕ) → j < level → AllButFalseIn (take (get_or t.starts.items j 0) t.path.items) u x → ⊥) c.clause-clause.ensures.value c.back_level-level.ensures.not_unit in
    let unit = subst (AllButFalseIn (take n t.path.items) u) c.clause-clause.ensures.value c.back_level-level.ensures.unit in
    let p = c.in_ok-push.ensures in
    let found = subst (λ (x : List Literal). MatchOption c.last_other-other.result ((l : Literal) → Contains x l → l ≡ u) (λ w. Contains x w × (w ≡ u → ⊥) × ((m : ℕ) → IsFalseIn (take m t.path.items) w → AllButFalseIn (take m t.path.items) u x))) c.clause-clause.ensures.value c.last_other-other.ensures in
    let head-is : c.len-head.result ≡ length (take n t.path.items) = omega (arith, c.len-head.ensures, c.cut.new.self.path.ok.0, ap length c.cut.ensures.path) in
    let q : ℕ = length (take n t.path.items) in
    let ps : List (Option Pair) = c.args.watches.now.pairs.items ++ pair_of u c.last_other-other.result ∷ [] in
    let whole : IsWatching new (take n t.path.items ++ u ∷ []) q (take level t.starts.items) ps =
    subst (λ (cs : List (List Literal)). IsWatching cs (take n t.path.items ++ u ∷ []) q (take level t.starts.items) ps) (sym made.clauses)
    (watching_learnt db text t.path.items t.starts.items c.args.watches.now.pairs.items level u (pair_of u c.last_other-other.result) low n-in t.is_trail.rising c.requires.lists.for_each_clause c.requires.watching
    (new_held t.path.items t.starts.items level text u c.last_other-other.result low n-in t.is_trail.rising made.asserting.holds_it u-open not_unit found)) in
    rw (p.path, p.starts, c.cut.ensures.path, c.cut.ensures.starts, c.in_ok-watch_new.ensures.pairs, head-is) whole
