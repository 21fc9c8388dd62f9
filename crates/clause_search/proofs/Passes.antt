-- Steps of a pass.
use Rattle.std.proofs.Common.{◌≡◌, ℕ, ◌+◌, ◌*◌, ◌<◌, ◌≤◌, Bool, true, false, cond, Option, Some, None, List, [], ◌∷◌, ◌++◌, length, get_or, set, refl, sym, ◌∙◌, ap, subst, arith, ◌⊎◌, ⊎_elim, inl, inr}
use Rattle.std.specs.List.{Contains}
use Rattle.std.proofs.lemmas.List.{get_or-set_same, get_or-set_other, get_or_default, get_or_past, get_or_append_left, get_or_push, length_push}
use Rattle.std.proofs.lemmas.List.Elements.{Contains-append_left, Contains-push, Contains-get_or}
use Rattle.std.proofs.lemmas.Bool.{cases_lt, cases_eq, cases_Bool}
use Rattle.cnf_clauses.specs.Literal.{Literal, opposite, code_of}
use Rattle.cnf_clauses.specs.declared.lit.ClauseId.{ClauseId}
use Rattle.clause_log.proofs.Resolving.{same_or_other, literal_equal, opposite-opposite, Contains-here}
use Rattle.clause_log.specs.Resolution.{clause_at}
use Rattle.clause_search.specs.declared.watch.Pair.{Pair}
use Rattle.clause_search.specs.Path.{IsFalseIn, IsClosed, IsClosedFor, IsTrail}
use Rattle.clause_search.specs.Watch.{IsWatchedAs, IsHeld, IsWatching}
use Rattle.clause_search.specs.WatchStep.{HasBoth, IsOther}
use Rattle.clause_search.specs.Lists.{IsRemoved, IsAdded}
use Rattle.clause_search.specs.Pass.{id_of, Waits, IsPassing, IsListed}
use Rattle.clause_search.proofs.Searches.{front_within}
use Rattle.clause_search.proofs.Watches.{held_push, watched_next, watched_true, watched_moved, watched_is_closed, done_is_closed, watched_whole, held_decide}

twice : (a b : Literal) (s t : Bool) → a.negated ≡ s → b.negated ≡ t → code_of a ≡ code_of b → 2 * a.var + cond s 1 0 ≡ 2 * b.var + cond t 1 0
twice a b s t e f g = ap (λ (x : Bool). 2 * a.var + cond x 1 0) (sym e) ∙ (g ∙ ap (λ (x : Bool). 2 * b.var + cond x 1 0) f)

by_signs : (a b : Literal) (s t : Bool) → a.negated ≡ s → b.negated ≡ t → code_of a ≡ code_of b → a ≡ b
by_signs a b false false e f g = literal_equal a b (omega (arith, twice a b false false e f g)) (e ∙ sym f)
by_signs a b true true e f g = literal_equal a b (omega (arith, twice a b true true e f g)) (e ∙ sym f)
by_signs a b false true e f g = absurd (omega (arith, twice a b false true e f g))
by_signs a b true false e f g = absurd (omega (arith, twice a b true false e f g))

-- literals of one number are one
pub code_same : (a b : Literal) → code_of a ≡ code_of b → a ≡ b
code_same a b e = by_signs a b a.negated b.negated refl refl e

-- a list that is read at one place
pub waits_next : (ids : List ClauseId) (i k : ℕ) (id : ClauseId) → id ≡ get_or ids i id → Waits i ids k → (k ≡ id.0) ⊎ Waits (i + 1) ids k
waits_next ids i k id id-is (j, low, j-in, is) =
    ⊎_elim (λ same. inl (ap (λ (x : ClauseId). x.0) (sym (is id) ∙ (ap (λ (m : ℕ). get_or ids m id) same ∙ sym id-is)))) (λ ne. inr (j, omega arith, j-in, is)) (cases_eq j i)

pub waits_removed : (old new : List (List ClauseId)) (at i k : ℕ) (id : ClauseId) → IsRemoved old new at i → id ≡ get_or (get_or old at []) i id → (k ≡ id.0 → ⊥) → Waits i (get_or old at []) k → Waits i (get_or new at []) k
waits_removed old new at i k id r id-is ne (j, low, j-in, is) =
    ⊎_elim (λ same. absurd (ne (ap (λ (x : ClauseId). x.0) (sym (is id) ∙ (ap (λ (m : ℕ). get_or (get_or old at []) m id) same ∙ sym id-is)))))
    (λ other. let there = r.later j id (omega arith) j-in in
    (there.0, there.1, there.2, (λ d. get_or_default (get_or new at []) there.0 d id there.2 ∙ (there.3 ∙ is id)))) (cases_eq j i)

-- what stands in a list after one is taken out
pub listed_removed : (old new : List (List ClauseId)) (at i k c : ℕ) (id : ClauseId) → i < length (get_or old at []) → IsRemoved old new at i → id ≡ get_or (get_or old at []) i id → (k ≡ id.0 → ⊥) → Contains (get_or old c []) (id_of k) → Contains (get_or new c []) (id_of k)
listed_removed old new at i k c id i-in r id-is ne (j, j-in, is) =
    ⊎_elim (λ here. let j-in' : j < length (get_or old at []) = subst (λ (m : ℕ). j < length (get_or old m [])) here j-in in
    let is' : get_or (get_or old at []) j (id_of k) ≡ id_of k = subst (λ (m : ℕ). get_or (get_or old m []) j (id_of k) ≡ id_of k) here is in
    subst (λ (m : ℕ). Contains (get_or new m []) (id_of k)) (sym here)
    (⊎_elim (λ same. absurd (ne (ap (λ (x : ClauseId). x.0) (sym is' ∙ (ap (λ (m : ℕ). get_or (get_or old at []) m (id_of k)) same ∙ (get_or_default (get_or old at []) i (id_of k) id (subst (λ (m : ℕ). m < length (get_or old at [])) same j-in') ∙ sym id-is))))))
    (λ other. ⊎_elim (λ lt. (j, omega (arith, r.shorter), r.before j (id_of k) lt ∙ is'))
    (λ ge. let there = r.later j (id_of k) (omega arith) j-in' in (there.0, there.2, there.3 ∙ is')) (cases_lt j i)) (cases_eq j i)))
    (λ away. subst (λ (ys : List ClauseId). Contains ys (id_of k)) (sym (r.others c away)) (j, j-in, is)) (cases_eq c at)

pub listed_away : (old new : List (List ClauseId)) (at i c : ℕ) (x : ClauseId) → IsRemoved old new at i → (c ≡ at → ⊥) → Contains (get_or old c []) x → Contains (get_or new c []) x
listed_away old new at i c x r away h = subst (λ (ys : List ClauseId). Contains ys x) (sym (r.others c away)) h

pub listed_added : (old new : List (List ClauseId)) (at c : ℕ) (id x : ClauseId) → IsAdded old new at id → Contains (get_or old c []) x → Contains (get_or new c []) x
listed_added old new at c id x a h =
    ⊎_elim (λ here. subst (λ (m : ℕ). Contains (get_or new m []) x) (sym here) (subst (λ (ys : List ClauseId). Contains ys x) (sym a.there) (Contains-append_left (get_or old at []) (id ∷ []) x (subst (λ (m : ℕ). Contains (get_or old m []) x) here h))))
    (λ away. subst (λ (ys : List ClauseId). Contains ys x) (sym (a.others c away)) h) (cases_eq c at)

-- held past q is held as far as q
pub held_back : (path : List Literal) (q : ℕ) (starts : List ℕ) (c : List Literal) (a b : Literal) → IsWatchedAs path (q + 1) starts c a b → IsWatchedAs path q starts c a b
held_back path q starts c a b w = record {
  first_in = w.first_in;
  second_in = w.second_in;
  different = w.different;
  now = record {
    first = λ f. w.now.first (front_within path q (q + 1) (opposite a) (omega arith) f);
    second = λ f. w.now.second (front_within path q (q + 1) (opposite b) (omega arith) f);
  };
  at_starts = w.at_starts;
}

-- the other watched literal is true: nothing is to be done
pub held_true : (path : List Literal) (reasons : List (Option ClauseId)) (starts : List ℕ) (places : List (Option ℕ)) (q : ℕ) (c : List Literal) (p : Pair) (gone other : Literal) → IsTrail path reasons starts places → HasBoth p gone other → Contains path other → IsWatchedAs path q starts c p.first p.second → IsWatchedAs path (q + 1) starts c p.first p.second
held_true path reasons starts places q c p gone other t both is-true w = record {
  first_in = w.first_in;
  second_in = w.second_in;
  different = w.different;
  now = ⊎_elim (λ (g, o). watched_true path reasons starts places (q + 1) p.first p.second t (subst (Contains path) (sym o) is-true))
      (λ (g, o). let turned = watched_true path reasons starts places (q + 1) p.second p.first t (subst (Contains path) (sym o) is-true) in record { first = turned.second; second = turned.first }) both;
  at_starts = w.at_starts;
}

waits_from : (ids : List ClauseId) (k : ℕ) → Contains ids (id_of k) → Waits 0 ids k
waits_from ids k (j, j-in, is) = (j, omega arith, j-in, (λ d. get_or_default ids j d (id_of k) j-in ∙ is))

start_at : (db : List (List Literal)) (path : List Literal) (q : ℕ) (starts : List ℕ) (pairs : List (Option Pair)) (lists : List (List ClauseId)) (gone d : Literal) (k : ℕ) (o : Option Pair) → q < length path → gone ≡ opposite (get_or path q d) → IsListed pairs lists → get_or pairs k None ≡ o → IsHeld path q starts (get_or db k []) o → Waits 0 (get_or lists (code_of gone) []) k ⊎ IsHeld path (q + 1) starts (get_or db k []) o
start_at db path q starts pairs lists gone d k None h gone-is listed e w = inr record { now = w.now; at_starts = w.at_starts }
start_at db path q starts pairs lists gone d k (Some p) h gone-is listed e w =
    ⊎_elim (λ first. inl (waits_from (get_or lists (code_of gone) []) k (subst (λ (l : Literal). Contains (get_or lists (code_of l) []) (id_of k)) first (listed k p e).0)))
    (λ first-other. ⊎_elim (λ second. inl (waits_from (get_or lists (code_of gone) []) k (subst (λ (l : Literal). Contains (get_or lists (code_of l) []) (id_of k)) second (listed k p e).1)))
    (λ second-other. inr record { first_in = w.first_in; second_in = w.second_in; different = w.different; now = watched_next path q p.first p.second gone d h gone-is w.now first-other second-other; at_starts = w.at_starts }) (same_or_other p.second gone)) (same_or_other p.first gone)

-- the pass begins: who watches the literal waits
pub passing_start : (db : List (List Literal)) (path : List Literal) (q : ℕ) (starts : List ℕ) (pairs : List (Option Pair)) (lists : List (List ClauseId)) (gone d : Literal) → q < length path → gone ≡ opposite (get_or path q d) → IsListed pairs lists → IsWatching db path q starts pairs → IsPassing db path q starts pairs (get_or lists (code_of gone) []) 0
passing_start db path q starts pairs lists gone d h gone-is listed w k k-in = (w k k-in, start_at db path q starts pairs lists gone d k (get_or pairs k None) h gone-is listed refl (w k k-in))

-- a literal more
pub passing_push : (db : List (List Literal)) (path : List Literal) (q : ℕ) (starts : List ℕ) (pairs : List (Option Pair)) (ids : List ClauseId) (i : ℕ) (l : Literal) → q < length path → ((j : ℕ) → j < length starts → get_or starts j 0 ≤ length path) → IsPassing db path q starts pairs ids i → IsPassing db (path ++ l ∷ []) q starts pairs ids i
passing_push db path q starts pairs ids i l low inside w k k-in =
    let at = w k k-in in (
      held_push path q starts (get_or db k []) l (get_or pairs k None) (omega arith) inside at.0,
      ⊎_elim (λ waits. inl waits) (λ held. inr (held_push path (q + 1) starts (get_or db k []) l (get_or pairs k None) (omega arith) inside held)) at.1,
    )

kept_at : (db : List (List Literal)) (path : List Literal) (reasons : List (Option ClauseId)) (starts : List ℕ) (places : List (Option ℕ)) (q : ℕ) (pairs : List (Option Pair)) (k : ℕ) (id : ClauseId) (p : Pair) (gone other : Literal) → IsTrail path reasons starts places → k ≡ id.0 → get_or pairs id.0 None ≡ Some p → HasBoth p gone other → Contains path other → IsHeld path q starts (get_or db k []) (get_or pairs k None) → IsHeld path (q + 1) starts (get_or db k []) (get_or pairs k None)
kept_at db path reasons starts places q pairs k id p gone other t same p-is both is-true w =
    let here : get_or pairs k None ≡ Some p = ap (λ (m : ℕ). get_or pairs m None) same ∙ p-is in
    subst (IsHeld path (q + 1) starts (get_or db k [])) (sym here) (held_true path reasons starts places q (get_or db k []) p gone other t both is-true (subst (IsHeld path q starts (get_or db k [])) here w))

-- the entry is kept
pub passing_kept : (db : List (List Literal)) (path : List Literal) (reasons : List (Option ClauseId)) (starts : List ℕ) (places : List (Option ℕ)) (q : ℕ) (pairs : List (Option Pair)) (ids : List ClauseId) (i : ℕ) (id : ClauseId) (p : Pair) (gone other : Literal) → IsTrail path reasons starts places → id ≡ get_or ids i id → get_or pairs id.0 None ≡ Some p → HasBoth p gone other → Contains path other → IsPassing db path q starts pairs ids i → IsPassing db path q starts pairs ids (i + 1)
passing_kept db path reasons starts places q pairs ids i id p gone other t id-is p-is both is-true w k k-in =
    let at = w k k-in in
    (at.0, ⊎_elim (λ waits. ⊎_elim (λ same. inr (kept_at db path reasons starts places q pairs k id p gone other t same p-is both is-true at.0)) (λ on. inl on) (waits_next ids i k id id-is waits)) (λ held. inr held) at.1)

turn : (path : List Literal) (q : ℕ) (starts : List ℕ) (c : List Literal) (a b : Literal) → IsWatchedAs path q starts c a b → IsWatchedAs path q starts c b a
turn path q starts c a b w = record {
  first_in = w.second_in;
  second_in = w.first_in;
  different = λ e. w.different (sym e);
  now = record { first = w.now.second; second = w.now.first };
  at_starts = λ j h. let x = w.at_starts j h in record { first = x.second; second = x.first };
}

pair_same : (s : Pair) (a b : Literal) → Some s ≡ Some record { first = a; second = b } → (s.first ≡ a) × (s.second ≡ b)
pair_same s a b e = let same : s ≡ record { first = a; second = b } = cc in (ap (λ (x : Pair). x.first) same, ap (λ (x : Pair). x.second) same)

id_same : (id : ClauseId) (k : ℕ) → k ≡ id.0 → id ≡ id_of k
id_same id k e = ap id_of (sym e)

stale_at : (db : List (List Literal)) (path : List Literal) (q : ℕ) (starts : List ℕ) (pairs : List (Option Pair)) (k : ℕ) (id : ClauseId) (o : Option Pair) (gone d : Literal) → q < length path → gone ≡ opposite (get_or path q d) → IsOther o gone None → IsHeld path q starts (get_or db k []) o → IsHeld path (q + 1) starts (get_or db k []) o
stale_at db path q starts pairs k id None gone d h gone-is none w = record { now = w.now; at_starts = w.at_starts }
stale_at db path q starts pairs k id (Some p) gone d h gone-is (a, b) w = record { first_in = w.first_in; second_in = w.second_in; different = w.different; now = watched_next path q p.first p.second gone d h gone-is w.now a b; at_starts = w.at_starts }

moved_at : (path : List Literal) (reasons : List (Option ClauseId)) (starts : List ℕ) (places : List (Option ℕ)) (q : ℕ) (c : List Literal) (p : Pair) (gone other l d : Literal) → IsTrail path reasons starts places → q < length path → gone ≡ opposite (get_or path q d) → HasBoth p gone other → IsWatchedAs path q starts c p.first p.second → Contains c l → (l ≡ other → ⊥) → (IsFalseIn path l → ⊥) → IsWatchedAs path (q + 1) starts c other l
moved_at path reasons starts places q c p gone other l d t h gone-is both w l-in l-other l-open =
    ⊎_elim (λ (g, o). watched_moved path reasons starts places q c gone other l d t h gone-is (subst (λ (x : Literal). IsWatchedAs path q starts c x other) g (subst (IsWatchedAs path q starts c p.first) o w)) l-in l-other l-open)
    (λ (g, o). watched_moved path reasons starts places q c gone other l d t h gone-is (subst (λ (x : Literal). IsWatchedAs path q starts c x other) g (subst (IsWatchedAs path q starts c p.second) o (turn path q starts c p.first p.second w))) l-in l-other l-open) both

held_closed : (path : List Literal) (reasons : List (Option ClauseId)) (starts : List ℕ) (places : List (Option ℕ)) (q : ℕ) (c : List Literal) (o : Option Pair) → IsTrail path reasons starts places → length path ≤ q → (c ≡ [] → ⊥) → IsHeld path q starts c o → IsClosed path c
held_closed path reasons starts places q [] o t rest some w = absurd (some refl)
held_closed path reasons starts places q (x ∷ xs) None t rest some w = done_is_closed path reasons starts places (x ∷ xs) x t (Contains-here x xs) w.now
held_closed path reasons starts places q (x ∷ xs) (Some p) t rest some w = watched_is_closed path reasons starts places (x ∷ xs) p.first p.second t w.first_in w.second_in w.different (watched_whole path q p.first p.second rest w.now)

-- a clause that doesn't watch the literal is out of the list
pub passing_stale : (db : List (List Literal)) (path : List Literal) (q : ℕ) (starts : List ℕ) (pairs : List (Option Pair)) (old new : List (List ClauseId)) (at i : ℕ) (id : ClauseId) (gone d : Literal) → q < length path → gone ≡ opposite (get_or path q d) → IsRemoved old new at i → id ≡ get_or (get_or old at []) i id → IsOther (get_or pairs id.0 None) gone None → IsPassing db path q starts pairs (get_or old at []) i → IsPassing db path q starts pairs (get_or new at []) i
passing_stale db path q starts pairs old new at i id gone d h gone-is r id-is none w k k-in =
    let here = w k k-in in (
      here.0,
      ⊎_elim (λ waits. ⊎_elim (λ same. inr (stale_at db path q starts pairs k id (get_or pairs k None) gone d h gone-is (subst (λ (m : ℕ). IsOther (get_or pairs m None) gone None) (sym same) none) here.0))
          (λ ne. inl (waits_removed old new at i k id r id-is ne waits)) (cases_eq k id.0)) (λ held. inr held) here.1,
    )

-- another literal is watched
pub passing_moved : (db : List (List Literal)) (path : List Literal) (reasons : List (Option ClauseId)) (starts : List ℕ) (places : List (Option ℕ)) (q : ℕ) (pairs : List (Option Pair)) (old new : List (List ClauseId)) (at i : ℕ) (id : ClauseId) (p : Pair) (gone other l d : Literal) → IsTrail path reasons starts places → q < length path → gone ≡ opposite (get_or path q d) → id.0 < length pairs → IsRemoved old new at i → id ≡ get_or (get_or old at []) i id → get_or pairs id.0 None ≡ Some p → HasBoth p gone other → Contains (clause_at db id) l → (l ≡ other → ⊥) → (IsFalseIn path l → ⊥) → IsPassing db path q starts pairs (get_or old at []) i
    → IsPassing db path q starts (set pairs id.0 (Some record { first = other; second = l })) (get_or new at []) i
passing_moved db path reasons starts places q pairs old new at i id p gone other l d t h gone-is room r id-is p-is both l-in l-other l-open w k k-in =
    let here = w k k-in in
    ⊎_elim (λ same.
    let now : get_or (set pairs id.0 (Some record { first = other; second = l })) k None ≡ Some record { first = other; second = l } = ap (λ (m : ℕ). get_or (set pairs id.0 (Some record { first = other; second = l })) m None) same ∙ get_or-set_same pairs id.0 (Some record { first = other; second = l }) None room in
    let held : IsWatchedAs path (q + 1) starts (get_or db k []) other l =
    moved_at path reasons starts places q (get_or db k []) p gone other l d t h gone-is both (subst (IsHeld path q starts (get_or db k [])) (ap (λ (m : ℕ). get_or pairs m None) same ∙ p-is) here.0) (subst (λ (m : ℕ). Contains (get_or db m []) l) (sym same) l-in) l-other l-open in
    (subst (IsHeld path q starts (get_or db k [])) (sym now) (held_back path q starts (get_or db k []) other l held), inr (subst (IsHeld path (q + 1) starts (get_or db k [])) (sym now) held)))
    (λ ne.
    let kept : get_or (set pairs id.0 (Some record { first = other; second = l })) k None ≡ get_or pairs k None = get_or-set_other pairs id.0 k (Some record { first = other; second = l }) None ne in (
      subst (IsHeld path q starts (get_or db k [])) (sym kept) here.0,
      ⊎_elim (λ waits. inl (waits_removed old new at i k id r id-is ne waits)) (λ held. inr (subst (IsHeld path (q + 1) starts (get_or db k [])) (sym kept) held)) here.1,
    )) (cases_eq k id.0)

-- the lists stay complete
pub listed_stale : (pairs : List (Option Pair)) (old new : List (List ClauseId)) (i : ℕ) (id : ClauseId) (gone : Literal) → i < length (get_or old (code_of gone) []) → IsRemoved old new (code_of gone) i → id ≡ get_or (get_or old (code_of gone) []) i id → IsOther (get_or pairs id.0 None) gone None → IsListed pairs old → IsListed pairs new
listed_stale pairs old new i id gone i-in r id-is none listed k p p-is =
    let at = listed k p p-is in
    ⊎_elim (λ same. let apart : (p.first ≡ gone → ⊥) × (p.second ≡ gone → ⊥) = subst (λ (o : Option Pair). IsOther o gone None) (ap (λ (m : ℕ). get_or pairs m None) (sym same) ∙ p-is) none in (
      listed_away old new (code_of gone) i (code_of p.first) (id_of k) r (λ e. apart.0 (code_same p.first gone e)) at.0,
      listed_away old new (code_of gone) i (code_of p.second) (id_of k) r (λ e. apart.1 (code_same p.second gone e)) at.1,
    ))
    (λ ne. (listed_removed old new (code_of gone) i k (code_of p.first) id i-in r id-is ne at.0, listed_removed old new (code_of gone) i k (code_of p.second) id i-in r id-is ne at.1)) (cases_eq k id.0)

pub listed_moved : (pairs : List (Option Pair)) (old more new : List (List ClauseId)) (i : ℕ) (id : ClauseId) (p : Pair) (gone other l : Literal) → id.0 < length pairs → i < length (get_or more (code_of gone) []) → IsAdded old more (code_of l) id → IsRemoved more new (code_of gone) i → id ≡ get_or (get_or more (code_of gone) []) i id → get_or pairs id.0 None ≡ Some p → HasBoth p gone other → (other ≡ gone → ⊥) → (l ≡ gone → ⊥) → IsListed pairs old → IsListed (set pairs id.0 (Some record { first = other; second = l })) new
listed_moved pairs old more new i id p gone other l room i-in a r id-is p-is both other-ne l-ne listed k s s-is =
    ⊎_elim (λ same.
    let now : Some s ≡ Some record { first = other; second = l } = sym s-is ∙ (ap (λ (m : ℕ). get_or (set pairs id.0 (Some record { first = other; second = l })) m None) same ∙ get_or-set_same pairs id.0 (Some record { first = other; second = l }) None room) in
    let first-is : other ≡ s.first = sym (pair_same s other l now).0 in
    let second-is : l ≡ s.second = sym (pair_same s other l now).1 in
    let id-k : id ≡ id_of k = id_same id k same in
    let was : Contains (get_or old (code_of other) []) id = ⊎_elim (λ (g, o). subst (λ (x : Literal). Contains (get_or old (code_of x) []) id) o (listed id.0 p p-is).1) (λ (g, o). subst (λ (x : Literal). Contains (get_or old (code_of x) []) id) o (listed id.0 p p-is).0) both in (
      subst (λ (x : Literal). Contains (get_or new (code_of x) []) (id_of k)) first-is (subst (Contains (get_or new (code_of other) [])) id-k
          (listed_away more new (code_of gone) i (code_of other) id r (λ e. other-ne (code_same other gone e)) (listed_added old more (code_of l) (code_of other) id id a was))),
      subst (λ (x : Literal). Contains (get_or new (code_of x) []) (id_of k)) second-is (subst (Contains (get_or new (code_of l) [])) id-k
          (listed_away more new (code_of gone) i (code_of l) id r (λ e. l-ne (code_same l gone e)) (subst (λ (ys : List ClauseId). Contains ys id) (sym a.there) (Contains-push (get_or old (code_of l) []) id)))),
    ))
    (λ ne.
    let at = listed k s (sym (get_or-set_other pairs id.0 k (Some record { first = other; second = l }) None ne) ∙ s-is) in (
      listed_removed more new (code_of gone) i k (code_of s.first) id i-in r id-is ne (listed_added old more (code_of l) (code_of s.first) id (id_of k) a at.0),
      listed_removed more new (code_of gone) i k (code_of s.second) id i-in r id-is ne (listed_added old more (code_of l) (code_of s.second) id (id_of k) a at.1),
    )) (cases_eq k id.0)

-- at rest each clause is closed: the contract of plain propagation
pub watching_is_closed : (db : List (List Literal)) (path : List Literal) (reasons : List (Option ClauseId)) (starts : List ℕ) (places : List (Option ℕ)) (q : ℕ) (pairs : List (Option Pair)) → IsTrail path reasons starts places → length path ≤ q → ((k : ℕ) → k < length db → get_or db k [] ≡ [] → ⊥) → IsWatching db path q starts pairs → IsClosedFor path db
watching_is_closed db path reasons starts places q pairs t rest some w k k-in = held_closed path reasons starts places q (get_or db k []) (get_or pairs k None) t rest (some k k-in) (w k k-in)

pub has_pair : (o : Option Pair) (gone other : Literal) → IsOther o gone (Some other) → (p : Pair) × (o ≡ Some p) × HasBoth p gone other
has_pair None gone other h = absurd h
has_pair (Some p) gone other h = (p, refl, h)

pub passing_along : (db : List (List Literal)) (path new : List Literal) (q : ℕ) (starts later : List ℕ) (pairs : List (Option Pair)) (ids : List ClauseId) (i : ℕ) → new ≡ path → later ≡ starts → IsPassing db path q starts pairs ids i → IsPassing db new q later pairs ids i
passing_along db path new q starts later pairs ids i e f w = subst (λ (p : List Literal). IsPassing db p q later pairs ids i) (sym e) (subst (λ (s : List ℕ). IsPassing db path q s pairs ids i) (sym f) w)

-- the literal that is gone is false, and so is no literal that isn't
pub gone_is_false : (path : List Literal) (q : ℕ) (gone d : Literal) → q < length path → gone ≡ opposite (get_or path q d) → IsFalseIn path gone
gone_is_false path q gone d h e = subst (Contains path) (sym (opposite-opposite (get_or path q d)) ∙ ap opposite (sym e)) (Contains-get_or path q d h)

pub not_gone : (path : List Literal) (l gone : Literal) → IsFalseIn path gone → (IsFalseIn path l → ⊥) → l ≡ gone → ⊥
not_gone path l gone f l-open e = l-open (subst (IsFalseIn path) (sym e) f)

-- the other watched literal isn't the one that is gone
pub other_not_gone : (path : List Literal) (q : ℕ) (starts : List ℕ) (c : List Literal) (p : Pair) (gone other : Literal) → HasBoth p gone other → IsWatchedAs path q starts c p.first p.second → other ≡ gone → ⊥
other_not_gone path q starts c p gone other both w e = ⊎_elim (λ (g, o). w.different (g ∙ (sym e ∙ sym o))) (λ (g, o). w.different (o ∙ (e ∙ sym g))) both

none_is_some : (p : Pair) → None ≡ Some p → ⊥
none_is_some p e = cc

pub code_in_range : (l : Literal) (n : ℕ) → l.var < n → code_of l < 2 * n
code_in_range l n h = let sign : Bool → ℕ = λ (s : Bool). cond s 1 0 in ⊎_elim (λ is. omega (arith, ap sign is)) (λ is. omega (arith, ap sign is)) (cases_Bool l.negated)

pub pair_in_range : (ps : List (Option Pair)) (k : ℕ) (p : Pair) → get_or ps k None ≡ Some p → k < length ps
pair_in_range ps k p e = ⊎_elim (λ lt. lt) (λ ge. absurd (none_is_some p (sym (get_or_past ps k None ge) ∙ e))) (cases_lt k (length ps))

inside_more : (path : List Literal) (starts : List ℕ) → ((j : ℕ) → j < length starts → get_or starts j 0 ≤ length path) → (j : ℕ) → j < length (starts ++ length path ∷ []) → get_or (starts ++ length path ∷ []) j 0 ≤ length path
inside_more path starts inside j h = ⊎_elim (λ lt. omega (arith, get_or_append_left starts (length path ∷ []) 0 j lt, inside j lt)) (λ ge. omega (arith, get_or_push starts (length path) 0 j (omega (arith, length_push starts (length path))))) (cases_lt j (length starts))

pub watching_decide : (db : List (List Literal)) (path : List Literal) (starts : List ℕ) (pairs : List (Option Pair)) (l : Literal) → ((j : ℕ) → j < length starts → get_or starts j 0 ≤ length path) → IsWatching db path (length path) starts pairs → IsWatching db (path ++ l ∷ []) (length path) (starts ++ length path ∷ []) pairs
watching_decide db path starts pairs l inside w k k-in =
    held_push path (length path) (starts ++ length path ∷ []) (get_or db k []) l (get_or pairs k None) (omega arith) (inside_more path starts inside) (held_decide path (length path) starts (get_or db k []) (get_or pairs k None) (omega arith) (w k k-in))
