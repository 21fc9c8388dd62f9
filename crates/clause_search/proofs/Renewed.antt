-- A learnt clause is watched.
use Rattle.std.proofs.Common.{◌≡◌, ℕ, ◌<◌, ◌≤◌, Option, Some, None, List, [], ◌∷◌, ◌++◌, length, take, get_or, sym, ◌∙◌, ap, subst, arith, ⊎_elim}
use Rattle.std.specs.Option.{MatchOption}
use Rattle.std.specs.List.{Contains}
use Rattle.std.proofs.lemmas.List.{get_or_append_left, get_or_push, length_push, get_or-take, length-take, take-take, take_all, take-append-le, get_or_default}
use Rattle.std.proofs.lemmas.List.Elements.{Contains-push}
use Rattle.std.proofs.lemmas.Bool.{cases_lt}
use Rattle.cnf_clauses.specs.Literal.{Literal, opposite, code_of}
use Rattle.cnf_clauses.specs.declared.lit.ClauseId.{ClauseId}
use Rattle.clause_log.proofs.Resolving.{same_or_other}
use Rattle.clause_search.specs.declared.watch.Pair.{Pair}
use Rattle.clause_search.specs.Path.{IsFalseIn, AllButFalseIn, IsTrail}
use Rattle.clause_search.specs.Watch.{AreWatched, IsHeld, IsWatching}
use Rattle.clause_search.specs.Lists.{IsAdded}
use Rattle.clause_search.specs.Pass.{id_of, IsListed, pair_of}
use Rattle.clause_search.proofs.Paths.{consistent, other_sign}
use Rattle.clause_search.proofs.Searches.{front_in, front_within}
use Rattle.clause_search.proofs.Watches.{held_push, held_cut, watched_learnt}
use Rattle.clause_search.proofs.Passes.{listed_added, pair_in_range}

-- after the cut the learnt literal has no place
default_same : (xs : List Literal) (p : ℕ) (d e : Literal) → p < length xs → get_or xs p e ≡ get_or xs p d
default_same xs p d e h = get_or_default xs p e d h

pair_inside : (p s : Pair) → Some p ≡ Some s → p ≡ s
pair_inside p s e = cc

pub inside_cut : (path : List Literal) (starts : List ℕ) (level : ℕ) → level < length starts → get_or starts level 0 ≤ length path → ((i j : ℕ) → i < j → j < length starts → get_or starts i 0 ≤ get_or starts j 0) → (j : ℕ) → j < length (take level starts) → get_or (take level starts) j 0 ≤ length (take (get_or starts level 0) path)
inside_cut path starts level low inside rising j h =
    let j-low : j < level = omega (arith, length-take level starts) in
    omega (arith, get_or-take level starts j 0 j-low, rising j level j-low low, length-take (get_or starts level 0) path)

pub free_after : (path : List Literal) (reasons : List (Option ClauseId)) (starts : List ℕ) (places : List (Option ℕ)) (n : ℕ) (later : List ℕ) (fewer : List (Option ClauseId)) (new : List (Option ℕ)) (u : Literal) (o : Option ℕ) → IsTrail path reasons starts places → IsTrail (take n path) fewer later new → IsFalseIn path u → (IsFalseIn (take n path) u → ⊥) → get_or new u.var None ≡ o → get_or new u.var None ≡ None
free_after path reasons starts places n later fewer new u None t s f ne e = e
free_after path reasons starts places n later fewer new u (Some p) t s f ne e =
    let at = s.standing u.var p u e in
    ⊎_elim (λ same. absurd (consistent path reasons starts places u t (front_in path n u (p, at.0, same)) f))
    (λ other. absurd (ne (p, at.0, default_same (take n path) p u (opposite u) at.0 ∙ other_sign (get_or (take n path) p u) u at.1 other))) (same_or_other (get_or (take n path) p u) u)

pub new_held : (path : List Literal) (starts : List ℕ) (level : ℕ) (c : List Literal) (u : Literal) (o : Option Literal) → level < length starts → get_or starts level 0 ≤ length path → ((i j : ℕ) → i < j → j < length starts → get_or starts i 0 ≤ get_or starts j 0) → Contains c u
    → (IsFalseIn (take (get_or starts level 0) path) u → ⊥) → ((j : ℕ) → j < level → AllButFalseIn (take (get_or starts j 0) path) u c → ⊥)
    → MatchOption o ((l : Literal) → Contains c l → l ≡ u) (λ w. Contains c w × (w ≡ u → ⊥) × ((n : ℕ) → IsFalseIn (take n path) w → AllButFalseIn (take n path) u c))
    → IsHeld (take (get_or starts level 0) path ++ u ∷ []) (length (take (get_or starts level 0) path)) (take level starts) c (pair_of u o)
new_held path starts level c u None low inside rising u-in u-open not_unit all = record {
  now = λ l l-in. subst (Contains (take (get_or starts level 0) path ++ u ∷ [])) (sym (all l l-in)) (Contains-push (take (get_or starts level 0) path) u);
  at_starts = λ j h l l-in. absurd (not_unit j (omega (arith, length-take level starts)) (λ m m-in ne. absurd (ne (all m m-in))));
}
new_held path starts level c u (Some w) low inside rising u-in u-open not_unit (w-in, w-ne, last) =
    let n : ℕ = get_or starts level 0 in
    record {
      first_in = u-in;
      second_in = w-in;
      different = λ e. w-ne (sym e);
      now = record {
        first = λ f. absurd (u-open (subst (λ (p : List Literal). IsFalseIn p u) (take-append-le (length (take n path)) (take n path) (u ∷ []) (omega arith) ∙ take_all (length (take n path)) (take n path) (omega arith)) f));
        second = λ f. Contains-push (take n path) u;
      };
      at_starts = λ j h. let j-low : j < level = omega (arith, length-take level starts) in
          let m : ℕ = get_or starts j 0 in
          let m-n : m ≤ n = rising j level j-low low in
          subst (λ (k : ℕ). AreWatched (take k (take n path ++ u ∷ [])) u w) (sym (get_or-take level starts j 0 j-low))
          (subst (λ (p : List Literal). AreWatched p u w) (sym (take-append-le m (take n path) (u ∷ []) (omega (arith, length-take n path)) ∙ take-take m n path m-n))
          (watched_learnt path m c u w (λ f. u-open (front_within path m n (opposite u) m-n f)) (not_unit j j-low) (last m)));
    }

-- all clauses, with the new one
pub watching_learnt : (db : List (List Literal)) (c : List Literal) (path : List Literal) (starts : List ℕ) (pairs : List (Option Pair)) (level : ℕ) (u : Literal) (o : Option Pair) → level < length starts → get_or starts level 0 ≤ length path → ((i j : ℕ) → i < j → j < length starts → get_or starts i 0 ≤ get_or starts j 0) → length pairs ≡ length db → IsWatching db path 0 starts pairs
    → IsHeld (take (get_or starts level 0) path ++ u ∷ []) (length (take (get_or starts level 0) path)) (take level starts) c o
    → IsWatching (db ++ c ∷ []) (take (get_or starts level 0) path ++ u ∷ []) (length (take (get_or starts level 0) path)) (take level starts) (pairs ++ o ∷ [])
watching_learnt db c path starts pairs level u o low inside rising lens w new k k-in =
    let n : ℕ = get_or starts level 0 in
    let Held : List Literal → Option Pair → Type 0 = IsHeld (take n path ++ u ∷ []) (length (take n path)) (take level starts) in
    ⊎_elim (λ lt. subst (λ (x : List Literal). Held x (get_or (pairs ++ o ∷ []) k None)) (sym (get_or_append_left db (c ∷ []) [] k lt))
    (subst (Held (get_or db k [])) (sym (get_or_append_left pairs (o ∷ []) None k (omega arith)))
    (held_push (take n path) (length (take n path)) (take level starts) (get_or db k []) u (get_or pairs k None) (omega arith) (inside_cut path starts level low inside rising)
    (held_cut path 0 (length (take n path)) starts (get_or db k []) (get_or pairs k None) level low rising (w k lt)))))
    (λ ge. let k-is : length db ≡ k = omega (arith, length_push db c) in
    subst (λ (x : List Literal). Held x (get_or (pairs ++ o ∷ []) k None)) (sym (get_or_push db c [] k k-is))
    (subst (Held c) (sym (get_or_push pairs o None k (lens ∙ k-is))) new)) (cases_lt k (length db))

pub listed_new : (pairs : List (Option Pair)) (old more new : List (List ClauseId)) (id : ClauseId) (a b : Literal) → id.0 ≡ length pairs → IsAdded old more (code_of a) id → IsAdded more new (code_of b) id → IsListed pairs old → IsListed (pairs ++ Some record { first = a; second = b } ∷ []) new
listed_new pairs old more new id a b id-is add1 add2 all k p e =
    ⊎_elim (λ lt. let at = all k p (sym (get_or_append_left pairs (Some record { first = a; second = b } ∷ []) None k lt) ∙ e) in (
      listed_added more new (code_of b) (code_of p.first) id (id_of k) add2 (listed_added old more (code_of a) (code_of p.first) id (id_of k) add1 at.0),
      listed_added more new (code_of b) (code_of p.second) id (id_of k) add2 (listed_added old more (code_of a) (code_of p.second) id (id_of k) add1 at.1),
    ))
    (λ ge. let k-is : length pairs ≡ k = omega (arith, length_push {X = Option Pair} pairs (Some record { first = a; second = b }), pair_in_range (pairs ++ Some record { first = a; second = b } ∷ []) k p e) in
    let same : record { first = a; second = b } ≡ p = pair_inside record { first = a; second = b } p (sym (get_or_push pairs (Some record { first = a; second = b }) None k k-is) ∙ e) in
    let id-k : id ≡ id_of k = ap id_of (id-is ∙ k-is) in
    let first-is : a ≡ p.first = ap (λ (x : Pair). x.first) same in
    let second-is : b ≡ p.second = ap (λ (x : Pair). x.second) same in (
      subst (λ (l : Literal). Contains (get_or new (code_of l) []) (id_of k)) first-is (subst (Contains (get_or new (code_of a) [])) id-k
          (listed_added more new (code_of b) (code_of a) id id add2 (subst (λ (ys : List ClauseId). Contains ys id) (sym add1.there) (Contains-push (get_or old (code_of a) []) id)))),
      subst (λ (l : Literal). Contains (get_or new (code_of l) []) (id_of k)) second-is (subst (Contains (get_or new (code_of b) [])) id-k
          (subst (λ (ys : List ClauseId). Contains ys id) (sym add2.there) (Contains-push (get_or more (code_of b) []) id))),
    )) (cases_lt k (length pairs))
