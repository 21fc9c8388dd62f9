-- What two watched literals show, and how it lasts.
use Rattle.std.proofs.Common.{◌≡◌, ℕ, ◌+◌, ◌<◌, ◌≤◌, Option, Some, None, List, [], ◌∷◌, ◌++◌, length, take, get_or, sym, ◌∙◌, ap, subst, arith, ◌⊎◌, ⊎_elim, inl, inr}
use Rattle.std.specs.List.{Contains}
use Rattle.std.proofs.lemmas.List.{get_or_append_left, get_or_push, length_push, get_or-take, length-take, take-take, take_all, take-append-le, take_more}
use Rattle.std.proofs.lemmas.List.Elements.{Contains-append_left, Contains-push_cases, Contains-get_or}
use Rattle.std.proofs.lemmas.Bool.{cases_lt}
use Rattle.cnf_clauses.specs.Literal.{Literal, opposite}
use Rattle.cnf_clauses.specs.declared.lit.ClauseId.{ClauseId}
use Rattle.clause_log.proofs.Resolving.{same_or_other, opposite-opposite}
use Rattle.clause_search.specs.declared.watch.Pair.{Pair}
use Rattle.clause_search.specs.Path.{IsFalseIn, AllButFalseIn, IsClosed, IsTrail}
use Rattle.clause_search.specs.Watch.{AreWatched, AreWatchedFrom, IsWatchedAs, IsHeld}
use Rattle.clause_search.proofs.Paths.{consistent}
use Rattle.clause_search.proofs.Searches.{front_in}

-- THE POINT: where nothing is left to go through, a watched clause is closed
pub watched_is_closed : (path : List Literal) (reasons : List (Option ClauseId)) (starts : List ℕ) (places : List (Option ℕ)) (c : List Literal) (a b : Literal) → IsTrail path reasons starts places → Contains c a → Contains c b → (a ≡ b → ⊥) → AreWatched path a b → IsClosed path c
watched_is_closed path reasons starts places c a b t a-in b-in ne w u but =
    ⊎_elim (λ a-is. subst (Contains path) a-is (w.second (but b b-in (λ b-is. ne (a-is ∙ sym b-is)))))
    (λ a-other. ⊎_elim (λ b-is. subst (Contains path) b-is (w.first (but a a-in a-other)))
    (λ b-other. absurd (consistent path reasons starts places b t (w.first (but a a-in a-other)) (but b b-in b-other))) (same_or_other b u)) (same_or_other a u)

-- a done clause is closed, if it has a literal
pub done_is_closed : (path : List Literal) (reasons : List (Option ClauseId)) (starts : List ℕ) (places : List (Option ℕ)) (c : List Literal) (x : Literal) → IsTrail path reasons starts places → Contains c x → ((l : Literal) → Contains c l → Contains path l) → IsClosed path c
done_is_closed path reasons starts places c x t x-in all u but =
    ⊎_elim (λ same. subst (Contains path) same (all x x-in)) (λ other. absurd (consistent path reasons starts places x t (all x x-in) (but x x-in other))) (same_or_other x u)

-- at rest
pub watched_whole : (path : List Literal) (q : ℕ) (a b : Literal) → length path ≤ q → AreWatchedFrom path q a b → AreWatched path a b
watched_whole path q a b rest w = record {
  first = λ f. w.first (subst (λ (p : List Literal). IsFalseIn p a) (sym (take_all q path rest)) f);
  second = λ f. w.second (subst (λ (p : List Literal). IsFalseIn p b) (sym (take_all q path rest)) f);
}

pub watched_part : (path : List Literal) (q : ℕ) (a b : Literal) → AreWatched path a b → AreWatchedFrom path q a b
watched_part path q a b w = record { first = λ f. w.first (front_in path q (opposite a) f); second = λ f. w.second (front_in path q (opposite b) f) }

-- a literal more at the end of the path
pub held_push : (path : List Literal) (q : ℕ) (starts : List ℕ) (c : List Literal) (l : Literal) (o : Option Pair) → q ≤ length path → ((j : ℕ) → j < length starts → get_or starts j 0 ≤ length path) → IsHeld path q starts c o → IsHeld (path ++ l ∷ []) q starts c o
held_push path q starts c l None low inside h = record {
  now = λ m m-in. Contains-append_left path (l ∷ []) m (h.now m m-in);
  at_starts = λ j j-in m m-in. subst (λ (p : List Literal). Contains p m) (sym (take-append-le (get_or starts j 0) path (l ∷ []) (inside j j-in))) (h.at_starts j j-in m m-in);
}
held_push path q starts c l (Some p) low inside h = record {
  first_in = h.first_in;
  second_in = h.second_in;
  different = h.different;
  now = record {
    first = λ f. Contains-append_left path (l ∷ []) p.second (h.now.first (subst (λ (z : List Literal). IsFalseIn z p.first) (take-append-le q path (l ∷ []) low) f));
    second = λ f. Contains-append_left path (l ∷ []) p.first (h.now.second (subst (λ (z : List Literal). IsFalseIn z p.second) (take-append-le q path (l ∷ []) low) f));
  };
  at_starts = λ j j-in. subst (λ (z : List Literal). AreWatched z p.first p.second) (sym (take-append-le (get_or starts j 0) path (l ∷ []) (inside j j-in))) (h.at_starts j j-in);
}

-- a level begins, at rest
pub held_decide : (path : List Literal) (q : ℕ) (starts : List ℕ) (c : List Literal) (o : Option Pair) → length path ≤ q → IsHeld path q starts c o → IsHeld path q (starts ++ length path ∷ []) c o
held_decide path q starts c None rest h = record {
  now = h.now;
  at_starts = λ j j-in m m-in. ⊎_elim
      (λ lt. subst (λ (k : ℕ). Contains (take k path) m) (sym (get_or_append_left starts (length path ∷ []) 0 j lt)) (h.at_starts j lt m m-in))
      (λ ge. subst (λ (k : ℕ). Contains (take k path) m) (sym (get_or_push starts (length path) 0 j (omega (arith, length_push starts (length path)))))
      (subst (λ (p : List Literal). Contains p m) (sym (take_all (length path) path (omega arith))) (h.now m m-in))) (cases_lt j (length starts));
}
held_decide path q starts c (Some p) rest h = record {
  first_in = h.first_in;
  second_in = h.second_in;
  different = h.different;
  now = h.now;
  at_starts = λ j j-in. ⊎_elim
      (λ lt. subst (λ (k : ℕ). AreWatched (take k path) p.first p.second) (sym (get_or_append_left starts (length path ∷ []) 0 j lt)) (h.at_starts j lt))
      (λ ge. subst (λ (k : ℕ). AreWatched (take k path) p.first p.second) (sym (get_or_push starts (length path) 0 j (omega (arith, length_push starts (length path)))))
      (subst (λ (z : List Literal). AreWatched z p.first p.second) (sym (take_all (length path) path (omega arith))) (watched_whole path q p.first p.second rest h.now))) (cases_lt j (length starts));
}

-- levels taken back: nothing is left to go through
pub held_cut : (path : List Literal) (q r : ℕ) (starts : List ℕ) (c : List Literal) (o : Option Pair) (level : ℕ) → level < length starts → ((i j : ℕ) → i < j → j < length starts → get_or starts i 0 ≤ get_or starts j 0) → IsHeld path q starts c o → IsHeld (take (get_or starts level 0) path) r (take level starts) c o
held_cut path q r starts c None level low rising h =
    let n : ℕ = get_or starts level 0 in
    record {
      now = h.at_starts level low;
      at_starts = λ j j-in m m-in. let j-low : j < level = omega (arith, length-take level starts) in
          subst (λ (k : ℕ). Contains (take k (take n path)) m) (sym (get_or-take level starts j 0 j-low))
          (subst (λ (z : List Literal). Contains z m) (sym (take-take (get_or starts j 0) n path (rising j level j-low low))) (h.at_starts j (omega arith) m m-in));
    }
held_cut path q r starts c (Some p) level low rising h =
    let n : ℕ = get_or starts level 0 in
    record {
      first_in = h.first_in;
      second_in = h.second_in;
      different = h.different;
      now = watched_part (take n path) r p.first p.second (h.at_starts level low);
      at_starts = λ j j-in. let j-low : j < level = omega (arith, length-take level starts) in
          subst (λ (k : ℕ). AreWatched (take k (take n path)) p.first p.second) (sym (get_or-take level starts j 0 j-low))
          (subst (λ (z : List Literal). AreWatched z p.first p.second) (sym (take-take (get_or starts j 0) n path (rising j level j-low low))) (h.at_starts j (omega arith)));
    }

false_next : (path : List Literal) (n : ℕ) (d l : Literal) → n < length path → IsFalseIn (take (n + 1) path) l → IsFalseIn (take n path) l ⊎ (l ≡ opposite (get_or path n d))
false_next path n d l h is-false =
    ⊎_elim (λ before. inl before) (λ same. inr (sym (opposite-opposite l) ∙ ap opposite (sym same)))
    (Contains-push_cases (take n path) (get_or path n d) (opposite l) (subst (λ (zs : List Literal). Contains zs (opposite l)) (take_more path n d h) is-false))

-- the next literal of the path is gone through: a clause that doesn't watch its opposite has nothing to do
pub watched_next : (path : List Literal) (q : ℕ) (a b f : Literal) (d : Literal) → q < length path → f ≡ opposite (get_or path q d) → AreWatchedFrom path q a b → (a ≡ f → ⊥) → (b ≡ f → ⊥) → AreWatchedFrom path (q + 1) a b
watched_next path q a b f d h f-is w a-other b-other = record {
  first = λ is. ⊎_elim (λ before. w.first before) (λ same. absurd (a-other (same ∙ sym f-is))) (false_next path q d a h is);
  second = λ is. ⊎_elim (λ before. w.second before) (λ same. absurd (b-other (same ∙ sym f-is))) (false_next path q d b h is);
}

-- the other watched literal is true
pub watched_true : (path : List Literal) (reasons : List (Option ClauseId)) (starts : List ℕ) (places : List (Option ℕ)) (q : ℕ) (a b : Literal) → IsTrail path reasons starts places → Contains path b → AreWatchedFrom path q a b
watched_true path reasons starts places q a b t b-true = record {
  first = λ _. b-true;
  second = λ f. absurd (consistent path reasons starts places b t b-true (front_in path q (opposite b) f));
}

-- another literal is watched in its place: at the path as it is, and where the levels began
pub watched_moved : (path : List Literal) (reasons : List (Option ClauseId)) (starts : List ℕ) (places : List (Option ℕ)) (q : ℕ) (c : List Literal) (a b l d : Literal) → IsTrail path reasons starts places → q < length path → a ≡ opposite (get_or path q d) → IsWatchedAs path q starts c a b → Contains c l → (l ≡ b → ⊥) → (IsFalseIn path l → ⊥) → IsWatchedAs path (q + 1) starts c b l
watched_moved path reasons starts places q c a b l d t h a-is w l-in ne l-open =
    let a-false : IsFalseIn path a = subst (Contains path) (sym (opposite-opposite (get_or path q d)) ∙ ap opposite (sym a-is)) (Contains-get_or path q d h) in
    record {
      first_in = w.second_in;
      second_in = l-in;
      different = λ e. ne (sym e);
      now = record {
        first = λ f. ⊎_elim (λ before. absurd (consistent path reasons starts places a t (w.now.second before) a-false))
            (λ same. absurd (w.different (a-is ∙ sym same))) (false_next path q d b h f);
        second = λ f. absurd (l-open (front_in path (q + 1) (opposite l) f));
      };
      at_starts = λ j j-in. record {
        first = λ f. absurd (consistent path reasons starts places a t (front_in path (get_or starts j 0) a ((w.at_starts j j-in).second f)) a-false);
        second = λ f. absurd (l-open (front_in path (get_or starts j 0) (opposite l) f));
      };
    }

-- the learnt clause: its literal of the last level, and the one that was false last of the others
pub watched_learnt : (path : List Literal) (n : ℕ) (c : List Literal) (u w : Literal) → (IsFalseIn (take n path) u → ⊥) → (AllButFalseIn (take n path) u c → ⊥) → (IsFalseIn (take n path) w → AllButFalseIn (take n path) u c) → AreWatched (take n path) u w
watched_learnt path n c u w u-open not_unit last = record { first = λ f. absurd (u-open f); second = λ f. absurd (not_unit (last f)) }
