-- How the search's facts last.
use Rattle.std.proofs.Common.{◌≡◌, ℕ, ◌<◌, ◌≤◌, Option, Some, None, List, [], ◌∷◌, ◌++◌, length, take, get_or, sym, ◌∙◌, ap, subst, arith, ⊎_elim}
use Rattle.std.specs.List.{Contains}
use Rattle.std.proofs.lemmas.List.{get_or_append_left, get_or_push, length_push, get_or-take, length-take, take-take, take_all, take-append-le, get_or_default}
use Rattle.std.proofs.lemmas.List.Elements.{Contains-append_left, Contains-push}
use Rattle.std.proofs.lemmas.Bool.{cases_lt, cases_eq}
use Rattle.cnf_clauses.specs.Literal.{Literal}
use Rattle.cnf_clauses.specs.declared.lit.ClauseId.{ClauseId}
use Rattle.clause_log.specs.Resolution.{IsNew, clause_at}
use Rattle.cnf_clauses.specs.Clause.{HasVariablesBelow}
use Rattle.clause_log.proofs.Resolving.{same_or_other}
use Rattle.clause_search.specs.Path.{IsFalseIn, AllButFalseIn, IsClosed, IsClosedFor, IsTrail, IsReason, Explains, IsSearch}
use Rattle.clause_search.proofs.Paths.{consistent}

-- an explanation lasts while the literals before it and the levels do
pub explains_move : (db : List (List Literal)) (path new : List Literal) (starts later : List ℕ) (i : ℕ) (l : Literal) (o : Option ClauseId) → take i new ≡ take i path → (Contains starts i → Contains later i) → Explains db path starts i l o → Explains db new later i l o
explains_move db path new starts later i l None same kept e = kept e
explains_move db path new starts later i l (Some id) same kept e = record {
  in_db = e.in_db;
  holds_it = e.holds_it;
  others = λ m m-in ne. subst (λ (zs : List Literal). IsFalseIn zs m) (sym same) (e.others m m-in ne);
}

closed_along : (db : List (List Literal)) (path new : List Literal) → path ≡ new → IsClosedFor path db → IsClosedFor new db
closed_along db path new e closed = subst (λ (zs : List Literal). IsClosedFor zs db) e closed

-- a literal that follows from a clause
pub IsSearch-push : (db : List (List Literal)) (path : List Literal) (reasons : List (Option ClauseId)) (starts : List ℕ) (n : ℕ) (l : Literal) (id : ClauseId) → length reasons ≡ length path → ((j : ℕ) → j < length starts → get_or starts j 0 ≤ length path) → IsSearch db path reasons starts n → IsReason db path (length path) l id → IsSearch db (path ++ l ∷ []) (reasons ++ Some id ∷ []) starts n
IsSearch-push db path reasons starts n l id lens inside s r = record {
  explained = λ i d h. ⊎_elim
      (λ lt. subst (λ (m : Literal). Explains db (path ++ l ∷ []) starts i m (get_or (reasons ++ Some id ∷ []) i None)) (sym (get_or_append_left path (l ∷ []) d i lt))
      (subst (λ (o : Option ClauseId). Explains db (path ++ l ∷ []) starts i (get_or path i d) o) (sym (get_or_append_left reasons (Some id ∷ []) None i (omega arith)))
      (explains_move db path (path ++ l ∷ []) starts starts i (get_or path i d) (get_or reasons i None) (take-append-le i path (l ∷ []) (omega arith)) (λ k. k) (s.explained i d lt))))
      (λ ge. let i-is : length path ≡ i = omega (arith, length_push path l) in
      subst (λ (m : Literal). Explains db (path ++ l ∷ []) starts i m (get_or (reasons ++ Some id ∷ []) i None)) (sym (get_or_push path l d i i-is))
      (subst (λ (o : Option ClauseId). Explains db (path ++ l ∷ []) starts i l o) (sym (get_or_push reasons (Some id) None i (lens ∙ i-is)))
      (explains_move db path (path ++ l ∷ []) starts starts i l (Some id) (take-append-le i path (l ∷ []) (omega arith)) (λ k. k) (subst (λ (k : ℕ). IsReason db path k l id) i-is r)))) (cases_lt i (length path));
  closed = λ j h. closed_along db (take (get_or starts j 0) path) (take (get_or starts j 0) (path ++ l ∷ [])) (sym (take-append-le (get_or starts j 0) path (l ∷ []) (inside j h))) (s.closed j h);
  over = s.over;
  some = s.some;
}

-- a decision
pub IsSearch-decide : (db : List (List Literal)) (path : List Literal) (reasons : List (Option ClauseId)) (starts : List ℕ) (n : ℕ) (l : Literal) → length reasons ≡ length path → ((j : ℕ) → j < length starts → get_or starts j 0 ≤ length path) → IsSearch db path reasons starts n → IsClosedFor path db → IsSearch db (path ++ l ∷ []) (reasons ++ None ∷ []) (starts ++ length path ∷ []) n
IsSearch-decide db path reasons starts n l lens inside s closed = record {
  explained = λ i d h. ⊎_elim
      (λ lt. subst (λ (m : Literal). Explains db (path ++ l ∷ []) (starts ++ length path ∷ []) i m (get_or (reasons ++ None ∷ []) i None)) (sym (get_or_append_left path (l ∷ []) d i lt))
      (subst (λ (o : Option ClauseId). Explains db (path ++ l ∷ []) (starts ++ length path ∷ []) i (get_or path i d) o) (sym (get_or_append_left reasons (None ∷ []) None i (omega arith)))
      (explains_move db path (path ++ l ∷ []) starts (starts ++ length path ∷ []) i (get_or path i d) (get_or reasons i None) (take-append-le i path (l ∷ []) (omega arith)) (Contains-append_left starts (length path ∷ []) i) (s.explained i d lt))))
      (λ ge. let i-is : length path ≡ i = omega (arith, length_push path l) in
      subst (λ (o : Option ClauseId). Explains db (path ++ l ∷ []) (starts ++ length path ∷ []) i (get_or (path ++ l ∷ []) i d) o) (sym (get_or_push reasons None None i (lens ∙ i-is)))
      (subst (λ (k : ℕ). Contains (starts ++ length path ∷ []) k) i-is (Contains-push starts (length path)))) (cases_lt i (length path));
  closed = λ j h. ⊎_elim
      (λ lt. subst (λ (k : ℕ). IsClosedFor (take k (path ++ l ∷ [])) db) (sym (get_or_append_left starts (length path ∷ []) 0 j lt))
      (closed_along db (take (get_or starts j 0) path) (take (get_or starts j 0) (path ++ l ∷ [])) (sym (take-append-le (get_or starts j 0) path (l ∷ []) (inside j lt))) (s.closed j lt)))
      (λ ge. subst (λ (k : ℕ). IsClosedFor (take k (path ++ l ∷ [])) db) (sym (get_or_push starts (length path) 0 j (omega (arith, length_push starts (length path)))))
      (closed_along db path (take (length path) (path ++ l ∷ [])) (sym (take-append-le (length path) path (l ∷ []) (omega arith) ∙ take_all (length path) path (omega arith))) closed)) (cases_lt j (length starts));
  over = s.over;
  some = s.some;
}

-- levels taken back
pub IsSearch-cut : (db : List (List Literal)) (path : List Literal) (reasons : List (Option ClauseId)) (starts : List ℕ) (places : List (Option ℕ)) (v level : ℕ) → IsTrail path reasons starts places → level < length starts → IsSearch db path reasons starts v → IsSearch db (take (get_or starts level 0) path) (take (get_or starts level 0) reasons) (take level starts) v
IsSearch-cut db path reasons starts places v level t low s =
    let n : ℕ = get_or starts level 0 in
    record {
      explained = λ i d h. let i-low : i < n = omega (arith, length-take n path) in
          subst (λ (m : Literal). Explains db (take n path) (take level starts) i m (get_or (take n reasons) i None)) (sym (get_or-take n path i d i-low))
          (subst (λ (o : Option ClauseId). Explains db (take n path) (take level starts) i (get_or path i d) o) (sym (get_or-take n reasons i None i-low))
          (explains_move db path (take n path) starts (take level starts) i (get_or path i d) (get_or reasons i None) (take-take i n path (omega arith))
          (λ (k, k-in, k-is). ⊎_elim (λ lt. (k, omega (arith, length-take level starts), get_or-take level starts k i lt ∙ k-is))
          (λ ge. ⊎_elim (λ same. absurd (omega (arith, ap (λ (m : ℕ). get_or starts m 0) same, get_or_default starts k i 0 k-in)))
          (λ ne. absurd (omega (arith, t.rising level k (omega arith) k-in, get_or_default starts k i 0 k-in))) (cases_eq k level)) (cases_lt k level))
          (s.explained i d (omega (arith, length-take n path)))));
      closed = λ j h. let j-low : j < level = omega (arith, length-take level starts) in
          subst (λ (k : ℕ). IsClosedFor (take k (take n path)) db) (sym (get_or-take level starts j 0 j-low))
          (closed_along db (take (get_or starts j 0) path) (take (get_or starts j 0) (take n path)) (sym (take-take (get_or starts j 0) n path (t.rising j level j-low low))) (s.closed j (omega arith)));
      over = s.over;
      some = s.some;
    }

-- a clause that is learnt
at_push : (db : List (List Literal)) (c : List Literal) (k : ℕ) → k < length db → get_or (db ++ c ∷ []) k [] ≡ get_or db k []
at_push db c k h = get_or_append_left db (c ∷ []) [] k h

explains_learn : (db : List (List Literal)) (c : List Literal) (path : List Literal) (starts : List ℕ) (i : ℕ) (l : Literal) (o : Option ClauseId) → Explains db path starts i l o → Explains (db ++ c ∷ []) path starts i l o
explains_learn db c path starts i l None e = e
explains_learn db c path starts i l (Some id) e =
    let same : clause_at (db ++ c ∷ []) id ≡ clause_at db id = at_push db c id.0 e.in_db in
    record {
      in_db = omega (arith, length_push db c, e.in_db);
      holds_it = subst (λ (zs : List Literal). Contains zs l) (sym same) e.holds_it;
      others = subst (AllButFalseIn (take i path) l) (sym same) e.others;
    }

for_each_push : (P : List Literal → Type 0) (db : List (List Literal)) (c : List Literal) → ((k : ℕ) → k < length db → P (get_or db k [])) → P c → (k : ℕ) → k < length (db ++ c ∷ []) → P (get_or (db ++ c ∷ []) k [])
for_each_push P db c all here k h =
    ⊎_elim (λ lt. subst P (sym (at_push db c k lt)) (all k lt))
    (λ ge. subst P (sym (get_or_push db c [] k (omega (arith, length_push db c)))) here) (cases_lt k (length db))

pub IsSearch-learn : (db : List (List Literal)) (c : List Literal) (path : List Literal) (reasons : List (Option ClauseId)) (starts : List ℕ) (n : ℕ) → IsSearch db path reasons starts n → ((j : ℕ) → j < length starts → IsClosed (take (get_or starts j 0) path) c) → HasVariablesBelow n c → (c ≡ [] → ⊥) → IsSearch (db ++ c ∷ []) path reasons starts n
IsSearch-learn db c path reasons starts n s closed over some = record {
  explained = λ i d h. explains_learn db c path starts i (get_or path i d) (get_or reasons i None) (s.explained i d h);
  closed = λ j h. for_each_push (IsClosed (take (get_or starts j 0) path)) db c (s.closed j h) (closed j h);
  over = for_each_push (HasVariablesBelow n) db c s.over over;
  some = for_each_push (λ (zs : List Literal). zs ≡ [] → ⊥) db c s.some some;
}

-- membership in a front of a path
pub front_within : (path : List Literal) (m n : ℕ) (l : Literal) → m ≤ n → Contains (take m path) l → Contains (take n path) l
front_within path m n l h (k, k-in, k-is) =
    let k-low : k < m = omega (arith, length-take m path) in
    (k, omega (arith, length-take m path, length-take n path), get_or-take n path k l (omega arith) ∙ (sym (get_or-take m path k l k-low) ∙ k-is))

pub front_in : (path : List Literal) (m : ℕ) (l : Literal) → Contains (take m path) l → Contains path l
front_in path m l (k, k-in, k-is) =
    let k-low : k < m = omega (arith, length-take m path) in
    (k, omega (arith, length-take m path), sym (get_or-take m path k l k-low) ∙ k-is)

-- THE THEOREM: each line is new
pub learnt_is_new : (db : List (List Literal)) (path : List Literal) (reasons : List (Option ClauseId)) (starts : List ℕ) (places : List (Option ℕ)) (b : ℕ) (c : List Literal) (u : Literal) → IsTrail path reasons starts places → IsClosedFor (take b path) db → IsFalseIn path u → AllButFalseIn (take b path) u c → IsNew db c
learnt_is_new db path reasons starts places b c u t closed u-false but k k-in within =
    consistent path reasons starts places u t (front_in path b u (closed k k-in u (λ l l-in ne. but l (within l l-in) ne))) u-false

-- at each level that is left, the new clause is closed
pub learnt_is_closed : (path : List Literal) (n : ℕ) (c : List Literal) (u : Literal) → Contains c u → (IsFalseIn (take n path) u → ⊥) → (AllButFalseIn (take n path) u c → ⊥) → IsClosed (take n path) c
learnt_is_closed path n c u u-in not-false not-unit w but =
    ⊎_elim (λ same. absurd (not-unit (subst (λ (x : Literal). AllButFalseIn (take n path) x c) (sym same) but))) (λ other. absurd (not-false (but u u-in other))) (same_or_other u w)
