-- Walking back along a path.
use Rattle.std.proofs.Common.{◌≡◌, ℕ, ◌+◌, ◌-◌, ◌<◌, ◌≤◌, not, Option, Some, None, List, [], ◌∷◌, ◌++◌, length, take, get_or, refl, sym, ◌∙◌, ap, subst, arith, ◌⊎◌, ⊎_elim, inl, inr}
use Rattle.std.specs.List.{Contains}
use Rattle.std.proofs.lemmas.List.{get_or-take, length-take, take_more, take_all, get_or_default}
use Rattle.std.proofs.lemmas.List.Elements.{Contains-push_cases}
use Rattle.cnf_clauses.specs.Literal.{Literal, opposite}
use Rattle.cnf_clauses.specs.declared.lit.ClauseId.{ClauseId}
use Rattle.clause_log.specs.Resolution.{resolvent, first_places, Step, clause_at, resolvents, StepsAreIn, IsWithin}
use Rattle.clause_log.proofs.Resolving.{opposite-opposite, resolvent-within, Contains-resolvent_left, Contains-here, Contains-nil, Contains-first_places, first_places-within, first_places-resolvent, resolvent-first_places, along}
use Rattle.clause_log.proofs.Logs.{resolvents-push, resolvents-nil, StepsAreIn-push}
use Rattle.clause_search.specs.Path.{IsFalseIn, AllFalseIn, AllButFalseIn, IsClosedFor, IsTrail, IsReason, Explains, IsSearch}
use Rattle.clause_search.specs.Learnt.{IsDerivedBy, IsAsserting, IsCovered, IsDerived, IsLearnt, last_start}
use Rattle.std.proofs.lemmas.Bool.{cases_eq}
use Rattle.clause_search.proofs.Paths.{consistent, no_lit, some_same, var_in_range}
use Rattle.clause_search.proofs.Searches.{front_in, front_within}

-- a literal false by the first n + 1 is false by the first n, or is the opposite of the next
false_at : (path : List Literal) (n : ℕ) (d l : Literal) → n < length path → IsFalseIn (take (n + 1) path) l → IsFalseIn (take n path) l ⊎ (l ≡ opposite (get_or path n d))
false_at path n d l h is-false =
    ⊎_elim (λ before. inl before) (λ same. inr (sym (opposite-opposite l) ∙ ap opposite (sym same)))
    (Contains-push_cases (take n path) (get_or path n d) (opposite l) (subst (λ (zs : List Literal). Contains zs (opposite l)) (take_more path n d h) is-false))

pub derived_start : (db : List (List Literal)) (start : ClauseId) (path : List Literal) (n : ℕ) (c : List Literal) (steps : List Step) → n ≡ length path → AllFalseIn path (clause_at db start) → c ≡ first_places (clause_at db start) → steps ≡ [] → IsDerived db start path n c steps
derived_start db start path n c steps n-is all c-is steps-is = record {
  by = record {
    value = c-is ∙ ap first_places (sym (resolvents-nil db (clause_at db start)) ∙ ap (resolvents db (clause_at db start)) (sym steps-is));
    steps_in = λ k d h. absurd (omega (arith, ap length steps-is));
  };
  all_false = subst (λ (p : List Literal). AllFalseIn p c) (sym (take_all n path (omega arith)))
      (λ l l-in. all l (first_places-within l (clause_at db start) (along c (first_places (clause_at db start)) l c-is l-in)));
}

-- a step more
derived_by_step : (db : List (List Literal)) (start : ClauseId) (c next : List Literal) (steps later : List Step) (id : ClauseId) (lit : Literal) → IsDerivedBy db start c steps → id.0 < length db → next ≡ resolvent lit c (clause_at db id) → later ≡ steps ++ (id, lit) ∷ [] → IsDerivedBy db start next later
derived_by_step db start c next steps later id lit s there next-is later-is =
    let before : List Literal = resolvents db (clause_at db start) steps in
    let other : List Literal = clause_at db id in
    record {
      value = next-is ∙ (ap (λ (x : List Literal). resolvent lit x other) s.value ∙ (resolvent-first_places lit before other ∙ (sym (first_places-resolvent lit before other)
          ∙ ap first_places (sym (resolvents-push db (clause_at db start) steps (id, lit)) ∙ ap (resolvents db (clause_at db start)) (sym later-is)))));
      steps_in = subst (StepsAreIn (length db)) (sym later-is) (StepsAreIn-push (length db) steps (id, lit) s.steps_in there);
    }

-- the next literal of the path is not false in the clause
pub derived_skip : (db : List (List Literal)) (start : ClauseId) (path : List Literal) (n : ℕ) (d : Literal) (c : List Literal) (steps : List Step) → n < length path → IsDerived db start path (n + 1) c steps → (Contains c (opposite (get_or path n d)) → ⊥) → IsDerived db start path n c steps
derived_skip db start path n d c steps h s out = record {
  by = s.by;
  all_false = λ l l-in. ⊎_elim (λ before. before) (λ same. absurd (out (subst (Contains c) same l-in))) (false_at path n d l h (s.all_false l l-in));
}

-- it is, and is resolved away
pub derived_resolve : (db : List (List Literal)) (start : ClauseId) (path : List Literal) (n : ℕ) (d : Literal) (c next : List Literal) (steps later : List Step) (id : ClauseId) → n < length path → IsDerived db start path (n + 1) c steps → IsReason db path n (get_or path n d) id
    → next ≡ resolvent (opposite (get_or path n d)) c (clause_at db id) → later ≡ steps ++ (id, opposite (get_or path n d)) ∷ [] → IsDerived db start path n next later
derived_resolve db start path n d c next steps later id h s r next-is later-is =
    let p : Literal = get_or path n d in
    record {
      by = derived_by_step db start c next steps later id (opposite p) s.by r.in_db next-is later-is;
      all_false = λ l l-in. ⊎_elim
          (λ (l-left, ne). ⊎_elim (λ before. before) (λ same. absurd (ne same)) (false_at path n d l h (s.all_false l l-left)))
          (λ (l-right, ne). r.others l l-right (λ same. ne (same ∙ sym (opposite-opposite p))))
          (resolvent-within (opposite p) l c (clause_at db id) (subst (λ (zs : List Literal). Contains zs l) next-is l-in));
    }

-- at the beginning of the level something of the clause is not yet false
pub not_yet_start : (db : List (List Literal)) (path : List Literal) (reasons : List (Option ClauseId)) (starts : List ℕ) (places : List (Option ℕ)) (b : ℕ) (id : ClauseId) (c : List Literal) → IsTrail path reasons starts places → IsClosedFor (take b path) db → id.0 < length db → c ≡ first_places (clause_at db id) → AllFalseIn (take b path) c → ⊥
not_yet_start db path reasons starts places b id c t closed there c-is all =
    let k : List Literal = clause_at db id in
    let all-k : AllFalseIn (take b path) k = (λ l l-in. all l (along (first_places k) c l (sym c-is) (Contains-first_places l k l-in))) in
    consistent path reasons starts places no_lit t
    (front_in path b no_lit (closed id.0 there no_lit (λ l l-in ne. all-k l l-in)))
    (front_in path b (opposite no_lit) (closed id.0 there (opposite no_lit) (λ l l-in ne. all-k l l-in)))

pub not_yet_resolve : (path : List Literal) (b : ℕ) (u : Literal) (c d next : List Literal) → (AllButFalseIn (take b path) u c → ⊥) → next ≡ resolvent u c d → AllFalseIn (take b path) next → ⊥
not_yet_resolve path b u c d next not next-is all =
    not (λ l l-in ne. all l (subst (λ (zs : List Literal). Contains zs l) (sym next-is) (Contains-resolvent_left u l c d l-in ne)))

-- where the level begins, the clause has one literal of it
pub alone_at_start : (path : List Literal) (n : ℕ) (d : Literal) (c : List Literal) → n < length path → AllFalseIn (take (n + 1) path) c → AllButFalseIn (take n path) (opposite (get_or path n d)) c
alone_at_start path n d c h all l l-in ne = ⊎_elim (λ before. before) (λ same. absurd (ne same)) (false_at path n d l h (all l l-in))

-- a literal of the last level is not among those before it
pub not_before : (path : List Literal) (reasons : List (Option ClauseId)) (starts : List ℕ) (places : List (Option ℕ)) (b n : ℕ) (d : Literal) → IsTrail path reasons starts places → b ≤ n → n < length path → IsFalseIn (take b path) (opposite (get_or path n d)) → ⊥
not_before path reasons starts places b n d t low h (k, k-in, k-is) =
    let p : Literal = get_or path n d in
    let k-low : k < b = omega (arith, length-take b path) in
    let there : get_or path k p ≡ p = get_or_default path k p (opposite (opposite p)) (omega (arith, length-take b path)) ∙ (sym (get_or-take b path k (opposite (opposite p)) k-low) ∙ (k-is ∙ opposite-opposite p)) in
    let at-k : get_or places p.var None ≡ Some k = ap (λ (m : Literal). get_or places m.var None) (sym there) ∙ t.placed k p (omega (arith, length-take b path)) in
    let at-n : get_or places p.var None ≡ Some n = t.placed n d h in
    let same : k ≡ n = some_same k n (sym at-k ∙ at-n) in
    omega arith

-- a literal with no clause begins a level, and so stands no later than the last one begins
pub begins_by : (starts : List ℕ) (n : ℕ) → ((i j : ℕ) → i < j → j < length starts → get_or starts i 0 ≤ get_or starts j 0) → Contains starts n → n ≤ last_start starts
begins_by starts n rising (k, k-in, k-is) =
    let at : get_or starts k 0 ≡ n = get_or_default starts k 0 n k-in ∙ k-is in
    ⊎_elim (λ same. omega (arith, ap (λ (m : ℕ). get_or starts m 0) same)) (λ ne. omega (arith, rising k (length starts - 1) (omega arith) (omega arith))) (cases_eq k (length starts - 1))

pub empty_from_false : (c : List Literal) → AllFalseIn [] c → c ≡ []
empty_from_false [] all = refl
empty_from_false (x ∷ xs) all = absurd (Contains-nil (opposite x) (all x (Contains-here x xs)))

-- the lemmas above, as the loops go: n is the number of literals that are left, p the last of them
at_last : (path : List Literal) (n : ℕ) (p lit : Literal) → 0 < n → n ≤ length path → p ≡ get_or path (n - 1) p → lit ≡ opposite p → lit ≡ opposite (get_or path (n - 1) no_lit)
at_last path n p lit pos low p-is lit-is = lit-is ∙ ap opposite (p-is ∙ get_or_default path (n - 1) p no_lit (omega arith))

one_more : (db : List (List Literal)) (start : ClauseId) (path : List Literal) (n : ℕ) (c : List Literal) (steps : List Step) → 0 < n → IsDerived db start path n c steps → IsDerived db start path ((n - 1) + 1) c steps
one_more db start path n c steps pos s = subst (λ (m : ℕ). IsDerived db start path m c steps) (let n-is : n ≡ (n - 1) + 1 = omega arith in n-is) s

pub skip_last : (db : List (List Literal)) (start : ClauseId) (path : List Literal) (n : ℕ) (c : List Literal) (steps : List Step) (p lit : Literal) → 0 < n → n ≤ length path → p ≡ get_or path (n - 1) p → lit ≡ opposite p → IsDerived db start path n c steps → (Contains c lit → ⊥) → IsDerived db start path (n - 1) c steps
skip_last db start path n c steps p lit pos low p-is lit-is s out =
    derived_skip db start path (n - 1) no_lit c steps (omega arith) (one_more db start path n c steps pos s)
    (λ l-in. out (subst (Contains c) (sym (at_last path n p lit pos low p-is lit-is)) l-in))

pub reason_at : (db : List (List Literal)) (path : List Literal) (reasons : List (Option ClauseId)) (starts : List ℕ) (v n : ℕ) (o : Option ClauseId) → IsSearch db path reasons starts v → 0 < n → n ≤ length path → length reasons ≡ length path → o ≡ get_or reasons (n - 1) o → Explains db path starts (n - 1) (get_or path (n - 1) no_lit) o
reason_at db path reasons starts v n o s pos low lens o-is =
    subst (Explains db path starts (n - 1) (get_or path (n - 1) no_lit)) (sym (o-is ∙ get_or_default reasons (n - 1) o None (omega arith))) (s.explained (n - 1) no_lit (omega arith))

pub resolve_last : (db : List (List Literal)) (start : ClauseId) (path : List Literal) (n : ℕ) (c next : List Literal) (steps later : List Step) (p lit : Literal) (id : ClauseId) → 0 < n → n ≤ length path → p ≡ get_or path (n - 1) p → lit ≡ opposite p → IsDerived db start path n c steps → IsReason db path (n - 1) (get_or path (n - 1) no_lit) id
    → next ≡ resolvent lit c (clause_at db id) → later ≡ steps ++ (id, lit) ∷ [] → IsDerived db start path (n - 1) next later
resolve_last db start path n c next steps later p lit id pos low p-is lit-is s r next-is later-is =
    let same : lit ≡ opposite (get_or path (n - 1) no_lit) = at_last path n p lit pos low p-is lit-is in
    derived_resolve db start path (n - 1) no_lit c next steps later id (omega arith) (one_more db start path n c steps pos s) r
    (next-is ∙ ap (λ (l : Literal). resolvent l c (clause_at db id)) same)
    (later-is ∙ ap (λ (l : Literal). let st : Step = (id, l) in steps ++ st ∷ []) same)

in_range_of : (path : List Literal) (reasons : List (Option ClauseId)) (starts : List ℕ) (places : List (Option ℕ)) (l : Literal) → IsTrail path reasons starts places → Contains path l → l.var < length places
in_range_of path reasons starts places l t (k, k-in, k-is) = var_in_range places l.var k (ap (λ (m : Literal). get_or places m.var None) (sym k-is) ∙ t.placed k l k-in)

pub over_false : (path : List Literal) (reasons : List (Option ClauseId)) (starts : List ℕ) (places : List (Option ℕ)) (n : ℕ) (c : List Literal) → IsTrail path reasons starts places → AllFalseIn (take n path) c → (l : Literal) → Contains c l → l.var < length places
over_false path reasons starts places n c t all l l-in = in_range_of path reasons starts places (opposite l) t (front_in path n (opposite l) (all l l-in))

opposite_of : (p u : Literal) → u ≡ opposite p → p ≡ opposite u
opposite_of p u e = sym (opposite-opposite p) ∙ ap opposite (sym e)

-- what the walk back gives where it stops
pub learnt_here : (db : List (List Literal)) (start : ClauseId) (path : List Literal) (reasons : List (Option ClauseId)) (starts : List ℕ) (places : List (Option ℕ)) (b n : ℕ) (c : List Literal) (steps : List Step) (p u : Literal) → IsTrail path reasons starts places → b < n → n ≤ length path → p ≡ get_or path (n - 1) p → u ≡ opposite p → IsDerived db start path n c steps → Contains c u → AllButFalseIn (take b path) u c → IsLearnt db start path b c steps u
learnt_here db start path reasons starts places b n c steps p u t after low p-is u-is s there others = record {
  by = s.by;
  asserting = record {
    holds_it = there;
    is_false = subst (Contains path) (opposite_of p u u-is) (n - 1, omega arith, sym p-is);
    not_before = λ h. not_before path reasons starts places b (n - 1) no_lit t (omega arith) (omega arith) (subst (λ (l : Literal). IsFalseIn (take b path) l) (at_last path n p u (omega arith) low p-is u-is) h);
    others = others;
  };
}

-- a decision is never resolved away
pub never_a_decision : (path : List Literal) (starts : List ℕ) (b n : ℕ) (c : List Literal) (p u : Literal) → ((i j : ℕ) → i < j → j < length starts → get_or starts i 0 ≤ get_or starts j 0) → b ≡ last_start starts → b < n → n ≤ length path → p ≡ get_or path (n - 1) p → u ≡ opposite p → AllFalseIn (take n path) c → Contains starts (n - 1) → (AllButFalseIn (take b path) u c → ⊥) → ⊥
never_a_decision path starts b n c p u rising b-is after low p-is u-is all begins not-alone =
    let early : n - 1 ≤ last_start starts = begins_by starts (n - 1) rising begins in
    let n-is : n ≡ b + 1 = omega arith in
    let b-now : n - 1 ≡ b = omega arith in
    not-alone (subst (λ (l : Literal). AllButFalseIn (take b path) l c) (sym (at_last path n p u (omega arith) low p-is u-is ∙ ap (λ (k : ℕ). opposite (get_or path k no_lit)) b-now))
    (alone_at_start path b no_lit c (omega arith) (subst (λ (k : ℕ). AllFalseIn (take k path) c) n-is all)))

pub over_all : (path : List Literal) (reasons : List (Option ClauseId)) (starts : List ℕ) (places : List (Option ℕ)) (c : List Literal) → IsTrail path reasons starts places → AllFalseIn path c → (l : Literal) → Contains c l → l.var < length places
over_all path reasons starts places c t all l l-in = in_range_of path reasons starts places (opposite l) t (all l l-in)

-- a literal of a lower level is resolved away
pub learnt_resolve : (db : List (List Literal)) (start : ClauseId) (path : List Literal) (b n : ℕ) (c next : List Literal) (steps later : List Step) (u p lit : Literal) (id : ClauseId) → 0 < n → n ≤ b → n ≤ length path → p ≡ get_or path (n - 1) p → lit ≡ opposite p → IsLearnt db start path b c steps u → IsReason db path (n - 1) (get_or path (n - 1) no_lit) id
    → next ≡ resolvent lit c (clause_at db id) → later ≡ steps ++ (id, lit) ∷ [] → IsLearnt db start path b next later u
learnt_resolve db start path b n c next steps later u p lit id pos low inside p-is lit-is s r next-is later-is =
    let q : Literal = get_or path (n - 1) no_lit in
    let lit-q : lit ≡ opposite q = at_last path n p lit pos inside p-is lit-is in
    let lit-false : IsFalseIn (take b path) lit = subst (Contains (take b path)) (sym (opposite-opposite q) ∙ ap opposite (sym lit-q)) (n - 1, omega (arith, length-take b path), get_or-take b path (n - 1) q (omega arith) ∙ get_or_default path (n - 1) q no_lit (omega arith)) in
    let u-other : u ≡ lit → ⊥ = (λ e. s.asserting.not_before (subst (λ (x : Literal). IsFalseIn (take b path) x) (sym e) lit-false)) in
    record {
      by = derived_by_step db start c next steps later id lit s.by r.in_db next-is later-is;
      asserting = record {
        holds_it = subst (λ (zs : List Literal). Contains zs u) (sym next-is) (Contains-resolvent_left lit u c (clause_at db id) s.asserting.holds_it u-other);
        is_false = s.asserting.is_false;
        not_before = s.asserting.not_before;
        others = λ l l-in ne. ⊎_elim
            (λ (l-left, _). s.asserting.others l l-left ne)
            (λ (l-right, l-ne). front_within path (n - 1) b (opposite l) (omega arith) (r.others l l-right (λ same. l-ne (same ∙ (sym (opposite-opposite q) ∙ ap opposite (sym lit-q))))))
            (resolvent-within lit l c (clause_at db id) (subst (λ (zs : List Literal). Contains zs l) next-is l-in));
      };
    }

-- one more literal of a reason, which a loop over it names
pub covered_item : (c reason : List Literal) (u : Literal) (i : ℕ) (l : Literal) → i < length reason → l ≡ get_or reason i l → IsCovered c (take i reason) u → ((l ≡ u → ⊥) → Contains c l) → IsCovered c (take (i + 1) reason) u
covered_item c reason u i l h is all here k k-in ne =
    ⊎_elim (λ before. all k before ne) (λ same. let k-is : k ≡ l = sym same ∙ sym is in subst (Contains c) (sym k-is) (here (λ e. ne (k-is ∙ e))))
    (Contains-push_cases (take i reason) (get_or reason i l) k (subst (λ (zs : List Literal). Contains zs k) (take_more reason i l h) k-in))

-- resolving with a covered reason adds no literal
pub within_covered : (before c reason next : List Literal) (lit follows : Literal) → lit ≡ opposite follows → IsCovered c reason follows → next ≡ resolvent lit c reason → IsWithin c before → IsWithin next before
within_covered before c reason next lit follows lit-is covered next-is within l l-in =
    ⊎_elim (λ (left, _). within l left)
    (λ (right, other). within l (covered l right (λ same. other (same ∙ (sym (opposite-opposite follows) ∙ ap opposite (sym lit-is))))))
    (resolvent-within lit l c reason (subst (λ (zs : List Literal). Contains zs l) next-is l-in))

-- what is asserted by a clause is asserted by the line that it is made of
pub asserted_line : (db : List (List Literal)) (start : ClauseId) (path : List Literal) (b : ℕ) (c : List Literal) (steps : List Step) (u : Literal) → IsLearnt db start path b c steps u → IsAsserting path b (resolvents db (clause_at db start) steps) u
asserted_line db start path b c steps u r =
    let line : List Literal = resolvents db (clause_at db start) steps in
    record {
      holds_it = first_places-within u line (along c (first_places line) u r.by.value r.asserting.holds_it);
      is_false = r.asserting.is_false;
      not_before = r.asserting.not_before;
      others = λ l l-in ne. r.asserting.others l (along (first_places line) c l (sym r.by.value) (Contains-first_places l line l-in)) ne;
    }

once_empty : (xs : List Literal) → first_places xs ≡ [] → xs ≡ []
unfolding first_places
once_empty [] e = refl
once_empty (x ∷ xs) e = cc

-- a clause that is false by no literal is made of no line but the empty one
pub refuted : (db : List (List Literal)) (start : ClauseId) (path : List Literal) (c : List Literal) (steps : List Step) → IsDerived db start path 0 c steps → resolvents db (clause_at db start) steps ≡ []
refuted db start path c steps s = once_empty (resolvents db (clause_at db start) steps) (sym s.by.value ∙ empty_from_false c s.all_false)
