-- Paths and the places of their variables.
use Rattle.std.proofs.Common.{◌≡◌, ℕ, ◌+◌, ◌-◌, ◌<◌, ◌≤◌, Bool, true, false, not, Option, Some, None, List, [], ◌∷◌, ◌++◌, length, take, drop, get_or, set, refl, sym, ◌∙◌, ap, subst, arith, ⊎_elim}
use Rattle.std.specs.List.{Contains}
use Rattle.std.proofs.lemmas.List.{get_or_append_left, get_or_push, length_push, get_or-take, length-take, take_more, get_or_past, get_or_default, get_or-set_same, get_or-set_other, length-set, get_or-drop, length-drop}
use Rattle.std.proofs.lemmas.List.Elements.{Contains-push_cases}
use Rattle.std.proofs.lemmas.Bool.{cases_lt, cases_eq}
use Rattle.cnf_clauses.specs.Literal.{Literal, opposite}
use Rattle.cnf_clauses.specs.declared.lit.ClauseId.{ClauseId}
use Rattle.clause_log.proofs.Resolving.{opposite_other, literal_equal}
use Rattle.clause_search.specs.Path.{IsFalseIn, AllButFalseIn, IsTrail}

abbrev pub no_lit : Literal
no_lit = record { var = 0; negated = false }

pub some_same : (a b : ℕ) → Some a ≡ Some b → a ≡ b
some_same a b e = cc

none_some : (o : Option ℕ) (p : ℕ) → o ≡ None → o ≡ Some p → ⊥
none_some o p e f = cc

-- a variable with a place is one of the places
pub var_in_range : (places : List (Option ℕ)) (v p : ℕ) → get_or places v None ≡ Some p → v < length places
var_in_range places v p e = ⊎_elim (λ lt. lt) (λ ge. absurd (none_some (get_or places v None) p (get_or_past places v None ge) e)) (cases_lt v (length places))

pub IsTrail-push : (path : List Literal) (reasons : List (Option ClauseId)) (starts : List ℕ) (places : List (Option ℕ)) (l : Literal) (r : Option ClauseId) (n : ℕ) → IsTrail path reasons starts places → l.var < length places → get_or places l.var None ≡ None → n ≡ length path → IsTrail (path ++ l ∷ []) (reasons ++ r ∷ []) starts (set places l.var (Some n))
IsTrail-push path reasons starts places l r n t inside free n-is = record {
  same_length = length_push reasons r ∙ (ap (λ (m : ℕ). m + 1) t.same_length ∙ sym (length_push path l));
  placed = λ i d h. ⊎_elim
      (λ lt. let other : (get_or path i d).var ≡ l.var → ⊥ = λ e. none_some (get_or places (get_or path i d).var None) i (ap (λ (v : ℕ). get_or places v None) e ∙ free) (t.placed i d lt) in
      ap (λ (m : Literal). get_or (set places l.var (Some n)) m.var None) (get_or_append_left path (l ∷ []) d i lt) ∙ (get_or-set_other places l.var (get_or path i d).var (Some n) None other ∙ t.placed i d lt))
      (λ ge. let i-is : i ≡ length path = omega (arith, length_push path l) in
      ap (λ (m : Literal). get_or (set places l.var (Some n)) m.var None) (get_or_push path l d i (sym i-is)) ∙ (get_or-set_same places l.var (Some n) None inside ∙ ap (λ (m : ℕ). Some m) (n-is ∙ sym i-is))) (cases_lt i (length path));
  standing = λ v p d e. ⊎_elim
      (λ v-is. let p-is : n ≡ p = some_same n p (sym (get_or-set_same places l.var (Some n) None inside) ∙ (ap (λ (w : ℕ). get_or (set places l.var (Some n)) w None) (sym v-is) ∙ e)) in
      (omega (arith, length_push path l), ap (λ (m : Literal). m.var) (get_or_push path l d p (sym n-is ∙ p-is)) ∙ sym v-is))
      (λ v-other. let old : get_or places v None ≡ Some p = sym (get_or-set_other places l.var v (Some n) None v-other) ∙ e in
      let at = t.standing v p d old in
      (omega (arith, length_push path l, at.0), ap (λ (m : Literal). m.var) (get_or_append_left path (l ∷ []) d p at.0) ∙ at.1)) (cases_eq v l.var);
  inside = λ j h. omega (arith, t.inside j h, length_push path l);
  narrow = omega (arith, t.narrow, length-set places l.var (Some n));
  rising = t.rising;
}

pub IsTrail-cut : (path : List Literal) (reasons : List (Option ClauseId)) (starts : List ℕ) (places new : List (Option ℕ)) (level n : ℕ) → IsTrail path reasons starts places → level < length starts → n ≡ get_or starts level 0
    → ((k : ℕ) (d : Literal) → k < length (drop n path) → get_or new (get_or (drop n path) k d).var None ≡ None)
    → ((v : ℕ) → ((k : ℕ) (d : Literal) → k < length (drop n path) → (get_or (drop n path) k d).var ≡ v → ⊥) → get_or new v None ≡ get_or places v None)
    → length new ≡ length places
    → IsTrail (take n path) (take n reasons) (take level starts) new
IsTrail-cut path reasons starts places new level n t low n-is cleared others same =
    let n-in : n ≤ length path = omega (arith, t.inside level low) in
    record {
      same_length = omega (arith, length-take n reasons, length-take n path, t.same_length);
      placed = λ i d h. let i-low : i < n = omega (arith, length-take n path) in
          let kept : (k : ℕ) (e : Literal) → k < length (drop n path) → (get_or (drop n path) k e).var ≡ (get_or path i d).var → ⊥ =
          (λ k e k-in same. let there : n + k < length path = omega (arith, length-drop n path) in
          let at-k : get_or places (get_or path (n + k) e).var None ≡ Some (n + k) = t.placed (n + k) e there in
          let at-i : get_or places (get_or path i d).var None ≡ Some i = t.placed i d (omega arith) in
          let both : n + k ≡ i = some_same (n + k) i (sym at-k ∙ (ap (λ (v : ℕ). get_or places v None) (ap (λ (m : Literal). m.var) (sym (get_or-drop n path k e)) ∙ same) ∙ at-i)) in
          absurd (omega arith)) in
          ap (λ (m : Literal). get_or new m.var None) (get_or-take n path i d i-low) ∙ (others (get_or path i d).var kept ∙ t.placed i d (omega arith));
      standing = λ v p d e.
          let kept : (k : ℕ) (m : Literal) → k < length (drop n path) → (get_or (drop n path) k m).var ≡ v → ⊥ =
          (λ k m k-in same. none_some (get_or new v None) p (ap (λ (w : ℕ). get_or new w None) (sym same) ∙ cleared k m k-in) e) in
          let old : get_or places v None ≡ Some p = sym (others v kept) ∙ e in
          let at : (p < length path) × ((get_or path p d).var ≡ v) = t.standing v p d old in
          let low : p < n = ⊎_elim (λ (lt : p < n). lt) (λ (ge : n ≤ p). absurd (kept (p - n) d (omega (arith, length-drop n path, at.0))
          (ap (λ (m : Literal). m.var) (get_or-drop n path (p - n) d ∙ ap (λ (q : ℕ). get_or path q d) (let q-is : n + (p - n) ≡ p = omega arith in q-is)) ∙ at.1))) (cases_lt p n) in
          (omega (arith, length-take n path), ap (λ (m : Literal). m.var) (get_or-take n path p d low) ∙ at.1);
      inside = λ j h. let low-j : j < level = omega (arith, length-take level starts) in
          let at-j : get_or (take level starts) j 0 ≡ get_or starts j 0 = get_or-take level starts j 0 low-j in
          omega (arith, at-j, t.rising j level low-j low, length-take n path);
      narrow = omega (arith, t.narrow, same);
      rising = λ i j lt h. let low-j : j < level = omega (arith, length-take level starts) in
          let at-i : get_or (take level starts) i 0 ≡ get_or starts i 0 = get_or-take level starts i 0 (omega arith) in
          let at-j : get_or (take level starts) j 0 ≡ get_or starts j 0 = get_or-take level starts j 0 low-j in
          omega (arith, at-i, at-j, t.rising i j lt (omega (arith, length-take level starts)));
    }

-- a literal among the first n stands at its variable's place
pub place_of : (path : List Literal) (reasons : List (Option ClauseId)) (starts : List ℕ) (places : List (Option ℕ)) (n p : ℕ) (l : Literal) → IsTrail path reasons starts places → get_or places l.var None ≡ Some p → Contains (take n path) l → (p < n) × (get_or path p l ≡ l)
place_of path reasons starts places n p l t e (k, k-in, k-is) =
    let k-low : k < n = omega (arith, length-take n path) in
    let there : get_or path k l ≡ l = sym (get_or-take n path k l k-low) ∙ k-is in
    let same : p ≡ k = some_same p k (sym e ∙ (ap (λ (m : Literal). get_or places m.var None) (sym there) ∙ t.placed k l (omega (arith, length-take n path)))) in
    (omega arith, ap (λ (m : ℕ). get_or path m l) same ∙ there)

pub holds_at : (path : List Literal) (n p : ℕ) (l : Literal) → p < n → p < length path → get_or path p l ≡ l → Contains (take n path) l
holds_at path n p l low h e = (p, omega (arith, length-take n path), get_or-take n path p l low ∙ e)

-- a step of the loop that clears
none_after : (ps : List (Option ℕ)) (w x : ℕ) → w < length ps → get_or ps x None ≡ None → get_or (set ps w None) x None ≡ None
none_after ps w x h e = ⊎_elim (λ same. ap (λ (y : ℕ). get_or (set ps w None) y None) same ∙ get_or-set_same ps w None None h) (λ other. get_or-set_other ps w x None None other ∙ e) (cases_eq x w)

pub cleared_more : (ps : List (Option ℕ)) (gone : List Literal) (i : ℕ) (e : Literal) → i < length gone → (get_or gone i e).var < length ps → ((k : ℕ) (d : Literal) → k < i → get_or ps (get_or gone k d).var None ≡ None) → (k : ℕ) (d : Literal) → k < i + 1 → get_or (set ps (get_or gone i e).var None) (get_or gone k d).var None ≡ None
cleared_more ps gone i e h r all k d low =
    ⊎_elim (λ lt. none_after ps (get_or gone i e).var (get_or gone k d).var r (all k d lt))
    (λ ge. let k-is : k ≡ i = omega arith in
    ap (λ (m : Literal). get_or (set ps (get_or gone i e).var None) m.var None) (ap (λ (q : ℕ). get_or gone q d) k-is ∙ get_or_default gone i d e h) ∙ get_or-set_same ps (get_or gone i e).var None None r) (cases_lt k i)

pub others_more : (ps start : List (Option ℕ)) (gone : List Literal) (i : ℕ) (e : Literal) → ((v : ℕ) → ((k : ℕ) (d : Literal) → k < i → (get_or gone k d).var ≡ v → ⊥) → get_or ps v None ≡ get_or start v None) → (v : ℕ) → ((k : ℕ) (d : Literal) → k < i + 1 → (get_or gone k d).var ≡ v → ⊥) → get_or (set ps (get_or gone i e).var None) v None ≡ get_or start v None
others_more ps start gone i e all v none =
    get_or-set_other ps (get_or gone i e).var v None None (λ same. none i e (omega arith) (sym same)) ∙ all v (λ k d low. none k d (omega arith))

-- one more literal of a clause
pub all_but_more : (path : List Literal) (u : Literal) (c : List Literal) (i : ℕ) (d : Literal) → i < length c → AllButFalseIn path u (take i c) → ((get_or c i d ≡ u → ⊥) → IsFalseIn path (get_or c i d)) → AllButFalseIn path u (take (i + 1) c)
all_but_more path u c i d h all here l l-in ne =
    ⊎_elim (λ before. all l before ne) (λ same. subst (IsFalseIn path) same (here (λ e. ne (sym same ∙ e))))
    (Contains-push_cases (take i c) (get_or c i d) l (subst (λ (zs : List Literal). Contains zs l) (take_more c i d h) l-in))

-- what a trail keeps says that no literal is true and false
var_once : (path : List Literal) (reasons : List (Option ClauseId)) (starts : List ℕ) (places : List (Option ℕ)) (l m : Literal) → IsTrail path reasons starts places → Contains path l → Contains path m → l.var ≡ m.var → l ≡ m
var_once path reasons starts places l m t (i, i-in, i-is) (j, j-in, j-is) e =
    let at-i : get_or places l.var None ≡ Some i = ap (λ (x : Literal). get_or places x.var None) (sym i-is) ∙ t.placed i l i-in in
    let at-j : get_or places m.var None ≡ Some j = ap (λ (x : Literal). get_or places x.var None) (sym j-is) ∙ t.placed j m j-in in
    let same : i ≡ j = some_same i j (sym at-i ∙ (ap (λ (v : ℕ). get_or places v None) e ∙ at-j)) in
    sym i-is ∙ (get_or_default path i l m i-in ∙ (ap (λ (k : ℕ). get_or path k m) same ∙ j-is))

pub consistent : (path : List Literal) (reasons : List (Option ClauseId)) (starts : List ℕ) (places : List (Option ℕ)) (l : Literal) → IsTrail path reasons starts places → Contains path l → IsFalseIn path l → ⊥
consistent path reasons starts places l t is-true is-false = opposite_other l (sym (var_once path reasons starts places l (opposite l) t is-true is-false refl))

pub free_is_not : (path : List Literal) (reasons : List (Option ClauseId)) (starts : List ℕ) (places : List (Option ℕ)) (l m : Literal) → IsTrail path reasons starts places → get_or places l.var None ≡ None → m.var ≡ l.var → Contains path m → ⊥
free_is_not path reasons starts places l m t free e (i, i-in, i-is) =
    none_some (get_or places m.var None) i (ap (λ (v : ℕ). get_or places v None) e ∙ free) (ap (λ (x : Literal). get_or places x.var None) (sym i-is) ∙ t.placed i m i-in)

signs : (s t : Bool) → (s ≡ t → ⊥) → s ≡ not t
signs true true ne = absurd (ne refl)
signs true false ne = refl
signs false true ne = refl
signs false false ne = absurd (ne refl)

-- two literals of a variable are one, or opposite
pub other_sign : (a b : Literal) → a.var ≡ b.var → (a ≡ b → ⊥) → a ≡ opposite b
other_sign a b e ne = literal_equal a (opposite b) e (signs a.negated b.negated (λ f. ne (literal_equal a b e f)))

-- the same, where a loop names the literal
pub all_but_item : (path : List Literal) (u : Literal) (c : List Literal) (i : ℕ) (l : Literal) → i < length c → l ≡ get_or c i l → AllButFalseIn path u (take i c) → ((l ≡ u → ⊥) → IsFalseIn path l) → AllButFalseIn path u (take (i + 1) c)
all_but_item path u c i l h is all here = all_but_more path u c i l h all (λ ne. subst (IsFalseIn path) is (here (λ e. ne (sym is ∙ e))))

-- a literal that a loop over a clause names stands in it
pub item_in : (c : List Literal) (i : ℕ) (l : Literal) → i < length c → l ≡ get_or c i l → Contains c l
item_in c i l h is = (i, h, sym is)

-- no level has begun
pub no_level : (starts : List ℕ) → length starts ≡ 0 → starts ≡ []
no_level [] e = refl
no_level (x ∷ xs) e = absurd (omega (arith, e))
