-- A closed path that gives each variable a value is a model.
use Rattle.std.proofs.Common.{◌≡◌, ℕ, ◌+◌, ◌<◌, Bool, true, false, not, cond, Option, Some, None, List, [], ◌∷◌, ◌++◌, length, take, get_or, map, refl, sym, ◌∙◌, ap, subst, arith, ◌⊎◌, ⊎_elim, inl, inr}
use Rattle.std.specs.List.{Contains}
use Rattle.std.proofs.lemmas.List.{get_or_append_left, get_or_push, length_push, length-append, take-append-le, take_all, get_or_default}
use Rattle.std.proofs.lemmas.Bool.{cases_lt, cases_Bool}
use Rattle.cnf_clauses.specs.Literal.{Literal, opposite, value_of}
use Rattle.cnf_clauses.specs.declared.lit.ClauseId.{ClauseId}
use Rattle.cnf_clauses.specs.Clause.{IsMet, Models}
use Rattle.clause_log.specs.Resolution.{IsNew}
use Rattle.clause_log.proofs.Resolving.{same_or_other, Contains-nil, Contains-here, Contains-later, Contains-cases, literal_equal}
use Rattle.clause_log.specs.Line.{Line, clause_of}
use Rattle.clause_search.specs.Path.{IsFalseIn, AllFalseIn, IsClosed, IsClosedFor, IsTrail, IsSearch}
use Rattle.clause_log.specs.Log.{all_clauses, EachIsNew}
use Rattle.clause_search.specs.Found.{assigned, AreValues}
use Rattle.clause_search.specs.New.{AddsNew}
use Rattle.clause_search.proofs.Paths.{consistent, no_lit, other_sign}

-- a literal whose variable has a place is true or false
pub true_or_false : (path : List Literal) (reasons : List (Option ClauseId)) (starts : List ℕ) (places : List (Option ℕ)) (l : Literal) (o : Option ℕ) → IsTrail path reasons starts places → get_or places l.var None ≡ o → (o ≡ None → ⊥) → Contains path l ⊎ IsFalseIn path l
true_or_false path reasons starts places l None t e ne = absurd (ne refl)
true_or_false path reasons starts places l (Some p) t e ne =
    let at = t.standing l.var p l e in
    let m : Literal = get_or path p l in
    ⊎_elim (λ same. inl (p, at.0, same))
    (λ other. let opp : m ≡ opposite l = other_sign m l at.1 other in inr (p, at.0, get_or_default path p (opposite l) l at.0 ∙ opp)) (same_or_other m l)

-- some literal is true, or all are false
pub some_or_all : (path c : List Literal) → ((l : Literal) → Contains c l → Contains path l ⊎ IsFalseIn path l) → ((l : Literal) × Contains c l × Contains path l) ⊎ AllFalseIn path c
some_or_all path [] each = inr (λ l h. absurd (Contains-nil l h))
some_or_all path (x ∷ xs) each =
    ⊎_elim (λ x-true. inl (x, Contains-here x xs, x-true))
    (λ x-false. ⊎_elim (λ (l, l-in, l-true). inl (l, Contains-later x l xs l-in, l-true))
    (λ all. inr (λ l l-in. ⊎_elim (λ same. subst (IsFalseIn path) same x-false) (λ later. all l later) (Contains-cases x l xs l-in)))
    (some_or_all path xs (λ l l-in. each l (Contains-later x l xs l-in))))
    (each x (Contains-here x xs))

by_sign : (path : List Literal) (reasons : List (Option ClauseId)) (starts : List ℕ) (places : List (Option ℕ)) (bs : List Bool) (l : Literal) (s : Bool) → IsTrail path reasons starts places → AreValues path (length places) bs → l.var < length places → Contains path l → l.negated ≡ s → value_of (assigned bs) l ≡ true
by_sign path reasons starts places bs l false t values inside l-in e =
    ap (λ (s : Bool). cond s (not (assigned bs l.var)) (assigned bs l.var)) e
    ∙ (values l.var inside).1 (subst (Contains path) (literal_equal l record { var = l.var; negated = false } refl e) l-in)
by_sign path reasons starts places bs l true t values inside l-in e =
    ap (λ (s : Bool). cond s (not (assigned bs l.var)) (assigned bs l.var)) e
    ∙ ⊎_elim (λ yes. absurd (consistent path reasons starts places l t l-in (subst (Contains path) (literal_equal record { var = l.var; negated = false } (opposite l) refl (sym (ap not e))) ((values l.var inside).0 yes))))
    (λ no. ap not no) (cases_Bool (assigned bs l.var))

-- a literal of the path has the value true
pub true_value : (path : List Literal) (reasons : List (Option ClauseId)) (starts : List ℕ) (places : List (Option ℕ)) (bs : List Bool) (l : Literal) → IsTrail path reasons starts places → AreValues path (length places) bs → l.var < length places → Contains path l → value_of (assigned bs) l ≡ true
true_value path reasons starts places bs l t values inside l-in = by_sign path reasons starts places bs l l.negated t values inside l-in refl

pub closed_is_met : (path : List Literal) (reasons : List (Option ClauseId)) (starts : List ℕ) (places : List (Option ℕ)) (bs : List Bool) (c : List Literal) → IsTrail path reasons starts places → AreValues path (length places) bs → ((v : ℕ) → v < length places → get_or places v None ≡ None → ⊥) → ((l : Literal) → Contains c l → l.var < length places) → IsClosed path c → IsMet (assigned bs) c
closed_is_met path reasons starts places bs c t values full over closed =
    ⊎_elim (λ (l, l-in, l-true). (l, l-in, true_value path reasons starts places bs l t values (over l l-in) l-true))
    (λ all. absurd (consistent path reasons starts places no_lit t (closed no_lit (λ l l-in ne. all l l-in)) (closed (opposite no_lit) (λ l l-in ne. all l l-in))))
    (some_or_all path c (λ l l-in. true_or_false path reasons starts places l (get_or places l.var None) t refl (full l.var (over l l-in))))

pub path_is_model : (fs : List (List Literal)) (ls : List Line) (path : List Literal) (reasons : List (Option ClauseId)) (starts : List ℕ) (places : List (Option ℕ)) (bs : List Bool) → IsTrail path reasons starts places → AreValues path (length places) bs → ((v : ℕ) → v < length places → get_or places v None ≡ None → ⊥)
    → ((k : ℕ) → k < length (all_clauses fs ls) → (l : Literal) → Contains (get_or (all_clauses fs ls) k []) l → l.var < length places) → IsClosedFor path (all_clauses fs ls) → Models (assigned bs) fs
path_is_model fs ls path reasons starts places bs t values full over closed k h =
    let inside : k < length (all_clauses fs ls) = omega (arith, length-append fs (map clause_of ls)) in
    subst (IsMet (assigned bs)) (get_or_append_left fs (map clause_of ls) [] k h) (closed_is_met path reasons starts places bs (get_or (all_clauses fs ls) k []) t values full (over k inside) (closed k inside))

pushed : (fs : List (List Literal)) (ls : List Line) (e : Line) → EachIsNew fs ls → IsNew (all_clauses fs ls) e.clause → EachIsNew fs (ls ++ e ∷ [])
pushed fs ls e all here j d h =
    ⊎_elim (λ lt. subst (λ (zs : List Line). IsNew (all_clauses fs zs) (get_or (ls ++ e ∷ []) j d).clause) (sym (take-append-le j ls (e ∷ []) (omega arith)))
    (subst (λ (x : Line). IsNew (all_clauses fs (take j ls)) x.clause) (sym (get_or_append_left ls (e ∷ []) d j lt)) (all j d lt)))
    (λ ge. let j-is : j ≡ length ls = omega (arith, length_push ls e) in
    subst (λ (zs : List Line). IsNew (all_clauses fs zs) (get_or (ls ++ e ∷ []) j d).clause) (sym (take-append-le j ls (e ∷ []) (omega arith) ∙ take_all j ls (omega arith)))
    (subst (λ (x : Line). IsNew (all_clauses fs ls) x.clause) (sym (get_or_push ls e d j (sym j-is))) here)) (cases_lt j (length ls))

-- a line more
pub EachIsNew-more : (fs : List (List Literal)) (ls new : List Line) → EachIsNew fs ls → AddsNew fs ls new → EachIsNew fs new
EachIsNew-more fs ls new all a = subst (EachIsNew fs) (sym a.items) (pushed fs ls a.line all a.is_new)

-- one value more
pub values_more : (path : List Literal) (bs new : List Bool) (v : ℕ) (b : Bool) → AreValues path v bs → length bs ≡ v → new ≡ bs ++ b ∷ [] → (b ≡ true → Contains path record { var = v; negated = false }) → (Contains path record { var = v; negated = false } → b ≡ true) → AreValues path (v + 1) new
values_more path bs new v b all len-is new-is to back w h =
    ⊎_elim (λ lt. let same : assigned new w ≡ assigned bs w = ap (λ (x : List Bool). assigned x w) new-is ∙ get_or_append_left bs (b ∷ []) false w (omega arith) in
    ((λ e. (all w lt).0 (sym same ∙ e)), (λ l-in. same ∙ (all w lt).1 l-in)))
    (λ ge. let w-is : v ≡ w = omega arith in
    let same : assigned new w ≡ b = ap (λ (x : List Bool). assigned x w) new-is ∙ get_or_push bs b false w (len-is ∙ w-is) in (
      (λ e. subst (λ (k : ℕ). Contains path record { var = k; negated = false }) w-is (to (sym same ∙ e))),
      (λ l-in. same ∙ back (subst (λ (k : ℕ). Contains path record { var = k; negated = false }) (sym w-is) l-in)),
    )) (cases_lt w v)

-- the search begins
pub IsSearch-start : (db : List (List Literal)) (path : List Literal) (reasons : List (Option ClauseId)) (starts : List ℕ) (n : ℕ) → path ≡ [] → starts ≡ [] → ((k : ℕ) → k < length db → (l : Literal) → Contains (get_or db k []) l → l.var < n) → ((k : ℕ) → k < length db → get_or db k [] ≡ [] → ⊥) → IsSearch db path reasons starts n
IsSearch-start db path reasons starts n path-is starts-is over some = record {
  explained = λ i d h. absurd (omega (arith, ap length path-is));
  closed = λ j h. absurd (omega (arith, ap length starts-is));
  over = over;
  some = some;
}

pub length-added : (fs : List (List Literal)) (ls new : List Line) → AddsNew fs ls new → length new ≡ length ls + 1
length-added fs ls new a = ap length a.items ∙ length_push ls a.line
