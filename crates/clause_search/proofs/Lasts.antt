-- Looking for the literal that became false last.
use Rattle.std.proofs.Common.{◌≡◌, ℕ, ◌+◌, ◌<◌, ◌≤◌, true, false, Option, Some, None, List, [], ◌∷◌, length, take, get_or, sym, ◌∙◌, ap, subst, arith, ◌⊎◌, ⊎_elim}
use Rattle.std.specs.Option.{MatchOption, is_none}
use Rattle.std.specs.List.{Contains}
use Rattle.std.proofs.lemmas.List.{take_more, get_or-take, length-take}
use Rattle.std.proofs.lemmas.List.Elements.{Contains-push, Contains-push_cases, Contains-append_left}
use Rattle.cnf_clauses.specs.Literal.{Literal, opposite}
use Rattle.cnf_clauses.specs.declared.lit.ClauseId.{ClauseId}
use Rattle.clause_search.specs.Path.{IsFalseIn, AllButFalseIn, IsTrail}
use Rattle.clause_search.specs.Last.{IsLast}
use Rattle.clause_search.proofs.Paths.{some_same}

true_false : true ≡ false → ⊥
true_false e = cc

cases_at : (c : List Literal) (i : ℕ) (d l : Literal) → i < length c → Contains (take (i + 1) c) l → Contains (take i c) l ⊎ (get_or c i d ≡ l)
cases_at c i d l h l-in = Contains-push_cases (take i c) (get_or c i d) l (subst (λ (zs : List Literal). Contains zs l) (take_more c i d h) l-in)

pub last_same : (path : List Literal) (places : List (Option ℕ)) (first : Literal) (c : List Literal) (i : ℕ) (d : Literal) (place : ℕ) (o : Option Literal) → i < length c → get_or c i d ≡ first → IsLast path places first (take i c) place o → IsLast path places first (take (i + 1) c) place o
last_same path places first c i d place None h is all = λ l l-in. ⊎_elim (λ before. all l before) (λ here. sym here ∙ is) (cases_at c i d l h l-in)
last_same path places first c i d place (Some w) h is (w-in, ne, at, all) = (
  subst (λ (zs : List Literal). Contains zs w) (sym (take_more c i d h)) (Contains-append_left (take i c) (get_or c i d ∷ []) w w-in),
  ne,
  at,
  (λ l l-in l-ne. ⊎_elim (λ before. all l before l-ne) (λ here. absurd (l-ne (sym here ∙ is))) (cases_at c i d l h l-in)),
)

pub last_kept : (path : List Literal) (places : List (Option ℕ)) (first : Literal) (c : List Literal) (i : ℕ) (d : Literal) (place at : ℕ) (o : Option Literal) → i < length c → is_none o ≡ false → at ≤ place → get_or places (get_or c i d).var None ≡ Some at → IsLast path places first (take i c) place o → IsLast path places first (take (i + 1) c) place o
last_kept path places first c i d place at None h some low at-is all = absurd (true_false some)
last_kept path places first c i d place at (Some w) h some low at-is (w-in, ne, w-at, all) = (
  subst (λ (zs : List Literal). Contains zs w) (sym (take_more c i d h)) (Contains-append_left (take i c) (get_or c i d ∷ []) w w-in),
  ne,
  w-at,
  (λ l l-in l-ne. ⊎_elim (λ before. all l before l-ne) (λ here. (at, ap (λ (m : Literal). get_or places m.var None) (sym here) ∙ at-is, low)) (cases_at c i d l h l-in)),
)

pub last_new : (path : List Literal) (places : List (Option ℕ)) (first : Literal) (c : List Literal) (i : ℕ) (d : Literal) (place at : ℕ) (o : Option Literal) → i < length c → (is_none o ≡ true) ⊎ (place < at) → (get_or c i d ≡ first → ⊥) → get_or places (get_or c i d).var None ≡ Some at → IsLast path places first (take i c) place o → IsLast path places first (take (i + 1) c) at (Some (get_or c i d))
last_new path places first c i d place at None h why ne at-is all = (
  subst (λ (zs : List Literal). Contains zs (get_or c i d)) (sym (take_more c i d h)) (Contains-push (take i c) (get_or c i d)),
  ne,
  at-is,
  (λ l l-in l-ne. ⊎_elim (λ before. absurd (l-ne (all l before))) (λ here. (at, ap (λ (m : Literal). get_or places m.var None) (sym here) ∙ at-is, omega arith)) (cases_at c i d l h l-in)),
)
last_new path places first c i d place at (Some w) h why ne at-is (w-in, w-ne, w-at, all) =
    let low : place < at = ⊎_elim (λ none. absurd (true_false (sym none))) (λ lt. lt) why in (
      subst (λ (zs : List Literal). Contains zs (get_or c i d)) (sym (take_more c i d h)) (Contains-push (take i c) (get_or c i d)),
      ne,
      at-is,
      (λ l l-in l-ne. ⊎_elim (λ before. let x = all l before l-ne in (x.0, x.1, omega (arith, x.2))) (λ here. (at, ap (λ (m : Literal). get_or places m.var None) (sym here) ∙ at-is, omega arith)) (cases_at c i d l h l-in)),
    )

-- a literal that is false by n has its place below n, and the other way round
place_low : (path : List Literal) (reasons : List (Option ClauseId)) (starts : List ℕ) (places : List (Option ℕ)) (n p : ℕ) (l : Literal) → IsTrail path reasons starts places → get_or places l.var None ≡ Some p → IsFalseIn (take n path) l → p < n
place_low path reasons starts places n p l t p-is (k, k-in, k-is) =
    let k-low : k < n = omega (arith, length-take n path) in
    let there : get_or path k (opposite l) ≡ opposite l = sym (get_or-take n path k (opposite l) k-low) ∙ k-is in
    let same : p ≡ k = some_same p k (sym p-is ∙ (ap (λ (m : Literal). get_or places m.var None) (sym there) ∙ t.placed k (opposite l) (omega (arith, length-take n path)))) in
    omega arith

low_place : (path : List Literal) (reasons : List (Option ClauseId)) (starts : List ℕ) (places : List (Option ℕ)) (n p : ℕ) (l : Literal) → IsTrail path reasons starts places → get_or places l.var None ≡ Some p → IsFalseIn path l → p < n → IsFalseIn (take n path) l
low_place path reasons starts places n p l t p-is (k, k-in, k-is) low =
    let same : p ≡ k = some_same p k (sym p-is ∙ (ap (λ (m : Literal). get_or places m.var None) (sym k-is) ∙ t.placed k (opposite l) k-in)) in
    (k, omega (arith, length-take n path), get_or-take n path k (opposite l) (omega arith) ∙ k-is)

pub last_gives : (path : List Literal) (reasons : List (Option ClauseId)) (starts : List ℕ) (places : List (Option ℕ)) (first : Literal) (c : List Literal) (place : ℕ) (o : Option Literal) → IsTrail path reasons starts places → AllButFalseIn path first c → IsLast path places first c place o → MatchOption o ((l : Literal) → Contains c l → l ≡ first) (λ w. Contains c w × (w ≡ first → ⊥) × ((n : ℕ) → IsFalseIn (take n path) w → AllButFalseIn (take n path) first c))
last_gives path reasons starts places first c place None t but all = all
last_gives path reasons starts places first c place (Some w) t but (w-in, ne, at, all) = (
  w-in,
  ne,
  (λ n w-false l l-in l-ne. let x = all l l-in l-ne in
      low_place path reasons starts places n x.0 l t x.1 (but l l-in l-ne) (omega (arith, x.2, place_low path reasons starts places n place w t at w-false))),
)
