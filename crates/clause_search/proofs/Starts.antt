-- The first pairs of watched literals.
use Rattle.std.proofs.Common.{◌≡◌, ℕ, ◌+◌, ◌<◌, Option, Some, None, List, [], ◌∷◌, ◌++◌, length, get_or, refl, sym, ◌∙◌, subst, arith, ⊎_elim}
use Rattle.std.specs.Option.{MatchOption}
use Rattle.std.specs.List.{Contains}
use Rattle.std.proofs.lemmas.List.{get_or_append_left, get_or_push}
use Rattle.std.proofs.lemmas.Bool.{cases_lt}
use Rattle.cnf_clauses.specs.Literal.{Literal, opposite}
use Rattle.clause_log.proofs.Resolving.{Contains-nil}
use Rattle.clause_search.specs.declared.watch.Pair.{Pair}
use Rattle.clause_search.specs.Start.{HoldsUnits}
use Rattle.clause_search.specs.Watch.{IsHeld}
use Rattle.clause_search.specs.Pass.{pair_of}

-- a clause begins with one of its literals, or is empty
pub some_literal : (c : List Literal) → (c ≡ [] → ⊥) → 0 < length c
some_literal [] some = absurd (some refl)
some_literal (x ∷ xs) some = omega arith

-- two literals of a clause may be watched where nothing was gone through
pub chosen : (path c : List Literal) (first : Literal) (o : Option Literal) → Contains c first → HoldsUnits path c → MatchOption o ((l : Literal) → Contains c l → l ≡ first) (λ x. Contains c x × (x ≡ first → ⊥)) → IsHeld path 0 [] c (pair_of first o)
chosen path c first None first-in units all = record {
  now = λ l l-in. subst (Contains path) (sym (all l l-in)) (units first first-in all);
  at_starts = λ j h. absurd (omega arith);
}
chosen path c first (Some x) first-in units (x-in, ne) = record {
  first_in = first-in;
  second_in = x-in;
  different = λ e. ne (sym e);
  now = record { first = λ f. absurd (Contains-nil (opposite first) f); second = λ f. absurd (Contains-nil (opposite x) f) };
  at_starts = λ j h. absurd (omega arith);
}

-- one clause more
pub held_more : (path : List Literal) (db : List (List Literal)) (pairs new : List (Option Pair)) (k : ℕ) (o : Option Pair) → length pairs ≡ k → new ≡ pairs ++ o ∷ [] → ((j : ℕ) → j < k → IsHeld path 0 [] (get_or db j []) (get_or pairs j None)) → IsHeld path 0 [] (get_or db k []) o → (j : ℕ) → j < k + 1 → IsHeld path 0 [] (get_or db j []) (get_or new j None)
held_more path db pairs new k o len new-is all here j h =
    subst (λ (ps : List (Option Pair)). IsHeld path 0 [] (get_or db j []) (get_or ps j None)) (sym new-is)
    (⊎_elim (λ lt. subst (IsHeld path 0 [] (get_or db j [])) (sym (get_or_append_left pairs (o ∷ []) None j (omega arith))) (all j lt))
    (λ ge. let j-is : k ≡ j = omega arith in
    subst (IsHeld path 0 [] (get_or db j [])) (sym (get_or_push pairs o None j (len ∙ j-is))) (subst (λ (m : ℕ). IsHeld path 0 [] (get_or db m []) o) j-is here)) (cases_lt j k))

-- a path that grows still holds units
pub units_more : (path new : List Literal) (db : List (List Literal)) (k : ℕ) → ((l : Literal) → Contains path l → Contains new l) → ((j : ℕ) → j < k → HoldsUnits path (get_or db j [])) → HoldsUnits new (get_or db k []) → (j : ℕ) → j < k + 1 → HoldsUnits new (get_or db j [])
units_more path new db k grown all here j h =
    ⊎_elim (λ lt u u-in alone. grown u (all j lt u u-in alone)) (λ ge. let j-is : k ≡ j = omega arith in subst (λ (m : ℕ). HoldsUnits new (get_or db m [])) j-is here) (cases_lt j k)

-- a clause with two literals has no unit
pub two_literals : (path c : List Literal) (a x : Literal) → Contains c a → Contains c x → (x ≡ a → ⊥) → HoldsUnits path c
two_literals path c a x a-in x-in ne u u-in alone = absurd (ne (alone x x-in ∙ sym (alone a a-in)))

-- a clause of one literal that is true
pub one_literal : (path c : List Literal) (a : Literal) → Contains c a → Contains path a → HoldsUnits path c
one_literal path c a a-in a-true u u-in alone = subst (Contains path) (alone a a-in) a-true
