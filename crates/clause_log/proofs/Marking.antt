-- The marks of a clause.
use Rattle.std.proofs.Common.{◌≡◌, ℕ, ◌+◌, ◌*◌, ◌<◌, ◌≤◌, Bool, true, false, cond, List, [], ◌∷◌, ◌++◌, length, drop, get_or, set, refl, sym, ◌∙◌, ap, subst, arith, ⊎_elim}
use Rattle.std.proofs.Common.{drop-cons, add-one}
use Rattle.std.specs.List.{Contains}
use Rattle.std.proofs.lemmas.Bool.{cases_Bool, both_ways}
use Rattle.std.proofs.lemmas.List.{get_or-set_same, get_or-set_other, length-set, length-drop}
use Rattle.std.proofs.lemmas.List.Elements.{Contains-append_left, Contains-push, Contains-push_cases}
use Rattle.cnf_clauses.specs.Literal.{Literal, code_of}
use Rattle.cnf_clauses.specs.Clause.{HasVariablesBelow}
use Rattle.clause_log.specs.Resolution.{stands_in, without, first_places}
use Rattle.clause_log.specs.Marks.{AreMarks, HasMarks, IsMarked}
use Rattle.clause_log.proofs.Resolving.{stands_in-true, stands_in_from, same_or_other, code_same, Contains-without, without-within, Contains-nil, Contains-cases, first_places_more, first_places-without, without-absent}

-- the number of a literal whose variable is below n
code_by_sign : (n : ℕ) (l : Literal) (s : Bool) → l.var < n → 2 * l.var + cond s 1 0 < 2 * n
code_by_sign n l true h = omega arith
code_by_sign n l false h = omega arith

pub code_below : (n : ℕ) (l : Literal) → l.var < n → code_of l < 2 * n
code_below n l h = code_by_sign n l l.negated h

pub has_marks : (n : ℕ) (marks : List Bool) (c : List Literal) → length marks ≡ 2 * n → HasVariablesBelow n c → HasMarks marks c
has_marks n marks c size below l l-in = omega (arith, size, code_below n l (below l l-in))

-- tests that hold together are equal
pub same_test : (a b : Bool) → (a ≡ true → b ≡ true) → (b ≡ true → a ≡ true) → a ≡ b
same_test true b to back = sym (to refl)
same_test false true to back = back refl
same_test false false to back = refl

same_place : (c d : List Literal) (l : Literal) → (Contains c l → Contains d l) → (Contains d l → Contains c l) → stands_in c l ≡ stands_in d l
same_place c d l to back = same_test (stands_in c l) (stands_in d l) (λ e. stands_in_from d l (to (stands_in-true c l e))) (λ e. stands_in_from c l (back (stands_in-true d l e)))

not_there : (c : List Literal) (l : Literal) → (Contains c l → ⊥) → stands_in c l ≡ false
not_there c l out = ⊎_elim (λ t. absurd (out (stands_in-true c l t))) (λ f. f) (cases_Bool (stands_in c l))

pub out_of : (c : List Literal) (l : Literal) → stands_in c l ≡ false → Contains c l → ⊥
out_of c l f l-in = both_ways (stands_in c l) f (stands_in_from c l l-in)

-- a literal more
pub IsMarked-push : (marks : List Bool) (c : List Literal) (l : Literal) → IsMarked marks c → code_of l < length marks → stands_in c l ≡ false → IsMarked (set marks (code_of l) true) (c ++ l ∷ [])
IsMarked-push marks c l m h f = record {
  exact = λ k k-in. ⊎_elim
      (λ same. ap (λ (x : Literal). get_or (set marks (code_of l) true) (code_of x) false) same ∙ (get_or-set_same marks (code_of l) true false h ∙ sym (stands_in_from (c ++ l ∷ []) k (subst (Contains (c ++ l ∷ [])) (sym same) (Contains-push c l)))))
      (λ other. get_or-set_other marks (code_of l) (code_of k) true false (λ e. other (code_same k l e))
      ∙ (m.exact k (omega (arith, length-set marks (code_of l) true)) ∙ same_place c (c ++ l ∷ []) k (Contains-append_left c (l ∷ []) k) (λ k-in. ⊎_elim (λ before. before) (λ here. absurd (other (sym here))) (Contains-push_cases c l k k-in)))) (same_or_other k l);
  inside = λ k k-in. ⊎_elim (λ before. omega (arith, m.inside k before, length-set marks (code_of l) true)) (λ here. rw (← here) (omega (arith, h, length-set marks (code_of l) true))) (Contains-push_cases c l k k-in);
  once = first_places_more c l (out_of c l f) ∙ ap (λ (zs : List Literal). zs ++ l ∷ []) m.once;
}

-- a literal less
pub IsMarked-without : (marks : List Bool) (c : List Literal) (l : Literal) → IsMarked marks c → IsMarked (set marks (code_of l) false) (without l c)
IsMarked-without marks c l m = record {
  exact = λ k k-in. let old-in : code_of k < length marks = omega (arith, length-set marks (code_of l) false) in ⊎_elim
      (λ same. ap (λ (x : Literal). get_or (set marks (code_of l) false) (code_of x) false) same ∙ (get_or-set_same marks (code_of l) false false (subst (λ (x : Literal). code_of x < length marks) same old-in) ∙ sym (not_there (without l c) k (λ there. (without-within l k c there).1 same))))
      (λ other. get_or-set_other marks (code_of l) (code_of k) false false (λ e. other (code_same k l e))
      ∙ (m.exact k old-in ∙ same_place c (without l c) k (λ there. Contains-without l k c there other) (λ there. (without-within l k c there).0))) (same_or_other k l);
  inside = λ k k-in. omega (arith, m.inside k (without-within l k c k-in).0, length-set marks (code_of l) false);
  once = first_places-without l c ∙ ap (without l) m.once;
}

-- a literal that has no mark isn't there
pub IsMarked-absent : (marks : List Bool) (c : List Literal) (l : Literal) → IsMarked marks c → length marks ≤ code_of l → IsMarked marks (without l c)
IsMarked-absent marks c l m past = subst (IsMarked marks) (sym (without-absent l c (λ there. absurd (omega (arith, m.inside l there))))) m

-- no mark is left
pub IsMarked-nil : (marks : List Bool) → AreMarks marks [] → IsMarked marks []
unfolding first_places
IsMarked-nil marks e = record { exact = e; inside = λ l l-in. absurd (Contains-nil l l-in); once = refl }

-- what a loop that takes marks away has left
pub unmarked_more : (marks : List Bool) (c : List Literal) (i : ℕ) (d : Literal) → i < length c → ((l : Literal) → code_of l < length marks → get_or marks (code_of l) false ≡ true → Contains (drop i c) l)
    → (l : Literal) → code_of l < length marks → get_or (set marks (code_of (get_or c i d)) false) (code_of l) false ≡ true → Contains (drop (i + 1) c) l
unmarked_more marks c i d h all l l-in e =
    let gone : Literal = get_or c i d in
    ⊎_elim
    (λ same. absurd (both_ways (get_or (set marks (code_of gone) false) (code_of l) false) (ap (λ (x : Literal). get_or (set marks (code_of gone) false) (code_of x) false) same ∙ get_or-set_same marks (code_of gone) false false (subst (λ (x : Literal). code_of x < length marks) same l-in)) e))
    (λ other. ⊎_elim (λ here. absurd (other (sym here))) (λ later. later)
    (Contains-cases gone l (drop (i + 1) c) (subst (λ (zs : List Literal). Contains zs l) (drop-cons c i d h ∙ ap (λ (n : ℕ). gone ∷ drop n c) (sym (add-one i)))
    (all l l-in (sym (get_or-set_other marks (code_of gone) (code_of l) false false (λ f. other (code_same l gone f))) ∙ e)))))
    (same_or_other l gone)

nothing_past : (c : List Literal) (n : ℕ) (l : Literal) → length c ≤ n → Contains (drop n c) l → ⊥
nothing_past c n l past there = absurd (omega (arith, there.1, length-drop n c))

pub unmarked_all : (marks : List Bool) (c : List Literal) (n : ℕ) → length c ≤ n → ((l : Literal) → code_of l < length marks → get_or marks (code_of l) false ≡ true → Contains (drop n c) l) → AreMarks marks []
unmarked_all marks c n past all l l-in =
    ⊎_elim (λ t. absurd (nothing_past c n l past (all l l-in t))) (λ f. f) (cases_Bool (get_or marks (code_of l) false))
