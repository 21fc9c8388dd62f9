-- Literals that are one, and what stands in `without`, `first_places` and `resolvent`.
use Rattle.std.proofs.Common.{◌≡◌, ℕ, ◌*◌, Bool, true, false, not, cond, List, [], ◌∷◌, ◌++◌, ◌<◌, ◌+◌, zero, suc, length, get_or, take, refl, sym, ◌∙◌, ap, subst, inl, inr, ◌⊎◌, ⊎_elim, arith}
use Rattle.std.specs.List.{Contains}
use Rattle.std.proofs.lemmas.Bool.{eqb-true, eq-eqb, cases_Bool, false≢true, or_cases, cond-true, cond-false, both_ways, or_left, or_right}
use Rattle.std.proofs.lemmas.List.{append-nil, append_assoc, take_more}
use Rattle.std.proofs.lemmas.List.Elements.{Contains-append_left, Contains-append_right, Contains-append_cases}
use Rattle.cnf_clauses.specs.Literal.{Literal, opposite, code_of, same_literal, value_of}
use Rattle.cnf_clauses.specs.Clause.{IsMet}
use Rattle.cnf_clauses.proofs.Meeting.{value_of-opposite}
use Rattle.clause_log.specs.Resolution.{stands_in, without, first_places, resolvent}

not-not : (b : Bool) → not (not b) ≡ b
not-not true = refl
not-not false = refl

not-different : (b : Bool) → not b ≡ b → ⊥
not-different true e = cc
not-different false e = cc

pub literal_equal : (a b : Literal) → a.var ≡ b.var → a.negated ≡ b.negated → a ≡ b
literal_equal a b e f =
    let at_var : (n : ℕ) → Literal = λ (n : ℕ). record { var = n; negated = a.negated } in
    let at_sign : (s : Bool) → Literal = λ (s : Bool). record { var = b.var; negated = s } in
    ap at_var e ∙ ap at_sign f

pub opposite-opposite : (l : Literal) → opposite (opposite l) ≡ l
opposite-opposite l = literal_equal (opposite (opposite l)) l refl (not-not l.negated)

pub opposite_other : (l : Literal) → opposite l ≡ l → ⊥
opposite_other l e = not-different l.negated (ap (λ (m : Literal). m.negated) e)

by_signs : (a b : Literal) (s t : Bool) → a.negated ≡ s → b.negated ≡ t → 2 * a.var + cond s 1 0 ≡ 2 * b.var + cond t 1 0 → a ≡ b
by_signs a b false false e f g = literal_equal a b (omega (arith, g)) (e ∙ sym f)
by_signs a b true true e f g = literal_equal a b (omega (arith, g)) (e ∙ sym f)
by_signs a b false true e f g = absurd (omega (arith, g))
by_signs a b true false e f g = absurd (omega (arith, g))

-- literals of one number are one
pub code_same : (a b : Literal) → code_of a ≡ code_of b → a ≡ b
code_same a b e = by_signs a b a.negated b.negated refl refl e

pub same_literal-true : (a b : Literal) → same_literal a b ≡ true → a ≡ b
same_literal-true a b e = code_same a b (eqb-true (code_of a) (code_of b) e)

pub same_literal_from : (a b : Literal) → a ≡ b → same_literal a b ≡ true
same_literal_from a b e = eq-eqb (code_of a) (code_of b) (ap code_of e)

pub same_or_other : (a b : Literal) → (a ≡ b) ⊎ (a ≡ b → ⊥)
same_or_other a b = ⊎_elim (λ t. inl (same_literal-true a b t)) (λ f. inr (λ e. both_ways (same_literal a b) f (same_literal_from a b e))) (cases_Bool (same_literal a b))

-- membership by cases on the list
pub Contains-here : (x : Literal) (xs : List Literal) → Contains (x ∷ xs) x
Contains-here x xs = (0, omega arith, refl)

pub Contains-later : (y x : Literal) (xs : List Literal) → Contains xs x → Contains (y ∷ xs) x
Contains-later y x xs h = let lt : h.0 < length xs = h.1 in (suc h.0, omega arith, h.2)

pub Contains-cases : (y x : Literal) (xs : List Literal) → Contains (y ∷ xs) x → (y ≡ x) ⊎ Contains xs x
Contains-cases y x xs (zero, lt, e) = inl e
Contains-cases y x xs (suc k, lt, e) = inr (k, omega arith, e)

pub Contains-nil : (x : Literal) → Contains [] x → ⊥
Contains-nil x h = absurd (omega (arith, h.1))

same_literal_not : (a b : Literal) → (a ≡ b → ⊥) → same_literal a b ≡ false
same_literal_not a b ne = ⊎_elim (λ t. absurd (ne (same_literal-true a b t))) (λ f. f) (cases_Bool (same_literal a b))

-- what `without` keeps
without_here : (p x : Literal) (xs : List Literal) → x ≡ p → without p (x ∷ xs) ≡ without p xs
unfolding without
without_here p x xs e = cond-false (not (same_literal x p)) (x ∷ without p xs) (without p xs) (ap not (same_literal_from x p e))

without_other : (p x : Literal) (xs : List Literal) → (x ≡ p → ⊥) → without p (x ∷ xs) ≡ x ∷ without p xs
unfolding without
without_other p x xs ne = cond-true (not (same_literal x p)) (x ∷ without p xs) (without p xs) (ap not (same_literal_not x p ne))

without-nil : (p : Literal) → without p [] ≡ []
unfolding without
without-nil p = refl

-- membership along an equation of lists
pub along : (xs ys : List Literal) (l : Literal) → xs ≡ ys → Contains xs l → Contains ys l
along xs ys l e h = subst (λ (zs : List Literal). Contains zs l) e h

pub along_head : (x l : Literal) (xs : List Literal) → x ≡ l → Contains (x ∷ xs) l
along_head x l xs e = subst (λ (m : Literal). Contains (x ∷ xs) m) e (Contains-here x xs)

pub Contains-without : (p l : Literal) (xs : List Literal) → Contains xs l → (l ≡ p → ⊥) → Contains (without p xs) l
Contains-without p l [] h ne = absurd (Contains-nil l h)
Contains-without p l (x ∷ xs) h ne =
    ⊎_elim (λ x-is. along (without p xs) (without p (x ∷ xs)) l (sym (without_here p x xs x-is))
    (⊎_elim (λ here. absurd (ne (sym here ∙ x-is))) (λ later. Contains-without p l xs later ne) (Contains-cases x l xs h)))
    (λ other. along (x ∷ without p xs) (without p (x ∷ xs)) l (sym (without_other p x xs other))
    (⊎_elim (λ here. along_head x l (without p xs) here) (λ later. Contains-later x l (without p xs) (Contains-without p l xs later ne)) (Contains-cases x l xs h)))
    (same_or_other x p)

pub without-within : (p l : Literal) (xs : List Literal) → Contains (without p xs) l → Contains xs l × (l ≡ p → ⊥)
without-within p l [] h = absurd (Contains-nil l (along (without p []) [] l (without-nil p) h))
without-within p l (x ∷ xs) h =
    ⊎_elim (λ x-is. let r = without-within p l xs (along (without p (x ∷ xs)) (without p xs) l (without_here p x xs x-is) h) in (Contains-later x l xs r.0, r.1))
    (λ other. ⊎_elim (λ here. (along_head x l xs here, λ e. other (here ∙ e)))
    (λ later. let r = without-within p l xs later in (Contains-later x l xs r.0, r.1))
    (Contains-cases x l (without p xs) (along (without p (x ∷ xs)) (x ∷ without p xs) l (without_other p x xs other) h)))
    (same_or_other x p)

-- `first_places` keeps the elements
pub Contains-first_places : (l : Literal) (xs : List Literal) → Contains xs l → Contains (first_places xs) l
unfolding first_places
Contains-first_places l [] h = h
Contains-first_places l (x ∷ xs) h =
    ⊎_elim (λ e. along_head x l (without x (first_places xs)) e)
    (λ ne. ⊎_elim (λ here. absurd (ne here)) (λ later. Contains-later x l (without x (first_places xs)) (Contains-without x l (first_places xs) (Contains-first_places l xs later) (λ e. ne (sym e)))) (Contains-cases x l xs h))
    (same_or_other x l)

pub first_places-within : (l : Literal) (xs : List Literal) → Contains (first_places xs) l → Contains xs l
unfolding first_places
first_places-within l [] h = h
first_places-within l (x ∷ xs) h =
    ⊎_elim (λ here. along_head x l xs here)
    (λ later. Contains-later x l xs (first_places-within l xs (without-within x l (first_places xs) later).0))
    (Contains-cases x l (without x (first_places xs)) h)

-- what stands in a resolvent
pub Contains-resolvent_left : (p l : Literal) (c d : List Literal) → Contains c l → (l ≡ p → ⊥) → Contains (resolvent p c d) l
unfolding resolvent
Contains-resolvent_left p l c d h ne =
    Contains-first_places l (without p c ++ without (opposite p) d) (Contains-append_left (without p c) (without (opposite p) d) l (Contains-without p l c h ne))

pub Contains-resolvent_right : (p l : Literal) (c d : List Literal) → Contains d l → (l ≡ opposite p → ⊥) → Contains (resolvent p c d) l
unfolding resolvent
Contains-resolvent_right p l c d h ne =
    Contains-first_places l (without p c ++ without (opposite p) d) (Contains-append_right (without p c) (without (opposite p) d) l (Contains-without (opposite p) l d h ne))

pub resolvent-within : (p l : Literal) (c d : List Literal) → Contains (resolvent p c d) l → (Contains c l × (l ≡ p → ⊥)) ⊎ (Contains d l × (l ≡ opposite p → ⊥))
unfolding resolvent
resolvent-within p l c d h =
    ⊎_elim (λ left. inl (without-within p l c left)) (λ right. inr (without-within (opposite p) l d right))
    (Contains-append_cases (without p c) (without (opposite p) d) l (first_places-within l (without p c ++ without (opposite p) d) h))

-- a resolvent is met wherever both clauses are
pub IsMet-resolvent : (v : ℕ → Bool) (p : Literal) (c d : List Literal) → IsMet v c → IsMet v d → IsMet v (resolvent p c d)
IsMet-resolvent v p c d (l, l-in, l-true) (m, m-in, m-true) =
    ⊎_elim (λ l-is. ⊎_elim
    (λ m-is. absurd (false≢true (sym (ap not (ap (value_of v) (sym l-is) ∙ l-true)) ∙ (sym (value_of-opposite v p) ∙ (ap (value_of v) (sym m-is) ∙ m-true)))))
    (λ m-other. (m, Contains-resolvent_right p m c d m-in m-other, m-true)) (same_or_other m (opposite p)))
    (λ l-other. (l, Contains-resolvent_left p l c d l-in l-other, l-true)) (same_or_other l p)

-- the test for membership
pub stands_in-true : (c : List Literal) (l : Literal) → stands_in c l ≡ true → Contains c l
stands_in-true [] l e = absurd (false≢true e)
stands_in-true (x ∷ xs) l e =
    ⊎_elim (λ here. along_head x l xs (same_literal-true x l here)) (λ later. Contains-later x l xs (stands_in-true xs l later)) (or_cases (same_literal x l) (stands_in xs l) e)

pub stands_in_from : (c : List Literal) (l : Literal) → Contains c l → stands_in c l ≡ true
stands_in_from [] l h = absurd (Contains-nil l h)
stands_in_from (x ∷ xs) l h =
    ⊎_elim (λ here. or_left (same_literal x l) (stands_in xs l) (same_literal_from x l here)) (λ later. or_right (same_literal x l) (stands_in xs l) (stands_in_from xs l later)) (Contains-cases x l xs h)

without-append : (p : Literal) (xs ys : List Literal) → without p (xs ++ ys) ≡ without p xs ++ without p ys
without-append p [] ys = rw (without-nil p) refl
without-append p (x ∷ xs) ys =
    ⊎_elim (λ e. without_here p x (xs ++ ys) e ∙ (without-append p xs ys ∙ ap (λ (zs : List Literal). zs ++ without p ys) (sym (without_here p x xs e))))
    (λ ne. without_other p x (xs ++ ys) ne ∙ (ap (λ (zs : List Literal). x ∷ zs) (without-append p xs ys) ∙ ap (λ (zs : List Literal). zs ++ without p ys) (sym (without_other p x xs ne))))
    (same_or_other x p)

pub in_or_out : (xs : List Literal) (y : Literal) → Contains xs y ⊎ (Contains xs y → ⊥)
in_or_out xs y = ⊎_elim (λ t. inl (stands_in-true xs y t)) (λ f. inr (λ h. both_ways (stands_in xs y) f (stands_in_from xs y h))) (cases_Bool (stands_in xs y))

pub first_places_more : (xs : List Literal) (y : Literal) → (Contains xs y → ⊥) → first_places (xs ++ y ∷ []) ≡ first_places xs ++ y ∷ []
unfolding first_places
first_places_more [] y h = rw (without-nil y) refl
first_places_more (x ∷ xs) y h =
    ap (λ (zs : List Literal). x ∷ without x zs) (first_places_more xs y (λ there. h (Contains-later x y xs there)))
    ∙ ap (λ (zs : List Literal). x ∷ zs) (without-append x (first_places xs) (y ∷ []) ∙ ap (λ (zs : List Literal). without x (first_places xs) ++ zs) (without_other x y [] (λ e. h (along_head x y xs (sym e))) ∙ ap (λ (zs : List Literal). y ∷ zs) (without-nil x)))

-- one more literal at the end
pub first_places_there : (xs : List Literal) (y : Literal) → Contains xs y → first_places (xs ++ y ∷ []) ≡ first_places xs
unfolding first_places
first_places_there [] y h = absurd (Contains-nil y h)
first_places_there (x ∷ xs) y h =
    ⊎_elim (λ there. ap (λ (zs : List Literal). x ∷ without x zs) (first_places_there xs y there))
    (λ not_there. ap (λ (zs : List Literal). x ∷ without x zs) (first_places_more xs y not_there)
    ∙ ap (λ (zs : List Literal). x ∷ zs) (without-append x (first_places xs) (y ∷ []) ∙ (ap (λ (zs : List Literal). without x (first_places xs) ++ zs) (without_here x y [] (⊎_elim (λ here. sym here) (λ later. absurd (not_there later)) (Contains-cases x y xs h)) ∙ without-nil x) ∙ append-nil (without x (first_places xs)))))
    (in_or_out xs y)

-- a step of a loop that adds the literals of a clause but one
pub added : (p l : Literal) (xs c : List Literal) (i : ℕ) → i < length c → get_or c i l ≡ l → (l ≡ p → ⊥) → (xs ++ without p (take i c)) ++ l ∷ [] ≡ xs ++ without p (take (i + 1) c)
added p l xs c i h e ne =
    append_assoc xs (without p (take i c)) (l ∷ []) ∙ ap (λ (zs : List Literal). xs ++ zs)
    (ap (λ (zs : List Literal). without p (take i c) ++ zs) (sym (without_other p l [] ne ∙ ap (λ (zs : List Literal). l ∷ zs) (without-nil p)))
    ∙ (sym (without-append p (take i c) (l ∷ [])) ∙ ap (without p) (sym (take_more c i l h ∙ ap (λ (m : Literal). take i c ++ m ∷ []) e))))

pub skipped : (p l : Literal) (c : List Literal) (i : ℕ) → i < length c → get_or c i l ≡ l → l ≡ p → without p (take (i + 1) c) ≡ without p (take i c)
skipped p l c i h e is =
    ap (without p) (take_more c i l h ∙ ap (λ (m : Literal). take i c ++ m ∷ []) e)
    ∙ (without-append p (take i c) (l ∷ []) ∙ (ap (λ (zs : List Literal). without p (take i c) ++ zs) (without_here p l [] is ∙ without-nil p) ∙ append-nil (without p (take i c))))

-- one literal more, where the list so far says whether it is there
pub first_places_push : (out xs : List Literal) (l : Literal) → out ≡ first_places xs → stands_in out l ≡ false → out ++ l ∷ [] ≡ first_places (xs ++ l ∷ [])
first_places_push out xs l e f =
    ap (λ (zs : List Literal). zs ++ l ∷ []) e ∙ sym (first_places_more xs l (λ there. both_ways (stands_in out l) f (stands_in_from out l (along (first_places xs) out l (sym e) (Contains-first_places l xs there)))))

pub first_places_kept : (out xs : List Literal) (l : Literal) → out ≡ first_places xs → stands_in out l ≡ true → out ≡ first_places (xs ++ l ∷ [])
first_places_kept out xs l e t =
    e ∙ sym (first_places_there xs l (first_places-within l xs (along out (first_places xs) l e (stands_in-true out l t))))

pub first_places-nil : first_places [] ≡ []
unfolding first_places
first_places-nil = refl

pub without_from-nil : (p : Literal) → without p [] ≡ []
unfolding without
without_from-nil p = refl

pub resolvent-is : (p : Literal) (c d : List Literal) → resolvent p c d ≡ first_places (without p c ++ without (opposite p) d)
unfolding resolvent
resolvent-is p c d = refl

-- a literal that isn't there is not missed
pub without-absent : (p : Literal) (xs : List Literal) → (Contains xs p → ⊥) → without p xs ≡ xs
without-absent p [] out = without-nil p
without-absent p (x ∷ xs) out =
    without_other p x xs (λ e. out (along_head x p xs e)) ∙ ap (λ (zs : List Literal). x ∷ zs) (without-absent p xs (λ there. out (Contains-later x p xs there)))

without-without : (p q : Literal) (xs : List Literal) → without p (without q xs) ≡ without q (without p xs)
without-without p q [] = ap (without p) (without-nil q) ∙ (without-nil p ∙ (sym (without-nil q) ∙ ap (without q) (sym (without-nil p))))
without-without p q (x ∷ xs) =
    ⊎_elim
    (λ x-p. ⊎_elim
    (λ x-q. ap (without p) (without_here q x xs x-q) ∙ (without-without p q xs ∙ ap (without q) (sym (without_here p x xs x-p))))
    (λ not-q. ap (without p) (without_other q x xs not-q) ∙ (without_here p x (without q xs) x-p ∙ (without-without p q xs ∙ ap (without q) (sym (without_here p x xs x-p))))) (same_or_other x q))
    (λ not-p. ⊎_elim
    (λ x-q. ap (without p) (without_here q x xs x-q) ∙ (without-without p q xs ∙ (sym (without_here q x (without p xs) x-q) ∙ ap (without q) (sym (without_other p x xs not-p)))))
    (λ not-q. ap (without p) (without_other q x xs not-q) ∙ (without_other p x (without q xs) not-p ∙ (ap (λ (zs : List Literal). x ∷ zs) (without-without p q xs) ∙ (sym (without_other q x (without p xs) not-q) ∙ ap (without q) (sym (without_other p x xs not-p)))))) (same_or_other x q)) (same_or_other x p)

without_twice : (p : Literal) (xs : List Literal) → without p (without p xs) ≡ without p xs
without_twice p xs = without-absent p (without p xs) (λ there. (without-within p p xs there).1 refl)

-- taking a literal out first or last
pub first_places-without : (p : Literal) (xs : List Literal) → first_places (without p xs) ≡ without p (first_places xs)
unfolding first_places
first_places-without p [] = ap first_places (without-nil p) ∙ sym (without-nil p)
first_places-without p (x ∷ xs) =
    ⊎_elim
    (λ same. ap first_places (without_here p x xs same) ∙ (first_places-without p xs ∙ (sym (without_twice p (first_places xs))
    ∙ (ap (λ (q : Literal). without p (without q (first_places xs))) (sym same) ∙ sym (without_here p x (without x (first_places xs)) same)))))
    (λ other. ap first_places (without_other p x xs other) ∙ (ap (λ (zs : List Literal). x ∷ without x zs) (first_places-without p xs)
    ∙ (ap (λ (zs : List Literal). x ∷ zs) (without-without x p (first_places xs)) ∙ sym (without_other p x (without x (first_places xs)) other)))) (same_or_other x p)

pub first_places_twice : (xs : List Literal) → first_places (first_places xs) ≡ first_places xs
unfolding first_places
first_places_twice [] = refl
first_places_twice (x ∷ xs) =
    ap (λ (zs : List Literal). x ∷ without x zs) (first_places-without x (first_places xs))
    ∙ ap (λ (zs : List Literal). x ∷ zs) (without_twice x (first_places (first_places xs)) ∙ ap (without x) (first_places_twice xs))

-- taking each literal once at the front first
first_places_front : (xs ys : List Literal) → first_places (first_places xs ++ ys) ≡ first_places (xs ++ ys)
unfolding first_places
first_places_front [] ys = refl
first_places_front (x ∷ xs) ys =
    let inner : List Literal = without x (first_places xs) ++ ys in
    let same : without x inner ≡ without x (first_places xs ++ ys) =
    without-append x (without x (first_places xs)) ys ∙ (ap (λ (zs : List Literal). zs ++ without x ys) (without_twice x (first_places xs)) ∙ sym (without-append x (first_places xs) ys)) in
    ap (λ (zs : List Literal). x ∷ zs)
    (sym (first_places-without x inner) ∙ (ap first_places same ∙ (first_places-without x (first_places xs ++ ys) ∙ ap (without x) (first_places_front xs ys))))

-- a resolvent has each literal once, and asks no more of the clause
pub first_places-resolvent : (p : Literal) (c d : List Literal) → first_places (resolvent p c d) ≡ resolvent p c d
unfolding resolvent
first_places-resolvent p c d = first_places_twice (without p c ++ without (opposite p) d)

pub resolvent-first_places : (p : Literal) (c d : List Literal) → resolvent p (first_places c) d ≡ resolvent p c d
unfolding resolvent
resolvent-first_places p c d =
    ap (λ (zs : List Literal). first_places (zs ++ without (opposite p) d)) (sym (first_places-without p c)) ∙ first_places_front (without p c) (without (opposite p) d)
