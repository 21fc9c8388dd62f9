-- Lists of addresses under a form: those of its first child, and those of its later children.
use Rattle.std.proofs.Common.{◌≡◌, ℕ, zero, suc, List, [], ◌∷◌, ◌++◌, map, refl, sym, ap, ◌∙◌, subst, inl, inr}
use Rattle.std.specs.Prelude.{◌⊎◌}
use Rattle.spec_meaning.specs.Visits.{Address}
use Rattle.spec_meaning.specs.VisitLaws.{IsAmong, AreDifferent}

-- an address one child place further on
abbrev pub later : Address → Address
later [] = []
later (k ∷ a) = suc k ∷ a

-- the addresses of the first child, and of what comes behind it
abbrev pub first : List Address → List Address
first xs = map (λ a. 0 ∷ a) xs

abbrev pub deeper : List Address → List Address
deeper xs = map later xs

abbrev tail_of : Address → Address
tail_of [] = []
tail_of (k ∷ a) = a

abbrev pred_of : Address → Address
pred_of [] = []
pred_of (zero ∷ a) = zero ∷ a
pred_of (suc k ∷ a) = k ∷ a

before_later : (a : Address) → pred_of (later a) ≡ a
before_later [] = refl
before_later (k ∷ a) = refl

later_same : (a b : Address) → later a ≡ later b → a ≡ b
later_same a b e = sym (before_later a) ∙ ap pred_of e ∙ before_later b

later_first : (a b : Address) → later b ≡ zero ∷ a → ⊥
later_first a [] e = cc
later_first a (k ∷ b) e = cc

later_none : (b : Address) → later b ≡ [] → b ≡ []
later_none [] e = refl
later_none (k ∷ b) e = absurd cc

-- ---- among

pub among_left : (xs bs : List Address) (a : Address) → IsAmong xs a → IsAmong (xs ++ bs) a
among_left (x ∷ xs) bs a (inl e) = inl e
among_left (x ∷ xs) bs a (inr m) = inr (among_left xs bs a m)
among_left [] bs a m = absurd m

pub among_right : (xs bs : List Address) (a : Address) → IsAmong bs a → IsAmong (xs ++ bs) a
among_right [] bs a m = m
among_right (x ∷ xs) bs a m = inr (among_right xs bs a m)

pub among_cases : (xs bs : List Address) (a : Address) → IsAmong (xs ++ bs) a → IsAmong xs a ⊎ IsAmong bs a
among_cases [] bs a m = inr m
among_cases (x ∷ xs) bs a (inl e) = inl (inl e)
among_cases (x ∷ xs) bs a (inr m) = elim (among_cases xs bs a m) [ inl l ↦ inl (inr l) | inr r ↦ inr r ]

pub in_first : (xs : List Address) (a : Address) → IsAmong xs a → IsAmong (first xs) (zero ∷ a)
in_first [] a m = m
in_first (x ∷ xs) a (inl e) = inl (ap (λ b. zero ∷ b) e)
in_first (x ∷ xs) a (inr m) = inr (in_first xs a m)

pub of_first : (xs : List Address) (a : Address) → IsAmong (first xs) (zero ∷ a) → IsAmong xs a
of_first [] a m = m
of_first (x ∷ xs) a (inl e) = inl (ap tail_of e)
of_first (x ∷ xs) a (inr m) = inr (of_first xs a m)

pub first_not_later : (xs : List Address) (k : ℕ) (a : Address) → IsAmong (first xs) (suc k ∷ a) → ⊥
first_not_later [] k a m = m
first_not_later (x ∷ xs) k a (inl e) = cc
first_not_later (x ∷ xs) k a (inr m) = first_not_later xs k a m

pub first_not_none : (xs : List Address) → IsAmong (first xs) [] → ⊥
first_not_none [] m = m
first_not_none (x ∷ xs) (inl e) = cc
first_not_none (x ∷ xs) (inr m) = first_not_none xs m

pub in_deeper : (xs : List Address) (k : ℕ) (a : Address) → IsAmong xs (k ∷ a) → IsAmong (deeper xs) (suc k ∷ a)
in_deeper [] k a m = m
in_deeper (x ∷ xs) k a (inl e) = inl (ap later e)
in_deeper (x ∷ xs) k a (inr m) = inr (in_deeper xs k a m)

pub of_deeper : (xs : List Address) (k : ℕ) (a : Address) → IsAmong (deeper xs) (suc k ∷ a) → IsAmong xs (k ∷ a)
of_deeper [] k a m = m
of_deeper (x ∷ xs) k a (inl e) = inl (later_same x (k ∷ a) e)
of_deeper (x ∷ xs) k a (inr m) = inr (of_deeper xs k a m)

pub deeper_not_first : (xs : List Address) (a : Address) → IsAmong (deeper xs) (zero ∷ a) → ⊥
deeper_not_first [] a m = m
deeper_not_first (x ∷ xs) a (inl e) = later_first a x e
deeper_not_first (x ∷ xs) a (inr m) = deeper_not_first xs a m

pub deeper_none : (xs : List Address) → IsAmong (deeper xs) [] → IsAmong xs []
deeper_none [] m = m
deeper_none (x ∷ xs) (inl e) = inl (later_none x e)
deeper_none (x ∷ xs) (inr m) = inr (deeper_none xs m)

-- ---- different

of_map_first : (xs : List Address) (a : Address) → IsAmong (first xs) (0 ∷ a) → IsAmong xs a
of_map_first xs a m = of_first xs a m

pub first_different : (xs : List Address) → AreDifferent xs → AreDifferent (first xs)
first_different [] d = tt
first_different (x ∷ xs) d = (λ m. d.0 (of_first xs x m), first_different xs d.1)

of_later : (xs : List Address) (a : Address) → IsAmong (deeper xs) (later a) → IsAmong xs a
of_later [] a m = m
of_later (x ∷ xs) a (inl e) = inl (later_same x a e)
of_later (x ∷ xs) a (inr m) = inr (of_later xs a m)

pub deeper_different : (xs : List Address) → AreDifferent xs → AreDifferent (deeper xs)
deeper_different [] d = tt
deeper_different (x ∷ xs) d = (λ m. d.0 (of_later xs x m), deeper_different xs d.1)

pub joined_different : (xs bs : List Address) → AreDifferent xs → AreDifferent bs → ((a : Address) → IsAmong xs a → IsAmong bs a → ⊥) → AreDifferent (xs ++ bs)
joined_different [] bs d e apart = e
joined_different (x ∷ xs) bs d e apart = (
  λ m. elim (among_cases xs bs x m) [ inl l ↦ d.0 l | inr r ↦ apart x (inl refl) r ],
  joined_different xs bs d.1 e (λ a l r. apart a (inr l) r),
)

pub last_apart : (xs : List Address) (a : Address) → AreDifferent (xs ++ a ∷ []) → IsAmong xs a → ⊥
last_apart [] a d m = m
last_apart (x ∷ xs) a d (inl e) = d.0 (subst (λ (y : Address). IsAmong (xs ++ a ∷ []) y) (sym e) (among_right xs (a ∷ []) a (inl refl)))
last_apart (x ∷ xs) a d (inr m) = last_apart xs a d.1 m

pub first_apart_deeper : (xs bs : List Address) (a : Address) → IsAmong (first xs) a → IsAmong (deeper bs) a → ⊥
first_apart_deeper xs bs [] l r = first_not_none xs l
first_apart_deeper xs bs (zero ∷ a) l r = deeper_not_first bs a r
first_apart_deeper xs bs (suc k ∷ a) l r = first_not_later xs k a l
