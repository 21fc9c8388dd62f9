-- Lists that are read by `get_elem?`, and sums over them.
use Rattle.std.proofs.Common.{◌≡◌, ◌≢◌, ℕ, zero, suc, ◌+◌, ◌<◌, ◌≤◌, ◌⊎◌, List, [], ◌∷◌, ◌++◌, Option, Some, None, length, drop, set, sym, refl, ap, ◌∙◌, subst, inl, inr, arith, append_assoc, append-nil}
use mathlib.Core.Option.{some, some-injective, some-ne-none}
use lib.ListN.{get_elem?}
use Rattle.std.specs.List.{All, sum_by}
use Rattle.std.proofs.lemmas.List.Sums.{sum_by-cons}
use Rattle.atomic_table.proofs.Lists.{at_set}
use Rattle.turn_lock.specs.Entries.{Begins}

module _ {A : Type 0} where
  -- a place that has an element is within the list
  pub within : (l : List A) (i : ℕ) (a : A) → get_elem? l i ≡ some a → i < length l
  within [] i a e = absurd (some-ne-none a (sym e))
  within (x ∷ xs) zero a e = omega arith
  within (x ∷ xs) (suc i) a e = let h = within xs i a e in omega (arith, h)

  -- an element of a list with one more is an old one, or that one
  pub at_end : (l : List A) (a b : A) (j : ℕ) → get_elem? (l ++ a ∷ []) j ≡ some b → (get_elem? l j ≡ some b) ⊎ ((j ≡ length l) × (a ≡ b))
  at_end [] a b zero e = inr (refl, some-injective a b e)
  at_end [] a b (suc j) e = absurd (some-ne-none b (sym e))
  at_end (x ∷ xs) a b zero e = inl e
  at_end (x ∷ xs) a b (suc j) e = elim (at_end xs a b j e) [
    | inl h ↦ inl h
    | inr h ↦ inr (ap suc h.0, h.1)
  ]

  -- the sum after a change of one element
  pub sum_set : (f : A → ℕ) (l : List A) (i : ℕ) (a b : A) → get_elem? l i ≡ some a → sum_by f (set l i b) + f a ≡ sum_by f l + f b
  sum_set f [] i a b e = absurd (some-ne-none a (sym e))
  sum_set f (x ∷ xs) zero a b e = let same : f x ≡ f a = ap f (some-injective x a e) in omega (arith, sum_by-cons f b xs, sum_by-cons f x xs)
  sum_set f (x ∷ xs) (suc i) a b e = let h = sum_set f xs i a b e in omega (arith, sum_by-cons f x (set xs i b), sum_by-cons f x xs)

  -- a sum of lesser numbers is less
  pub sum_le : (f g : A → ℕ) (l : List A) → ((i : ℕ) (a : A) → get_elem? l i ≡ some a → f a ≤ g a) → sum_by f l ≤ sum_by g l
  sum_le f g [] h = omega arith
  sum_le f g (x ∷ xs) h = let a = sum_le f g xs (λ i. h (suc i)) in let b : f x ≤ g x = h 0 x refl in omega (arith, sum_by-cons f x xs, sum_by-cons g x xs)

  -- one element's share of the sum
  pub sum_one : (f : A → ℕ) (l : List A) (i : ℕ) (a : A) → get_elem? l i ≡ some a → f a ≤ sum_by f l
  sum_one f [] i a e = absurd (some-ne-none a (sym e))
  sum_one f (x ∷ xs) zero a e = let same : f x ≡ f a = ap f (some-injective x a e) in omega (arith, sum_by-cons f x xs)
  sum_one f (x ∷ xs) (suc i) a e = let h = sum_one f xs i a e in omega (arith, sum_by-cons f x xs)

  -- two elements' share of the sum
  pub sum_two : (f : A → ℕ) (l : List A) (i j : ℕ) (a b : A) → get_elem? l i ≡ some a → get_elem? l j ≡ some b → j ≢ i → f a + f b ≤ sum_by f l
  sum_two f [] i j a b e d n = absurd (some-ne-none a (sym e))
  sum_two f (x ∷ xs) zero zero a b e d n = absurd (n refl)
  sum_two f (x ∷ xs) zero (suc j) a b e d n = let same : f x ≡ f a = ap f (some-injective x a e) in let h = sum_one f xs j b d in omega (arith, sum_by-cons f x xs)
  sum_two f (x ∷ xs) (suc i) zero a b e d n = let same : f x ≡ f b = ap f (some-injective x b d) in let h = sum_one f xs i a e in omega (arith, sum_by-cons f x xs)
  sum_two f (x ∷ xs) (suc i) (suc j) a b e d n = let h = sum_two f xs i j a b e d (λ s. n (ap suc s)) in omega (arith, sum_by-cons f x xs)

  -- what holds of the element put in and of all others holds of each
  pub each_set : (Q : ℕ → A → Type 0) (l : List A) (id : ℕ) (w : A) → Q id w → ((j : ℕ) (u : A) → j ≢ id → get_elem? l j ≡ some u → Q j u)
      → (j : ℕ) (u : A) → get_elem? (set l id w) j ≡ some u → Q j u
  each_set Q l id w mine others j u e = elim (at_set l id j w u e) [
    | inl t ↦ subst (λ (z : ℕ × A). Q z.0 z.1) (λ k. (sym t.0 k, t.1 k)) mine
    | inr t ↦ others j u t.0 t.1
  ]

  -- what begins a list begins a longer one
  pub begins_more : (whole part more : List A) → Begins whole part → Begins (whole ++ more) part
  begins_more whole part more b = (b.0 ++ more, ap (λ (l : List A). l ++ more) b.1 ∙ append_assoc part b.0 more)

  -- what stands behind a list
  pub drop_whole : (xs ys : List A) → drop (length xs) (xs ++ ys) ≡ ys
  drop_whole [] ys = refl
  drop_whole (x ∷ xs) ys = drop_whole xs ys

  -- a list begins with itself
  pub begins_itself : (l : List A) → Begins l l
  begins_itself l = ([], sym (append-nil l))

  -- the element that was put at the end
  pub at_last : (l : List A) (a : A) → get_elem? (l ++ a ∷ []) (length l) ≡ some a
  at_last [] a = refl
  at_last (x ∷ xs) a = at_last xs a

  -- nothing is both
  pub some_none : (x : A) (o : Option A) → o ≡ Some x → o ≡ None → ⊥
  some_none x None e n = search (Rattle.std.proofs.Common.rules, sym e)
  some_none x (Some y) e n = search (Rattle.std.proofs.Common.rules, n)

  -- what two equal options have is equal
  pub some_same : (x y : A) → Some x ≡ Some y → x ≡ y
  some_same x y e = ap (λ (o : Option A). or_else x o) e
    where
      or_else : A → Option A → A
      or_else d None = d
      or_else d (Some z) = z

  -- the value of the slot that was taken last
  pub item_here : (x y : A) (a b : List (ℕ × Option A)) → ◌≡◌ {A = List (ℕ × Option A)} ((0, Some x) ∷ a) ((0, Some y) ∷ b) → x ≡ y
  item_here x y a b e = some_same x y (ap item e)
    where
      item : List (ℕ × Option A) → Option A
      item [] = None
      item (p ∷ ps) = p.1

  -- of each element two facts hold, and so what follows from both
  pub All-both : (P Q R : A → Type 0) → ((x : A) → P x → Q x → R x) → (xs : List A) → All P xs → All Q xs → All R xs
  All-both P Q R both xs p q k d l = both _ (p k d l) (q k d l)
