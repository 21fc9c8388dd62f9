-- Rows: numbers, each with its list of entries.
use Rattle.std.proofs.Common.{◌≡◌, ◌≢◌, ℕ, zero, suc, ◌+◌, ◌<◌, ◌≤◌, ◌⊎◌, List, [], ◌∷◌, ◌++◌, length, take, drop, min, cond, sym, refl, ap, ◌∙◌, subst, inl, inr, arith, ne_eqb}
use mathlib.Core.Logic.{dite}
use native.Mathlib.Decide.{dec_le, ℕ_discrete}
use Rattle.std.specs.List.{All, Contains}
use Rattle.std.proofs.lemmas.List.Elements.{All-nil, All-cons, All-head, All-tail, All-weaker}
use Rattle.std.proofs.Math.Nat.{min-eq_left, min-eq_right}
use Rattle.turn_lock.specs.Entries.{History, Rows, entries_of, empty_rows, numbers_of, ConsecutiveFrom, least_with, least_of, HasNumber, grown}

-- what holds of two numbers holds of the lesser
either_min : (P : ℕ → Type 0) (a b : ℕ) → P a → P b → P (min a b)
either_min P a b pa pb = dite (dec_le a b) (λ le. subst P (sym (min-eq_left le)) pa) (λ gt. subst P (sym (min-eq_right (let g : b ≤ a = omega arith in g))) pb)

same_first : (x y : ℕ) (xs ys : List ℕ) → x ∷ xs ≡ y ∷ ys → x ≡ y
same_first x y xs ys e = cc

same_rest : (x y : ℕ) (xs ys : List ℕ) → x ∷ xs ≡ y ∷ ys → xs ≡ ys
same_rest x y xs ys e = cc

module _ {E : Type 0} where
  -- what holds of k and of each number holds of the least of them
  least_within : (P : ℕ → Type 0) (k : ℕ) (rows : Rows E) → P k → All (λ (row : ℕ × History E). P row.0) rows → P (least_with k rows)
  least_within P k [] p all = p
  least_within P k (row ∷ rows) p all = either_min P k (least_with row.0 rows) p
      (least_within P row.0 rows (All-head (λ (r : ℕ × History E). P r.0) row rows all) (All-tail (λ (r : ℕ × History E). P r.0) row rows all))

  -- what holds of each number holds of the least
  pub least_in : (P : ℕ → Type 0) (rows : Rows E) → 0 < length rows → All (λ (row : ℕ × History E). P row.0) rows → P (least_of rows)
  least_in P [] pos all = absurd (omega arith)
  least_in P (row ∷ rows) pos all = least_within P row.0 rows (All-head (λ (r : ℕ × History E). P r.0) row rows all) (All-tail (λ (r : ℕ × History E). P r.0) row rows all)

  -- entries of one number are not another's
  pub others_none : (k n : ℕ) (added : History E) → k ≢ n → All (λ (e : ℕ × E). e.0 ≡ n) added → entries_of added k ≡ []
  others_none k n [] other all = refl
  others_none k n (x ∷ xs) other all = let one : x.0 ≡ n = All-head (λ (e : ℕ × E). e.0 ≡ n) x xs all in
      ap (λ b. cond b (x ∷ entries_of xs k) (entries_of xs k)) (ne_eqb x.0 k (λ e. other (sym e ∙ one))) ∙ others_none k n xs other (All-tail (λ (e : ℕ × E). e.0 ≡ n) x xs all)

  -- what holds of each number with an empty list holds of all rows
  pub All-empty_rows : (P : ℕ × History E → Type 0) (k n : ℕ) → ((j : ℕ) → j < k + n → P (j, [])) → All P (empty_rows k n)
  All-empty_rows P k zero h = All-nil P
  All-empty_rows P k (suc n) h = All-cons P (k, []) (empty_rows (suc k) n) (h k (omega arith)) (All-empty_rows P (suc k) n (λ j l. h j (omega arith)))

-- there are n rows
pub length-empty_rows : (E : Type 0) (k n : ℕ) → length (empty_rows {E = E} k n) ≡ n
length-empty_rows E k zero = refl
length-empty_rows E k (suc n) = let h = length-empty_rows E (suc k) n in omega arith

-- their numbers are consecutive
pub ConsecutiveFrom-empty_rows : (E : Type 0) (k n : ℕ) → ConsecutiveFrom {E = E} k (empty_rows k n)
ConsecutiveFrom-empty_rows E k zero = tt
ConsecutiveFrom-empty_rows E k (suc n) = (refl, ConsecutiveFrom-empty_rows E (suc k) n)

module _ {E : Type 0} where
  -- the first n of consecutive numbers are below k + n
  pub lower_below : (k n : ℕ) (rows : Rows E) → ConsecutiveFrom k rows → All (λ (row : ℕ × History E). row.0 < k + n) (take n rows)
  lower_below k zero rows are = All-nil (λ (row : ℕ × History E). row.0 < k + zero)
  lower_below k (suc n) [] are = All-nil (λ (row : ℕ × History E). row.0 < k + suc n)
  lower_below k (suc n) (row ∷ rows) are = All-cons (λ (r : ℕ × History E). r.0 < k + suc n) row (take n rows) (let e = are.0 in omega arith)
      (subst (λ (m : ℕ). All (λ (r : ℕ × History E). r.0 < m) (take n rows)) (let e : suc k + n ≡ k + suc n = omega arith in e) (lower_below (suc k) n rows are.1))

  -- the numbers after the first n are consecutive from k + n on
  pub ConsecutiveFrom-drop : (k n : ℕ) (rows : Rows E) → n ≤ length rows → ConsecutiveFrom k rows → ConsecutiveFrom (k + n) (drop n rows)
  ConsecutiveFrom-drop k zero rows le are = subst (λ (m : ℕ). ConsecutiveFrom m rows) (let e : k ≡ k + zero = omega arith in e) are
  ConsecutiveFrom-drop k (suc n) [] le are = absurd (omega arith)
  ConsecutiveFrom-drop k (suc n) (row ∷ rows) le are = subst (λ (m : ℕ). ConsecutiveFrom m (drop n rows)) (let e : suc k + n ≡ k + suc n = omega arith in e) (ConsecutiveFrom-drop (suc k) n rows (omega arith) are.1)

  -- the first n numbers are consecutive
  pub ConsecutiveFrom-take : (k n : ℕ) (rows : Rows E) → ConsecutiveFrom k rows → ConsecutiveFrom k (take n rows)
  ConsecutiveFrom-take k zero rows are = tt
  ConsecutiveFrom-take k (suc n) [] are = tt
  ConsecutiveFrom-take k (suc n) (row ∷ rows) are = (are.0, ConsecutiveFrom-take (suc k) n rows are.1)

  -- consecutive numbers are at least the first
  pub all_from : (k : ℕ) (rows : Rows E) → ConsecutiveFrom k rows → All (λ (row : ℕ × History E). k ≤ row.0) rows
  all_from k [] are = All-nil (λ (row : ℕ × History E). k ≤ row.0)
  all_from k (row ∷ rows) are = All-cons (λ (r : ℕ × History E). k ≤ r.0) row rows (let e = are.0 in omega arith)
      (All-weaker (λ (r : ℕ × History E). suc k ≤ r.0) (λ (r : ℕ × History E). k ≤ r.0) (λ r p. omega arith) rows (all_from (suc k) rows are.1))

  -- what is at most each number is at most the least
  all_least : (k j : ℕ) (rows : Rows E) → k ≤ j → All (λ (row : ℕ × History E). k ≤ row.0) rows → k ≤ least_with j rows
  all_least k j rows le all = go j rows le all
    where
      go : (i : ℕ) (rs : Rows E) → k ≤ i → All (λ (row : ℕ × History E). k ≤ row.0) rs → k ≤ least_with i rs
      go i [] l a = l
      go i (row ∷ rs) l a = either_min (λ m. k ≤ m) i (least_with row.0 rs) l (go row.0 rs (All-head (λ (r : ℕ × History E). k ≤ r.0) row rs a) (All-tail (λ (r : ℕ × History E). k ≤ r.0) row rs a))

  -- the least of consecutive numbers is the first
  pub least_of-consecutive : (k : ℕ) (rows : Rows E) → 0 < length rows → ConsecutiveFrom k rows → least_of rows ≡ k
  least_of-consecutive k [] pos are = absurd (omega arith)
  least_of-consecutive k (row ∷ []) pos are = are.0
  least_of-consecutive k (row ∷ other ∷ rows) pos are = let e = are.0 in
      let le : k ≤ least_with other.0 rows = all_least k other.0 rows (let f = are.1.0 in omega arith) (All-weaker (λ (r : ℕ × History E). suc (suc k) ≤ r.0) (λ (r : ℕ × History E). k ≤ r.0) (λ r p. omega arith) rows (all_from (suc (suc k)) rows are.1.1)) in
      min-eq_left (let g : row.0 ≤ least_with other.0 rows = omega arith in g) ∙ e

  -- a turn leaves the numbers as they are
  least_with-grown : (added : History E) (k : ℕ) (rows : Rows E) → least_with k (grown added rows) ≡ least_with k rows
  least_with-grown added k [] = refl
  least_with-grown added k (row ∷ rows) = ap (min k) (least_with-grown added row.0 rows)

  pub least_of-grown : (added : History E) (rows : Rows E) → least_of (grown added rows) ≡ least_of rows
  least_of-grown added [] = refl
  least_of-grown added (row ∷ rows) = least_with-grown added row.0 rows

  pub length-grown : (added : History E) (rows : Rows E) → length (grown added rows) ≡ length rows
  length-grown added [] = refl
  length-grown added (row ∷ rows) = let h = length-grown added rows in omega arith

  pub numbers_of-grown : (added : History E) (rows : Rows E) → numbers_of (grown added rows) ≡ numbers_of rows
  numbers_of-grown added [] = refl
  numbers_of-grown added (row ∷ rows) = ap (λ (ks : List ℕ). row.0 ∷ ks) (numbers_of-grown added rows)

  -- rows of the same numbers are as many, and consecutive alike
  pub length-same : (xs ys : Rows E) → numbers_of xs ≡ numbers_of ys → length xs ≡ length ys
  length-same [] [] e = refl
  length-same [] (y ∷ ys) e = cc
  length-same (x ∷ xs) [] e = cc
  length-same (x ∷ xs) (y ∷ ys) e = ap suc (length-same xs ys (same_rest x.0 y.0 (numbers_of xs) (numbers_of ys) e))

  pub ConsecutiveFrom-same : (k : ℕ) (xs ys : Rows E) → numbers_of xs ≡ numbers_of ys → ConsecutiveFrom k ys → ConsecutiveFrom k xs
  ConsecutiveFrom-same k [] ys e from = tt
  ConsecutiveFrom-same k (x ∷ xs) [] e from = cc
  ConsecutiveFrom-same k (x ∷ xs) (y ∷ ys) e from = (same_first x.0 y.0 (numbers_of xs) (numbers_of ys) e ∙ from.0, ConsecutiveFrom-same (suc k) xs ys (same_rest x.0 y.0 (numbers_of xs) (numbers_of ys) e) from.1)

  -- the least number of two lists of rows is the lesser of their least
  least_with-append : (k : ℕ) (xs : Rows E) (y : ℕ × History E) (ys : Rows E) → least_with k (xs ++ y ∷ ys) ≡ min (least_with k xs) (least_with y.0 ys)
  least_with-append k [] y ys = refl
  least_with-append k (x ∷ xs) y ys = let h = least_with-append x.0 xs y ys in omega arith

  pub least_of-append : (xs ys : Rows E) → 0 < length xs → 0 < length ys → least_of (xs ++ ys) ≡ min (least_of xs) (least_of ys)
  least_of-append [] ys a b = absurd (omega arith)
  least_of-append (x ∷ xs) [] a b = absurd (omega arith)
  least_of-append (x ∷ xs) (y ∷ ys) a b = least_with-append x.0 xs y ys

  -- the first of the rows from place k on, where the numbers are consecutive
  pub at_place : (first k : ℕ) (rows : Rows E) (P : ℕ → Type 0) → ConsecutiveFrom first rows → k < length rows → All (λ (row : ℕ × History E). P row.0) rows → P (first + k)
  at_place first k [] P are lt all = absurd (omega arith)
  at_place first zero (row ∷ rows) P are lt all = subst P (are.0 ∙ (let e : first ≡ first + zero = omega arith in e)) (All-head (λ (r : ℕ × History E). P r.0) row rows all)
  at_place first (suc k) (row ∷ rows) P are lt all = subst P (let e : suc first + k ≡ first + suc k = omega arith in e) (at_place (suc first) k rows P are.1 (omega arith) (All-tail (λ (r : ℕ × History E). P r.0) row rows all))

  -- a number of a part is one of the whole
  pub HasNumber-append_left : (k : ℕ) (xs ys : Rows E) → HasNumber k xs → HasNumber k (xs ++ ys)
  HasNumber-append_left k [] ys has = absurd has
  HasNumber-append_left k (x ∷ xs) ys (inl here) = inl here
  HasNumber-append_left k (x ∷ xs) ys (inr there) = inr (HasNumber-append_left k xs ys there)

  pub HasNumber-append_right : (k : ℕ) (xs ys : Rows E) → HasNumber k ys → HasNumber k (xs ++ ys)
  HasNumber-append_right k [] ys has = has
  HasNumber-append_right k (x ∷ xs) ys has = inr (HasNumber-append_right k xs ys has)

  -- a number of the whole is one of a part
  pub HasNumber-append_cases : (k : ℕ) (xs ys : Rows E) → HasNumber k (xs ++ ys) → HasNumber k xs ⊎ HasNumber k ys
  HasNumber-append_cases k [] ys has = inr has
  HasNumber-append_cases k (x ∷ xs) ys (inl here) = inl (inl here)
  HasNumber-append_cases k (x ∷ xs) ys (inr there) = elim (HasNumber-append_cases k xs ys there) [
    | inl left ↦ inl (inr left)
    | inr right ↦ inr right
  ]

  -- a turn keeps the numbers
  pub HasNumber-grown : (k : ℕ) (added : History E) (rows : Rows E) → HasNumber k rows → HasNumber k (grown added rows)
  HasNumber-grown k added [] has = has
  HasNumber-grown k added (row ∷ rows) (inl here) = inl here
  HasNumber-grown k added (row ∷ rows) (inr there) = inr (HasNumber-grown k added rows there)

  -- rows with a number are not none
  pub HasNumber-positive : (k : ℕ) (rows : Rows E) → HasNumber k rows → 0 < length rows
  HasNumber-positive k [] has = absurd has
  HasNumber-positive k (row ∷ rows) has = omega arith

  -- what holds of each row's number holds of k
  pub HasNumber-all : (P : ℕ → Type 0) (k : ℕ) (rows : Rows E) → HasNumber k rows → All (λ (row : ℕ × History E). P row.0) rows → P k
  HasNumber-all P k [] has all = absurd has
  HasNumber-all P k (row ∷ rows) (inl here) all = subst P here (All-head (λ (r : ℕ × History E). P r.0) row rows all)
  HasNumber-all P k (row ∷ rows) (inr there) all = HasNumber-all P k rows there (All-tail (λ (r : ℕ × History E). P r.0) row rows all)

  -- the row of the number k has the entries of k
  pub Contains-row : (k : ℕ) (history : History E) (rows : Rows E) → HasNumber k rows → All (λ (row : ℕ × History E). row.1 ≡ entries_of history row.0) rows → Contains rows (k, entries_of history k)
  Contains-row k history [] has all = absurd has
  Contains-row k history (row ∷ rows) (inl here) all = (0, omega arith, let is = All-head (λ (r : ℕ × History E). r.1 ≡ entries_of history r.0) row rows all ∙ ap (entries_of history) here in λ i. (here i, is i))
  Contains-row k history (row ∷ rows) (inr there) all = let found = Contains-row k history rows there (All-tail (λ (r : ℕ × History E). r.1 ≡ entries_of history r.0) row rows all) in (suc found.0, (let lt = found.1 in omega arith), found.2)

-- each number from first on, n of them, has a row
pub HasNumber-empty_rows : (E : Type 0) (k first n : ℕ) → first ≤ k → k < first + n → HasNumber {E = E} k (empty_rows first n)
HasNumber-empty_rows E k first zero from below = absurd (omega arith)
HasNumber-empty_rows E k first (suc n) from below = go (ℕ_discrete first k) (λ lt. HasNumber-empty_rows E k (suc first) n lt (omega arith))
  where
    go : Dec (first ≡ k) → (first < k → HasNumber {E = E} k (empty_rows (suc first) n)) → HasNumber {E = E} k (empty_rows first (suc n))
    go (yes here) rest = inl here
    go (no other) rest = inr (rest (omega arith))

module _ {E : Type 0} where
  -- all but the last of n + 1 empty rows
  pub take-empty_rows : (k n : ℕ) → take n (empty_rows {E = E} k (suc n)) ≡ empty_rows k n
  take-empty_rows k zero = refl
  take-empty_rows k (suc n) = ap (λ (l : Rows E). let row : ℕ × History E = (k, []) in row ∷ l) (take-empty_rows (suc k) n)

  -- the last of n + 1 empty rows
  pub drop-empty_rows : (k n : ℕ) → drop n (empty_rows {E = E} k (suc n)) ≡ empty_rows (k + n) 1
  drop-empty_rows k zero = ap (λ (j : ℕ). empty_rows {E = E} j 1) (let e : k ≡ k + zero = omega arith in e)
  drop-empty_rows k (suc n) = drop-empty_rows (suc k) n ∙ ap (λ (j : ℕ). empty_rows {E = E} j 1) (let e : suc k + n ≡ k + suc n = omega arith in e)
