-- Histories of numbered entries, and rows: numbers, each with its list of entries.
use Rattle.std.specs.Prelude.{◌≡◌, ◌⊎◌, ◌++◌, ℕ, zero, suc, List, [], ◌∷◌, map, filter, ◌==◌, min}

-- whole begins with part
abbrev pub Begins : {A : Type 0} → List A → List A → Type 0
Begins {A} whole part = (more : List A) × (whole ≡ part ++ more)

-- entries, each with the number of the seat that added it, in the order in which they were added
abbrev pub History : Type 0 → Type 0
History E = List (ℕ × E)

-- numbers of seats, each with its list of entries
abbrev pub Rows : Type 0 → Type 0
Rows E = List (ℕ × History E)

module _ {E : Type 0} where
  -- the entries of the number k, in order
  abbrev pub entries_of : History E → ℕ → History E
  entries_of history k = filter (λ entry. entry.0 == k) history

  -- n numbers from k on, each with an empty list
  abbrev pub empty_rows : ℕ → ℕ → Rows E
  empty_rows k zero = []
  empty_rows k (suc n) = (k, []) ∷ empty_rows (suc k) n

  -- the numbers, in their order
  abbrev pub numbers_of : Rows E → List ℕ
  numbers_of rows = map (λ row. row.0) rows

  -- the numbers are consecutive from k on
  abbrev pub ConsecutiveFrom : ℕ → Rows E → Type 0
  ConsecutiveFrom k [] = Unit {0}
  ConsecutiveFrom k (row ∷ rows) = (row.0 ≡ k) × ConsecutiveFrom (suc k) rows

  -- the least of k and the numbers of the rows
  abbrev pub least_with : ℕ → Rows E → ℕ
  least_with k [] = k
  least_with k (row ∷ rows) = min k (least_with row.0 rows)

  -- the least number of the rows
  abbrev pub least_of : Rows E → ℕ
  least_of [] = 0
  least_of (row ∷ rows) = least_with row.0 rows

  -- one of the rows has the number k
  abbrev pub HasNumber : ℕ → Rows E → Type 0
  HasNumber k [] = ⊥
  HasNumber k (row ∷ rows) = (row.0 ≡ k) ⊎ HasNumber k rows

  -- each list is longer by those of the added entries that have its number
  abbrev pub grown : History E → Rows E → Rows E
  grown added rows = map (λ row. (row.0, row.1 ++ entries_of added row.0)) rows
