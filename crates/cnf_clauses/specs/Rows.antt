-- A list of lists that lie end to end.
use Rattle.std.specs.Prelude.{◌≡◌, ℕ, ◌<◌, ◌≤◌, ◌^◌, List, ◌∷◌, length, map, slice_range, slice_index_or}
use Rattle.std.specs.List.{range_with_len}

-- where a row begins: where the one before it ends
abbrev pub row_start : List ℕ → ℕ → ℕ
row_start ends k = slice_index_or (0 ∷ ends) k 0

-- the items of a row
unfoldable pub row_at : {T : Type 0} → List T → List ℕ → ℕ → List T
row_at items ends k = slice_range items (row_start ends k) (slice_index_or ends k 0)

-- all rows
unfoldable pub rows_of : {T : Type 0} → List T → List ℕ → List (List T)
rows_of items ends = map (row_at items ends) (range_with_len 0 (length ends))

-- the ends rise, the last one is the end of the items, and these are few enough for narrow ends
pub record AreRows {T : Type 0} (items : List T) (ends : List ℕ) : Type 0 where
  pub rising : (k : ℕ) → k < length ends → row_start ends k ≤ slice_index_or ends k 0
  pub inside : (k : ℕ) → k < length ends → slice_index_or ends k 0 ≤ length items
  pub last : row_start ends (length ends) ≡ length items
  pub few : length items < 2 ^ 32
