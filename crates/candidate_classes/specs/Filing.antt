-- How a split finds the new leader of each place in one pass: a new leader is filed in a slot by its key, and each slot
-- is a chain of new leaders from the last back. A place's key is a number of each of two lists.
use Rattle.std.specs.Prelude.{◌≡◌, ℕ, ◌+◌, ◌*◌, ◌/◌, ◌%◌, ◌^◌, ◌<◌, ◌≤◌, List, length, map, slice_index, bit_xor}

-- the numbers that places have in a list
abbrev pub of_places : List ℕ → List ℕ → List ℕ
of_places numbers places = map (slice_index numbers) places

-- two places have the same key
abbrev pub SameKey : List ℕ → List ℕ → ℕ → ℕ → Type 0
SameKey leaders values a b = (slice_index leaders a ≡ slice_index leaders b) × (slice_index values a ≡ slice_index values b)

-- the least place of a key
pub record IsLeast (leaders values : List ℕ) (l k : ℕ) : Type 0 where
  pub same : SameKey leaders values l k
  pub least : (m : ℕ) → m < length leaders → SameKey leaders values m k → l ≤ m

-- the upper half of a product with an odd number near 2 ^ 64 over the golden ratio, so that numbers which differ in a few
-- bits, low or high, rarely have the same remainder
unfoldable pub spread : ℕ → ℕ
spread n = n * 11400714819323198485 % 2 ^ 64 / 2 ^ 32

-- the slot of a place
abbrev pub slot : List ℕ → List ℕ → ℕ → ℕ
slot leaders values k = spread (bit_xor (slice_index leaders k) (slice_index values k)) % length leaders

-- one more than the last new leader before a place that is filed in a slot, or 0 where there is none
pub record IsLast (leaders values finer : List ℕ) (s k at : ℕ) : Type 0 where
  pub low : at ≤ k
  pub there : (j : ℕ) → at ≡ j + 1 → (slot leaders values j ≡ s) × (slice_index finer j ≡ j)
  pub covers : (j : ℕ) → j < k → slice_index finer j ≡ j → slot leaders values j ≡ s → j + 1 ≤ at

-- the places before one have their new leaders, and these are filed
pub record AreFiled (leaders values finer heads nexts : List ℕ) (k : ℕ) : Type 0 where
  pub finer_size : length leaders ≤ length finer
  pub heads_size : length leaders ≤ length heads
  pub nexts_size : length leaders ≤ length nexts
  pub each : (j : ℕ) → j < k → IsLeast leaders values (slice_index finer j) j
  pub last_in : (s : ℕ) → s < length leaders → IsLast leaders values finer s k (slice_index heads s)
  pub last_before : (i : ℕ) → i < k → IsLast leaders values finer (slot leaders values i) i (slice_index nexts i)
