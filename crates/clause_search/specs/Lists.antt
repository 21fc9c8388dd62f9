-- Lists of clauses, and what is added or taken out.
use Rattle.std.specs.Prelude.{◌≡◌, ℕ, ◌+◌, ◌<◌, ◌≤◌, ◌++◌, ◌∷◌, List, [], length, slice_index_or}
use Rattle.cnf_clauses.specs.declared.lit.ClauseId.{ClauseId}

pub record IsRemoved (old new : List (List ClauseId)) (at i : ℕ) : Type 0 where
  pub lists : length new ≡ length old
  pub others : (c : ℕ) → (c ≡ at → ⊥) → slice_index_or new c [] ≡ slice_index_or old c []
  pub shorter : length (slice_index_or new at []) + 1 ≡ length (slice_index_or old at [])
  pub before : (j : ℕ) (d : ClauseId) → j < i → slice_index_or (slice_index_or new at []) j d ≡ slice_index_or (slice_index_or old at []) j d
  pub later : (j : ℕ) (d : ClauseId) → i < j → j < length (slice_index_or old at []) → (m : ℕ) × (i ≤ m) × (m < length (slice_index_or new at [])) × (slice_index_or (slice_index_or new at []) m d ≡ slice_index_or (slice_index_or old at []) j d)

pub record IsAdded (old new : List (List ClauseId)) (at : ℕ) (id : ClauseId) : Type 0 where
  pub lists : length new ≡ length old
  pub others : (c : ℕ) → (c ≡ at → ⊥) → slice_index_or new c [] ≡ slice_index_or old c []
  pub there : slice_index_or new at [] ≡ slice_index_or old at [] ++ id ∷ []
