-- Tables of retained nodes: for each node the one that stands for it.
use Rattle.std.specs.Prelude.{◌≡◌, ℕ, ◌+◌, ◌^◌, ◌<◌, ◌≤◌, cond, nat_eq, Some, List, [], ◌∷◌, length, map, slice_get, slice_index}

-- a node is retained by itself or by an earlier one, which is retained by itself
pub record IsFlat (table : List ℕ) : Type 0 where
  pub before : (k r : ℕ) → slice_get table k ≡ Some r → r ≤ k
  pub itself : (k r : ℕ) → slice_get table k ≡ Some r → slice_get table r ≡ Some r

-- a node's retained node, once `keep` stands for what `gone` stood for
abbrev pub renamed : ℕ → ℕ → ℕ → ℕ
renamed keep gone r = cond (nat_eq r gone) keep r

-- the table in which `keep` retains all that `gone` retained
abbrev pub replaced : ℕ → ℕ → List ℕ → List ℕ
replaced keep gone table = map (renamed keep gone) table

-- how often a number stands in a list
abbrev pub count : ℕ → List ℕ → ℕ
count n [] = 0
count n (x ∷ xs) = cond (nat_eq x n) 1 0 + count n xs

-- how many nodes from a place on are retained by themselves
abbrev pub classes_from : ℕ → List ℕ → ℕ
classes_from n [] = 0
classes_from n (x ∷ xs) = cond (nat_eq x n) 1 0 + classes_from (n + 1) xs

-- how many nodes are retained by themselves: into so many classes the table puts the nodes
abbrev pub classes : List ℕ → ℕ
classes table = classes_from 0 table

-- the numbers of members that are kept beside a table, and for each retained node a bound on its members
pub record IsCounted (table counts lasts : List ℕ) : Type 0 where
  pub few : length table < 2 ^ 32
  pub sizes : length counts ≡ length table
  pub ends : length lasts ≡ length table
  pub counted : (k : ℕ) → k < length table → slice_index counts k ≡ count k table
  pub bounded : (k r : ℕ) → slice_get table k ≡ Some r → k ≤ slice_index lasts r
  pub inside : (k n : ℕ) → slice_get lasts k ≡ Some n → n + 1 ≤ length table
