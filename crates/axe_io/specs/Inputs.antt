-- Inputs of a shape, in counting order.
use Rattle.std.specs.Prelude.{◌≡◌, ℕ, ◌+◌, ◌-◌, ◌*◌, ◌^◌, ◌<◌, ◌/◌, ◌%◌, List, [], ◌∷◌, ◌++◌, length, take, drop, replicate, slice_index}

-- one number a leaf, each below 2^width
abbrev pub IsInput : List ℕ → List ℕ → Type 0
IsInput [] [] = Unit {0}
IsInput (w ∷ ws) (x ∷ xs) = (x < 2 ^ w) × IsInput ws xs
IsInput [] (x ∷ xs) = ⊥
IsInput (w ∷ ws) [] = ⊥

-- the bits of all leaves
abbrev pub bits_of : List ℕ → ℕ
bits_of [] = 0
bits_of (w ∷ ws) = w + bits_of ws

-- all leaves read as one binary number, the first leaf highest
abbrev pub number_of : List ℕ → List ℕ → ℕ
number_of [] xs = 0
number_of (w ∷ ws) [] = 0
number_of (w ∷ ws) (x ∷ xs) = x * 2 ^ bits_of ws + number_of ws xs

-- the input of a number
abbrev pub input_at : List ℕ → ℕ → List ℕ
input_at [] n = []
input_at (w ∷ ws) n = n / 2 ^ bits_of ws ∷ input_at ws (n % 2 ^ bits_of ws)

-- inputs and the numbers below 2^bits stand for each other
pub record AreCounted : Type 0 where
  pub place : (ws xs : List ℕ) → IsInput ws xs → input_at ws (number_of ws xs) ≡ xs
  pub below : (ws xs : List ℕ) → IsInput ws xs → number_of ws xs < 2 ^ bits_of ws
  pub is_input : (ws : List ℕ) (n : ℕ) → n < 2 ^ bits_of ws → IsInput ws (input_at ws n)
  pub number : (ws : List ℕ) (n : ℕ) → n < 2 ^ bits_of ws → number_of ws (input_at ws n) ≡ n

-- the last input in counting order
abbrev pub IsLast : List ℕ → List ℕ → Type 0
IsLast ws xs = number_of ws xs + 1 ≡ 2 ^ bits_of ws

-- the leaf at a place isn't the greatest of its width, and each leaf after it is
pub record CanRise (ws xs : List ℕ) (at : ℕ) : Type 0 where
  pub within : at < length xs
  pub room : slice_index xs at + 1 < 2 ^ slice_index ws at
  pub rest : IsLast (drop (at + 1) ws) (drop (at + 1) xs)

-- one added to the leaf at a place, and 0 in each leaf after it
abbrev pub raised : List ℕ → ℕ → List ℕ
raised xs at = take at xs ++ (slice_index xs at + 1) ∷ replicate (length xs - (at + 1)) 0
