-- Long division, from the top bit of the dividend down.
use Rattle.std.specs.Prelude.{◌≡◌, ℕ, ◌+◌, ◌-◌, ◌*◌, ◌/◌, ◌%◌, ◌^◌, ◌<◌, Bool, true, false, cond, List, length, nat_le}
use Rattle.cnf_clauses.specs.Literal.{Literal, value_of}
use Rattle.cnf_clauses.specs.Formula.{Cnf}
use Rattle.cnf_clauses.specs.Clause.{IsOver}
use Rattle.bit_blaster.specs.Gates.{Meets, Grows}
use Rattle.bit_blaster.specs.Numbers.{bit}
use Rattle.bit_blaster.specs.Spelling.{spelled}

-- a step of it: twice the remainder and the next bit of the dividend, less the divisor where that is no less
pub record IsDivided (old new : Cnf) (one x : Literal) (rest turned : List Literal) (q : Literal) (out : List Literal) : Type 0 where
  pub grows : Grows old new (3 * length rest + 2)
  pub q_in : q.var < new.variables
  pub inside : IsOver new.variables out
  pub size : length out ≡ length rest
  pub means : (v : ℕ → Bool) → Meets v new → value_of v one ≡ true → (y s : ℕ) → spelled v turned + y + 1 ≡ 2 ^ (length rest + 1) → s ≡ bit (value_of v x) + 2 * spelled v rest
      → (value_of v q ≡ nat_le y s) × (spelled v out ≡ cond (nat_le y s) (s - y) s % 2 ^ length rest)

-- quotient and remainder so far; where the divisor is 0 the quotient's bits are of no use
pub record IsQuotient (old new : Cnf) (z one : Literal) (xs turned : List Literal) (w : ℕ) (q r : List Literal) : Type 0 where
  pub grows : Grows old new ((3 * w + 2) * length xs)
  pub q_in : IsOver new.variables q
  pub r_in : IsOver new.variables r
  pub q_size : length q ≡ length xs
  pub r_size : length r ≡ w
  pub means : (v : ℕ → Bool) → Meets v new → value_of v z ≡ false → value_of v one ≡ true → (y : ℕ) → spelled v turned + y + 1 ≡ 2 ^ (w + 1) → spelled v xs < 2 ^ w
      → (spelled v r ≡ spelled v xs % y) × (0 < y → spelled v q ≡ spelled v xs / y)

-- quotient and remainder, with 0 as the quotient by 0
pub record IsDivision (old new : Cnf) (xs ys q r : List Literal) : Type 0 where
  pub grows : Grows old new (3 * length xs * length xs + 4 * length xs)
  pub q_in : IsOver new.variables q
  pub r_in : IsOver new.variables r
  pub q_size : length q ≡ length xs
  pub r_size : length r ≡ length xs
  pub quotient : (v : ℕ → Bool) → Meets v new → spelled v q ≡ spelled v xs / spelled v ys
  pub remainder : (v : ℕ → Bool) → Meets v new → spelled v r ≡ spelled v xs % spelled v ys
