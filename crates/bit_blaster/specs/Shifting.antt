-- Shifts by the bits of an amount.
use Rattle.std.specs.Prelude.{◌≡◌, ℕ, ◌+◌, ◌*◌, ◌/◌, ◌%◌, ◌^◌, ◌<◌, Bool, true, false, cond, List, length, nat_lt}
use Rattle.cnf_clauses.specs.Literal.{Literal}
use Rattle.cnf_clauses.specs.Formula.{Cnf}
use Rattle.cnf_clauses.specs.Literal.{value_of}
use Rattle.cnf_clauses.specs.Clause.{IsOver}
use Rattle.bit_blaster.specs.Gates.{Meets, Grows}
use Rattle.bit_blaster.specs.Numbers.{bit}
use Rattle.bit_blaster.specs.Spelling.{spelled}

abbrev pub moved_by : Bool → ℕ → ℕ → ℕ → ℕ
moved_by true w x p = (x * 2 ^ p) % 2 ^ w
moved_by false w x p = x / 2 ^ p

pub record IsMoved (left : Bool) (z : Literal) (xs out : List Literal) (k : ℕ) : Type 0 where
  pub size : length out ≡ length xs
  pub inside : (n : ℕ) → z.var < n → IsOver n xs → IsOver n out
  pub means : (v : ℕ → Bool) → value_of v z ≡ false → spelled v out ≡ moved_by left (length xs) (spelled v xs) k

-- the number of a word that may have been shifted out
abbrev pub kept : (ℕ → Bool) → Literal → List Literal → ℕ
kept v over xs = cond (value_of v over) 0 (spelled v xs)

abbrev pub stage_cost : ℕ → ℕ → ℕ
stage_cost w j = 1 + cond (nat_lt j 6) w 0

pub record IsStage (old new : Cnf) (left : Bool) (over : Literal) (xs : List Literal) (j : ℕ) (y o : Literal) (out : List Literal) : Type 0 where
  pub grows : Grows old new (stage_cost (length xs) j)
  pub over_in : o.var < new.variables
  pub inside : IsOver new.variables out
  pub size : length out ≡ length xs
  pub means : (v : ℕ → Bool) → Meets v new → kept v o out ≡ moved_by left (length xs) (kept v over xs) (2 ^ j * bit (value_of v y))
