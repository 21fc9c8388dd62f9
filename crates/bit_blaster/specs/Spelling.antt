-- Words as literals.
use Rattle.std.specs.Prelude.{◌≡◌, ℕ, ◌*◌, ◌%◌, ◌^◌, ◌<◌, Bool, true, List, length}
use Rattle.cnf_clauses.specs.Literal.{Literal}
use Rattle.cnf_clauses.specs.Formula.{Cnf}
use Rattle.cnf_clauses.specs.Literal.{value_of}
use Rattle.cnf_clauses.specs.Clause.{IsOver}
use Rattle.bit_blaster.specs.Gates.{Meets, Grows, bits}
use Rattle.bit_blaster.specs.Ripples.{ripple, carried, cell_cost}
use Rattle.bit_blaster.specs.Numbers.{number}
use Rattle.bit_blaster.specs.declared.cells.Cell.{Cell}

abbrev pub spelled : (ℕ → Bool) → List Literal → ℕ
spelled v ls = number (bits v ls)

pub record IsCombined (old new : Cnf) (kind : Cell) (carry : Bool) (out : List Literal) (n : Literal) (xs ys : List Literal) : Type 0 where
  pub grows : Grows old new (cell_cost kind * length xs)
  pub out_in : IsOver new.variables out
  pub next_in : n.var < new.variables
  pub size : length out ≡ length xs
  pub made : (v : ℕ → Bool) → Meets v new → bits v out ≡ ripple kind carry (bits v xs) (bits v ys)
  pub last : (v : ℕ → Bool) → Meets v new → value_of v n ≡ carried kind carry (bits v xs) (bits v ys)

-- literals that spell this number in each model
pub record IsSpelled (old new : Cnf) (cost width : ℕ) (out : List Literal) (value : (ℕ → Bool) → ℕ) : Type 0 where
  pub grows : Grows old new cost
  pub inside : IsOver new.variables out
  pub size : length out ≡ width
  pub means : (v : ℕ → Bool) → Meets v new → spelled v out ≡ value v

pub record IsTest (old new : Cnf) (cost : ℕ) (l : Literal) (value : (ℕ → Bool) → Bool) : Type 0 where
  pub grows : Grows old new cost
  pub inside : l.var < new.variables
  pub means : (v : ℕ → Bool) → Meets v new → value_of v l ≡ value v

pub record IsRow (old new : Cnf) (kind : Cell) (out : List Literal) (c : Literal) (xs ys : List Literal) : Type 0 where
  pub grows : Grows old new (cell_cost kind * length xs)
  pub inside : IsOver new.variables out
  pub size : length out ≡ length xs
  pub made : (v : ℕ → Bool) → Meets v new → bits v out ≡ ripple kind (value_of v c) (bits v xs) (bits v ys)

-- constant literals that spell a number's lowest bits
pub record IsConstant (width value : ℕ) (out : List Literal) : Type 0 where
  pub size : length out ≡ width
  pub inside : (n : ℕ) → 0 < n → IsOver n out
  pub means : (v : ℕ → Bool) → v 0 ≡ true → spelled v out ≡ value % 2 ^ width
