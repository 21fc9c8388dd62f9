-- Bits and a carry, from the lowest bit up.
use Rattle.std.specs.Prelude.{◌≡◌, ℕ, ◌+◌, ◌*◌, ◌<◌, Bool, not, ◌&&◌, List, [], ◌∷◌, ◌++◌, length, min}
use Rattle.cnf_clauses.specs.Literal.{Literal}
use Rattle.cnf_clauses.specs.Formula.{Cnf}
use Rattle.cnf_clauses.specs.Literal.{value_of}
use Rattle.cnf_clauses.specs.Clause.{IsOver}
use Rattle.bit_blaster.specs.Gates.{Meets, Grows, bits, choose, differ, most, odd}
use Rattle.bit_blaster.specs.declared.cells.Cell.{Cell}
use Rattle.bit_blaster.specs.declared.cells.Cell.TheVariants.{Both, Either, Differ, Choose, Sum, Less, Same}

abbrev pub cell_out : Cell → Bool → Bool → Bool → Bool
cell_out Both c x y = x && y
cell_out Either c x y = not (not x && not y)
cell_out Differ c x y = differ x y
cell_out Choose c x y = choose c x y
cell_out Sum c x y = odd x y c
cell_out Less c x y = x
cell_out Same c x y = x

abbrev pub cell_next : Cell → Bool → Bool → Bool → Bool
cell_next Both c x y = c
cell_next Either c x y = c
cell_next Differ c x y = c
cell_next Choose c x y = c
cell_next Sum c x y = most x y c
cell_next Less c x y = most (not x) y c
cell_next Same c x y = c && not (differ x y)

abbrev pub cell_cost : Cell → ℕ
cell_cost Sum = 2
cell_cost Same = 2
cell_cost kind = 1

pub record IsCell (old new : Cnf) (kind : Cell) (c x y o n : Literal) : Type 0 where
  pub grows : Grows old new (cell_cost kind)
  pub out_in : o.var < new.variables
  pub next_in : n.var < new.variables
  pub out : (v : ℕ → Bool) → Meets v new → value_of v o ≡ cell_out kind (value_of v c) (value_of v x) (value_of v y)
  pub next : (v : ℕ → Bool) → Meets v new → value_of v n ≡ cell_next kind (value_of v c) (value_of v x) (value_of v y)

unfoldable pub ripple : Cell → Bool → List Bool → List Bool → List Bool
ripple kind c [] ys = []
ripple kind c (x ∷ xs) [] = []
ripple kind c (x ∷ xs) (y ∷ ys) = cell_out kind c x y ∷ ripple kind (cell_next kind c x y) xs ys

unfoldable pub carried : Cell → Bool → List Bool → List Bool → Bool
carried kind c [] ys = c
carried kind c (x ∷ xs) [] = c
carried kind c (x ∷ xs) (y ∷ ys) = carried kind (cell_next kind c x y) xs ys

pub record IsRipple (old new : Cnf) (kind : Cell) (before after : List Literal) (c n : Literal) (xs ys : List Literal) : Type 0 where
  pub grows : Grows old new (cell_cost kind * length xs)
  pub out_in : IsOver new.variables after
  pub next_in : n.var < new.variables
  pub size : length after ≡ length before + min (length xs) (length ys)
  pub out : (v : ℕ → Bool) → Meets v new → bits v after ≡ bits v before ++ ripple kind (value_of v c) (bits v xs) (bits v ys)
  pub next : (v : ℕ → Bool) → Meets v new → value_of v n ≡ carried kind (value_of v c) (bits v xs) (bits v ys)
