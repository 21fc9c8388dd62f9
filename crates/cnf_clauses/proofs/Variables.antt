-- Which variables a clause has.
use Rattle.std.proofs.Common.{ℕ, zero, suc, refl, List, [], ◌∷◌, arith}
use Rattle.cnf_clauses.specs.Literal.{Literal}
use Rattle.cnf_clauses.specs.Clause.{IsOver, HasVariablesBelow}

-- what the recursion says holds of each literal
pub below_from_over : (n : ℕ) (c : List Literal) → IsOver n c → HasVariablesBelow n c
below_from_over n [] over l l-in = absurd (omega (arith, l-in.1))
below_from_over n (x ∷ xs) over l (zero, k-in, e) = rw (← e) over.0
below_from_over n (x ∷ xs) over l (suc k, k-in, e) = below_from_over n xs over.1 l (k, omega (arith, k-in), e)

-- and the other way round
pub over_from_below : (n : ℕ) (c : List Literal) → HasVariablesBelow n c → IsOver n c
over_from_below n [] below = tt
over_from_below n (x ∷ xs) below =
    (below x (0, omega arith, refl), over_from_below n xs (λ l l-in. below l (suc l-in.0, omega (arith, l-in.1), l-in.2)))
