-- Literals of propositional logic, and their numbers.
use Rattle.std.specs.Prelude.{◌≡◌, ℕ, ◌+◌, ◌*◌, ◌/◌, ◌%◌, ◌==◌, Bool, true, false, not, cond, refl}
use Rattle.std.proofs.Common.{arith}
use Rattle.std.proofs.lemmas.Bool.{eqb-true, eqb-false}

-- a variable, or its negation
pub record Literal : Type 0 where
  pub var : ℕ
  pub negated : Bool

-- the other literal of the same variable
abbrev pub opposite : Literal → Literal
opposite l = record { var = l.var; negated = not l.negated }

-- the value of a literal under an assignment, which gives each variable a truth value
abbrev pub value_of : (ℕ → Bool) → Literal → Bool
value_of v l = cond l.negated (not (v l.var)) (v l.var)

-- the number of a literal: twice its variable, and one more for a negation
abbrev pub code_of : Literal → ℕ
code_of l = 2 * l.var + cond l.negated 1 0

-- the literal of a number
abbrev pub literal_of : ℕ → Literal
literal_of n = record { var = n / 2; negated = n % 2 == 1 }

-- the test whether two literals are one
abbrev pub same_literal : Literal → Literal → Bool
same_literal a b = code_of a == code_of b

odd_or_even : (n : ℕ) (b : Bool) → n % 2 == 1 ≡ b → 2 * (n / 2) + cond b 1 0 ≡ n
odd_or_even n true e = omega (arith, eqb-true (n % 2) 1 e)
odd_or_even n false e = omega (arith, eqb-false (n % 2) 1 e)

-- a number is that of its literal
pub code_of-literal_of : (n : ℕ) → code_of (literal_of n) ≡ n
code_of-literal_of n = odd_or_even n (n % 2 == 1) refl
