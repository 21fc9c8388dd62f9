-- Gates: how a formula grows by variables whose clauses give them the value of a gate.
--
-- An assignment gives each variable a truth value. A formula that has been begun has variable 0, which is true in each
-- of its models: its literals are the constants.
use Rattle.std.specs.Prelude.{◌≡◌, ℕ, ◌+◌, ◌*◌, ◌<◌, ◌≤◌, ◌^◌, Bool, true, not, cond, ◌&&◌, ◌||◌, List, [], ◌∷◌, length}
use mathlib.Core.Bool.{beq}
use Rattle.cnf_clauses.specs.Literal.{Literal, opposite, value_of}
use Rattle.cnf_clauses.specs.Formula.{Cnf}
use Rattle.cnf_clauses.specs.Clause.{all_met, IsOver}

-- the assignment meets each clause of the formula
abbrev pub Meets : (ℕ → Bool) → Cnf → Type 0
Meets v f = all_met v f.clauses ≡ true

-- the variables of each clause are below n
abbrev pub AllOver : ℕ → List (List Literal) → Type 0
AllOver n [] = Unit {0}
AllOver n (c ∷ cs) = IsOver n c × AllOver n cs

-- the two assignments give the variables below n the same values
abbrev pub Agrees : ℕ → (ℕ → Bool) → (ℕ → Bool) → Type 0
Agrees n v w = (k : ℕ) → k < n → w k ≡ v k

-- the literal that is always true, or always false
abbrev pub constant : Bool → Literal
constant value = record { var = 0; negated = not value }

-- variable 0 is there and true, and there is room for some more variables, at eight clauses each
pub record HasRoom (f : Cnf) (cost : ℕ) : Type 0 where
  pub clauses : length f.clauses ≤ 8 * f.variables
  pub room : f.variables + cost ≤ 2 ^ 25
  pub begun : 0 < f.variables
  pub on : (v : ℕ → Bool) → Meets v f → v 0 ≡ true

-- the new formula's models are extensions of the old one's, and each of these has one
pub record Grows (old new : Cnf) (cost : ℕ) : Type 0 where
  pub more : old.variables ≤ new.variables
  pub few : new.variables ≤ old.variables + cost
  pub clauses : length new.clauses + 8 * old.variables ≤ length old.clauses + 8 * new.variables
  pub kept : (v : ℕ → Bool) → Meets v new → Meets v old
  pub free : (v : ℕ → Bool) → Meets v old → (w : ℕ → Bool) × Agrees old.variables v w × Meets w new

-- a literal that has this value in each model: at a fresh variable, or one that stood there before
pub record IsGate (old new : Cnf) (cost : ℕ) (l : Literal) (value : (ℕ → Bool) → Bool) : Type 0 where
  pub grows : Grows old new cost
  pub inside : l.var < new.variables
  pub means : (v : ℕ → Bool) → Meets v new → value_of v l ≡ value v

-- the values of literals
abbrev pub bits : (ℕ → Bool) → List Literal → List Bool
bits v [] = []
bits v (l ∷ ls) = value_of v l ∷ bits v ls

-- a literal, or its opposite
abbrev pub signed : Bool → Literal → Literal
signed same l = cond same l (opposite l)

abbrev pub choose : Bool → Bool → Bool → Bool
choose c a b = cond c a b

abbrev pub differ : Bool → Bool → Bool
differ a b = not (beq a b)

abbrev pub most : Bool → Bool → Bool → Bool
most a b c = cond a (b || c) (b && c)

abbrev pub odd : Bool → Bool → Bool → Bool
odd a b c = differ a (differ b c)
