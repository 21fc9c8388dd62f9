-- Formulas in DIMACS form, as far as their text was read.
use Rattle.std.specs.Prelude.{◌≡◌, ℕ, ◌-◌, ◌^◌, ◌≤◌, ◌==◌, Bool, true, ◌&&◌, nat_lt, nat_le, if◌then◌else◌, ℤ, pos, int_lt, unsigned_abs, List, [], ◌∷◌, ◌++◌, length, slice_index}
use Rattle.cnf_clauses.specs.Literal.{Literal}
use Rattle.cnf_clauses.specs.Formula.{Cnf}

-- a formula, and the literals of the clause that is open
pub record Reading : Type 0 where
  pub formula : Cnf
  pub clause : List Literal

abbrev pub nothing_read : Reading
nothing_read = record { formula = record { variables = 0; clauses = [] }; clause = [] }

-- the test whether each variable of a clause is below n
abbrev pub is_over : ℕ → List Literal → Bool
is_over n [] = true
is_over n (l ∷ ls) = nat_lt l.var n && is_over n ls

-- the test whether a formula gains a clause: it has the clause's variables, and room for one more
abbrev pub takes : Cnf → List Literal → Bool
takes f c = is_over f.variables c && nat_lt (length f.clauses) (2 ^ 32 - 2)

abbrev pub with_clause : Cnf → List Literal → Cnf
with_clause f c = if takes f c then record f { clauses = f.clauses ++ c ∷ [] } else f

-- what is read where a clause has ended
abbrev pub ended : Reading → Reading
ended r = record { formula = with_clause r.formula r.clause; clause = [] }

-- the literal of a number other than 0: its variable is one below the number's size, and it is negated where that is negative
abbrev pub literal_of : ℤ → Literal
literal_of n = record { var = unsigned_abs n - 1; negated = int_lt n (pos 0) }

-- what is read with one number more: 0 ends the clause, and a number of a larger size than 2^31 is read over
abbrev pub after_number : ℤ → Reading → Reading
after_number n r =
    if unsigned_abs n == 0 then ended r
    else (if nat_le (unsigned_abs n) (2 ^ 31) then record { formula = r.formula; clause = r.clause ++ literal_of n ∷ [] } else r)

-- a line that begins with the letter c is a comment
abbrev pub is_comment : List ℕ → Bool
is_comment line = slice_index line 0 == 99

-- a line that begins with the letter p is the head
abbrev pub is_head : List ℕ → Bool
is_head line = slice_index line 0 == 112

-- the second formula has the clauses of the first one, and then others, and at least as many variables
pub record Grows (old new : Cnf) : Type 0 where
  pub more : List (List Literal)
  pub clauses_are : new.clauses ≡ old.clauses ++ more
  pub as_many : old.variables ≤ new.variables
