-- The test whether a clause is over a formula's variables.
use Rattle.std.proofs.Common.{◌≡◌, ℕ, Bool, ltb, List, [], ◌∷◌, refl}
use Rattle.std.specs.Bool.{Decides}
use Rattle.std.proofs.lemmas.Bool.Decides.{same_from_decides, Decides-and, Decides-ltb}
use Rattle.cnf_clauses.specs.Literal.{Literal}
use Rattle.cnf_clauses.specs.Clause.{IsOver}
use Rattle.clause_search_dimacs.specs.Dimacs.{is_over}

decided : (n : ℕ) (c : List Literal) → Decides (is_over n c) (IsOver n c)
decided n [] = (λ _. tt, λ _. refl)
decided n (l ∷ ls) = Decides-and (ltb l.var n) (is_over n ls) (Decides-ltb l.var n) (decided n ls)

-- what says whether a clause is over the variables is that test
pub is_test : (n : ℕ) (c : List Literal) (b : Bool) → Decides b (IsOver n c) → b ≡ is_over n c
is_test n c b says = same_from_decides b (is_over n c) says (decided n c)
