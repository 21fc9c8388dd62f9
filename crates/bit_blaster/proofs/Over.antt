-- Which variables clauses have.
use Rattle.std.proofs.Common.{ℕ, ◌<◌, ◌≤◌, List, [], ◌∷◌, ◌++◌, arith}
use Rattle.cnf_clauses.specs.Literal.{Literal}
use Rattle.cnf_clauses.specs.Clause.{IsOver}
use Rattle.bit_blaster.specs.Gates.{AllOver}

pub IsOver-more : (n m : ℕ) (c : List Literal) → n ≤ m → IsOver n c → IsOver m c
IsOver-more n m [] h o = tt
IsOver-more n m (l ∷ ls) h o = (let p : l.var < n = o.0 in omega arith, IsOver-more n m ls h o.1)

pub AllOver-more : (n m : ℕ) (cs : List (List Literal)) → n ≤ m → AllOver n cs → AllOver m cs
AllOver-more n m [] h o = tt
AllOver-more n m (c ∷ cs) h o = (IsOver-more n m c h o.0, AllOver-more n m cs h o.1)

pub AllOver-push : (n : ℕ) (cs : List (List Literal)) (c : List Literal) → AllOver n cs → IsOver n c → AllOver n (cs ++ c ∷ [])
AllOver-push n [] c o h = (h, tt)
AllOver-push n (d ∷ cs) c o h = (o.0, AllOver-push n cs c o.1 h)
