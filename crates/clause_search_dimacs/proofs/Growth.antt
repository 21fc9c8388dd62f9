-- Formulas that grow.
use Rattle.std.proofs.Common.{◌≡◌, ◌++◌, Bool, true, false, ℤ, List, [], ◌∷◌, ◌==◌, nat_le, ◌^◌, if◌then◌else◌, unsigned_abs, refl, sym, subst, ap, ◌∙◌, append-nil, append_assoc, arith}
use Rattle.cnf_clauses.specs.Literal.{Literal}
use Rattle.cnf_clauses.specs.Formula.{Cnf}
use Rattle.clause_search_dimacs.specs.Dimacs.{Reading, Grows, takes, with_clause, ended, literal_of, after_number}

-- a formula with the same clauses and as many variables grows
pub grows_same : (f g : Cnf) → g.clauses ≡ f.clauses → g.variables ≡ f.variables → Grows f g
grows_same f g clauses variables = record { more = []; clauses_are = clauses ∙ sym (append-nil f.clauses); as_many = omega arith }

pub grows_then : (f g h : Cnf) → Grows f g → Grows g h → Grows f h
grows_then f g h first second = record {
  more = first.more ++ second.more;
  clauses_are = second.clauses_are ∙ ap (λ (cs : List (List Literal)). cs ++ second.more) first.clauses_are ∙ append_assoc f.clauses first.more second.more;
  as_many = omega arith;
}

either : {X : Type 0} (P : X → Type 0) (b : Bool) (x y : X) → P x → P y → P (if b then x else y)
either P true x y is_x is_y = is_x
either P false x y is_x is_y = is_y

-- a clause makes a formula grow
pub grows_by_clause : (f : Cnf) (c : List Literal) → Grows f (with_clause f c)
grows_by_clause f c = either (Grows f) (takes f c) (record f { clauses = f.clauses ++ c ∷ [] }) f
    (record { more = c ∷ []; clauses_are = refl; as_many = omega arith }) (grows_same f f refl refl)

-- a number makes a formula grow
pub grows_by_number : (n : ℤ) (r : Reading) → Grows r.formula (after_number n r).formula
grows_by_number n r =
    let P : Reading → Type 0 = λ s. Grows r.formula s.formula in
    let longer : Reading = record { formula = r.formula; clause = r.clause ++ literal_of n ∷ [] } in
    either P (unsigned_abs n == 0) (ended r) (if nat_le (unsigned_abs n) (2 ^ 31) then longer else r)
    (grows_by_clause r.formula r.clause)
    (either P (nat_le (unsigned_abs n) (2 ^ 31)) longer r (grows_same r.formula r.formula refl refl) (grows_same r.formula r.formula refl refl))

-- a formula that has grown grows on with a number
pub grows_on : (f : Cnf) (n : ℤ) (r s : Reading) → s ≡ after_number n r → Grows f r.formula → Grows f s.formula
grows_on f n r s is grown =
    let next : Grows r.formula s.formula = subst (λ (t : Reading). Grows r.formula t.formula) (sym is) (grows_by_number n r) in
    grows_then f r.formula s.formula grown next

-- a number adds no variable
pub variables-after_number : (n : ℤ) (r s : Reading) → s ≡ after_number n r → s.formula.variables ≡ r.formula.variables
variables-after_number n r s is =
    let P : Reading → Type 0 = λ t. t.formula.variables ≡ r.formula.variables in
    let Q : Cnf → Type 0 = λ f. f.variables ≡ r.formula.variables in
    let longer : Reading = record { formula = r.formula; clause = r.clause ++ literal_of n ∷ [] } in
    subst P (sym is) (
    either P (unsigned_abs n == 0) (ended r) (if nat_le (unsigned_abs n) (2 ^ 31) then longer else r)
    (either Q (takes r.formula r.clause) (record r.formula { clauses = r.formula.clauses ++ r.clause ∷ [] }) r.formula refl refl)
    (either P (nat_le (unsigned_abs n) (2 ^ 31)) longer r refl refl))
