-- What it means that an assignment meets clauses, by recursion and by membership.
use Rattle.std.proofs.Common.{◌≡◌, ℕ, zero, suc, ◌<◌, Bool, true, false, not, cond, List, [], ◌∷◌, length, get_or, refl, sym, ◌∙◌, ap, arith, ⊎_elim}
use Rattle.std.proofs.lemmas.Bool.{and_parts, or_cases, or_left, or_right}
use Rattle.std.specs.Cmp.Derive.{both_true}
use Rattle.cnf_clauses.specs.Literal.{Literal, opposite, value_of}
use Rattle.cnf_clauses.specs.Clause.{met, all_met, IsMet, Models}

not-not : (b : Bool) → not (not b) ≡ b
not-not true = refl
not-not false = refl

-- a literal is true where its opposite is false
pub value_of-opposite : (v : ℕ → Bool) (l : Literal) → value_of v (opposite l) ≡ not (value_of v l)
value_of-opposite v l =
    elim l.negated as (λ (s : Bool). cond (not s) (not (v l.var)) (v l.var) ≡ not (cond s (not (v l.var)) (v l.var))) [ true ↦ sym (not-not (v l.var)) | false ↦ refl ]

-- a clause that the test says is met has a true literal
pub IsMet-from_met : (v : ℕ → Bool) (c : List Literal) → met v c ≡ true → IsMet v c
IsMet-from_met v [] e = cc
IsMet-from_met v (x ∷ xs) e = ⊎_elim
    (λ here. (x, (0, omega arith, refl), here))
    (λ later. let h = IsMet-from_met v xs later in let lt : h.1.0 < length xs = h.1.1 in (h.0, (suc h.1.0, omega arith, h.1.2), h.2))
    (or_cases (value_of v x) (met v xs) e)

met_at : (v : ℕ → Bool) (c : List Literal) (l : Literal) (k : ℕ) → k < length c → get_or c k l ≡ l → value_of v l ≡ true → met v c ≡ true
met_at v [] l k lt e h = absurd (omega arith)
met_at v (x ∷ xs) l zero lt e h = or_left (value_of v x) (met v xs) (ap (value_of v) e ∙ h)
met_at v (x ∷ xs) l (suc k) lt e h = or_right (value_of v x) (met v xs) (met_at v xs l k (omega arith) e h)

-- and the other way round
pub met-from_IsMet : (v : ℕ → Bool) (c : List Literal) → IsMet v c → met v c ≡ true
met-from_IsMet v c (l, (k, k-in, e), h) = met_at v c l k k-in e h

-- the same of all clauses
pub Models-from_all_met : (v : ℕ → Bool) (cs : List (List Literal)) → all_met v cs ≡ true → Models v cs
unfolding all_met
Models-from_all_met v [] e k lt = absurd (omega arith)
Models-from_all_met v (c ∷ cs) e zero lt = IsMet-from_met v c (and_parts (met v c) (all_met v cs) e).0
Models-from_all_met v (c ∷ cs) e (suc k) lt = Models-from_all_met v cs (and_parts (met v c) (all_met v cs) e).1 k (omega arith)

pub all_met-from_Models : (v : ℕ → Bool) (cs : List (List Literal)) → Models v cs → all_met v cs ≡ true
unfolding all_met
all_met-from_Models v [] models = refl
all_met-from_Models v (c ∷ cs) models =
    both_true {s = met v c} {t = all_met v cs} (met-from_IsMet v c (models 0 (omega arith))) (all_met-from_Models v cs (λ k h. models (suc k) (omega arith)))
