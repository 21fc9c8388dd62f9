-- One fresh variable with clauses that fix it.
use Rattle.std.proofs.Common.{◌≡◌, ℕ, suc, ◌+◌, ◌<◌, ◌≤◌, Bool, true, false, not, cond, ◌&&◌, List, [], ◌∷◌, ◌++◌, length, refl, sym, ◌∙◌, ap, subst, arith, nat_eq, length-append}
use mathlib.Core.Bool.{beq}
use Rattle.std.proofs.lemmas.Bool.{and_parts, ne_eqb, eq-eqb}
use Rattle.cnf_clauses.specs.Literal.{Literal}
use Rattle.cnf_clauses.specs.Formula.{Cnf}
use Rattle.cnf_clauses.specs.Literal.{value_of}
use Rattle.cnf_clauses.specs.Clause.{met, all_met, IsOver}
use Rattle.cnf_clauses.specs.Clause.{HasVariablesBelow}
use Rattle.cnf_clauses.proofs.Variables.{over_from_below}
use Rattle.std.specs.Prelude.{slice_index_or}
use Rattle.bit_blaster.specs.Gates.{Agrees, AllOver, IsGate, bits}

not-not : (b : Bool) → not (not b) ≡ b
not-not true = refl
not-not false = refl

and_grouped : (a b c : Bool) → ((a && b) && c) ≡ (a && (b && c))
and_grouped true b c = refl
and_grouped false b c = refl

pub all_met-append : (v : ℕ → Bool) (xs ys : List (List Literal)) → all_met v (xs ++ ys) ≡ (all_met v xs && all_met v ys)
unfolding all_met
all_met-append v [] ys = refl
all_met-append v (x ∷ xs) ys = rw (all_met-append v xs ys) (sym (and_grouped (met v x) (all_met v xs) (all_met v ys)))

and_from : (a b : Bool) → a ≡ true → b ≡ true → (a && b) ≡ true
and_from a b p q = rw (p, q) refl

pub value_of-agrees : (n : ℕ) (v w : ℕ → Bool) (l : Literal) → Agrees n v w → l.var < n → value_of w l ≡ value_of v l
value_of-agrees n v w l a h = ap (λ (b : Bool). cond l.negated (not b) b) (a l.var h)

met-agrees : (n : ℕ) (v w : ℕ → Bool) (c : List Literal) → Agrees n v w → IsOver n c → met w c ≡ met v c
met-agrees n v w [] a o = refl
met-agrees n v w (l ∷ ls) a o = rw (value_of-agrees n v w l a o.0, met-agrees n v w ls a o.1) refl

pub all_met-agrees : (n : ℕ) (v w : ℕ → Bool) (cs : List (List Literal)) → Agrees n v w → AllOver n cs → all_met w cs ≡ all_met v cs
unfolding all_met
all_met-agrees n v w [] a o = refl
all_met-agrees n v w (c ∷ cs) a o = rw (met-agrees n v w c a o.0, all_met-agrees n v w cs a o.1) refl

pub bits-agrees : (n : ℕ) (v w : ℕ → Bool) (ls : List Literal) → Agrees n v w → IsOver n ls → bits w ls ≡ bits v ls
bits-agrees n v w [] a o = refl
bits-agrees n v w (l ∷ ls) a o = rw (value_of-agrees n v w l a o.0, bits-agrees n v w ls a o.1) refl

same_true : (a b : Bool) → beq a b ≡ true → a ≡ b
same_true true true e = refl
same_true true false e = cc
same_true false true e = cc
same_true false false e = refl

same_itself : (a b : Bool) → a ≡ b → beq a b ≡ true
same_itself true b e = rw (← e) refl
same_itself false b e = rw (← e) refl

-- clauses whose variables are below n, one by one
pub all_over_from : (n : ℕ) (cs : List (List Literal)) → ((k : ℕ) → k < length cs → HasVariablesBelow n (slice_index_or cs k [])) → AllOver n cs
all_over_from n [] below = tt
all_over_from n (c ∷ cs) below = (over_from_below n c (below 0 (omega arith)), all_over_from n cs (λ k h. below (suc k) (omega (arith, h))))

-- the assignment with another value at n
patch : (ℕ → Bool) → ℕ → Bool → ℕ → Bool
patch v n b k = cond (nat_eq k n) b (v k)

patch_at : (v : ℕ → Bool) (n : ℕ) (b : Bool) → patch v n b n ≡ b
unfolding patch
patch_at v n b = rw (eq-eqb n n refl) refl

patch_other : (v : ℕ → Bool) (n : ℕ) (b : Bool) → Agrees n v (patch v n b)
unfolding patch
patch_other v n b k h = rw (ne_eqb k n (λ e. absurd (omega arith))) refl

twice : (s b : Bool) → cond s (not (cond s (not b) b)) (cond s (not b) b) ≡ b
twice true b = not-not b
twice false b = refl

patched : (v : ℕ → Bool) (l : Literal) (b : Bool) → value_of (patch v l.var (cond l.negated (not b) b)) l ≡ b
patched v l b = rw (patch_at v l.var (cond l.negated (not b) b)) (twice l.negated b)

pub record IsDefinition (old new : Cnf) (l : Literal) (cs : List (List Literal)) (value : (ℕ → Bool) → Bool) : Type 0 where
  pub variables : new.variables ≡ old.variables + 1
  pub clauses : new.clauses ≡ old.clauses ++ cs
  pub eight : length cs ≤ 8
  pub at : l.var ≡ old.variables
  pub over : (k : ℕ) → k < length old.clauses → HasVariablesBelow old.variables (slice_index_or old.clauses k [])
  pub local : (v w : ℕ → Bool) → Agrees old.variables v w → value w ≡ value v
  pub table : (v : ℕ → Bool) → all_met v cs ≡ beq (value_of v l) (value v)

pub gate : (old new : Cnf) (l : Literal) (cs : List (List Literal)) (value : (ℕ → Bool) → Bool) → IsDefinition old new l cs value → IsGate old new 1 l value
gate old new l cs value d =
    let both : (v : ℕ → Bool) → all_met v new.clauses ≡ (all_met v old.clauses && all_met v cs) = λ v. rw d.clauses (all_met-append v old.clauses cs) in
    record {
      grows = record {
        more = omega (arith, d.variables);
        few = omega (arith, d.variables);
        clauses = rw d.clauses (omega (arith, d.variables, d.eight, length-append old.clauses cs));
        kept = λ v h. (and_parts _ _ (sym (both v) ∙ h)).0;
        free = λ v h.
            let b : Bool = cond l.negated (not (value v)) (value v) in
            let w : ℕ → Bool = patch v l.var b in
            let same : Agrees old.variables v w = subst (λ (n : ℕ). Agrees n v w) d.at (patch_other v l.var b) in (
              w,
              same,
              both w ∙ and_from _ _ (all_met-agrees old.variables v w old.clauses same (all_over_from old.variables old.clauses d.over) ∙ h)
                  (d.table w ∙ same_itself _ _ (patched v l (value v) ∙ sym (d.local v w same))),
            );
      };
      inside = omega (arith, d.variables, d.at);
      means = λ v h. same_true _ _ (sym (d.table v) ∙ (and_parts _ _ (sym (both v) ∙ h)).1);
    }
