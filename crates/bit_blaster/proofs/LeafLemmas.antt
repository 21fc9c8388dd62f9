-- Leaves have free bits.
use Rattle.std.proofs.Common.{◌≡◌, ℕ, zero, suc, ◌+◌, ◌-◌, ◌*◌, ◌/◌, ◌%◌, ◌^◌, ◌<◌, ◌≤◌, Bool, true, false, cond, List, length, refl, sym, ◌∙◌, ap, subst, arith, nat_lt, nat_eq, Option, Some}
use Rattle.std.specs.Prelude.{IsSome, slice_index, nat_le}
use Rattle.std.proofs.lemmas.Nat.{mod-pow-add, pow_pos}
use Rattle.std.proofs.Math.Nat.{mod-eq_of_lt, div-div-eq-div-mul}
use Rattle.std.proofs.lemmas.Bool.{lt-ltb, ltb-true, leb-true, and_parts}
use Rattle.std.proofs.lemmas.Bool.Decides.{nat_tests}
use Rattle.cnf_clauses.specs.Literal.{Literal}
use Rattle.cnf_clauses.specs.Formula.{Cnf}
use Rattle.cnf_clauses.specs.Clause.{IsOver}
use Rattle.bit_blaster.specs.Gates.{Meets, Agrees}
use Rattle.bit_blaster.specs.Spelling.{spelled}
use Rattle.bit_blaster.specs.Numbers.{bit}
use Rattle.bit_blaster.specs.Circuit.{width_in}
use Rattle.bit_blaster.specs.NodeBits.{widths, IsNodeBits, IsFresh, fresh_from}
use Rattle.bit_blaster.proofs.Definitions.{all_met-agrees}
use Rattle.bit_blaster.proofs.Arithmetic.{double}
use Rattle.dag.specs.Node.{when, is_width}
use Rattle.dag.specs.declared.node.Node.TheVariants.{Leaf}

-- the assignment that gives the variables from n on the bits of x
abbrev set_from : (ℕ → Bool) → ℕ → ℕ → ℕ → Bool
set_from v n x k = cond (nat_lt k n) (v k) (nat_eq (x / 2 ^ (k - n) % 2) 1)

set_below : (v : ℕ → Bool) (n x : ℕ) → Agrees n v (set_from v n x)
set_below v n x k h = rw (lt-ltb k n h) refl

low_bit : (r : ℕ) → r < 2 → bit (nat_eq r 1) ≡ r
low_bit zero h = refl
low_bit (suc zero) h = refl
low_bit (suc (suc r)) h = absurd (omega arith)

bit_of : (y : ℕ) → bit (nat_eq (y % 2) 1) ≡ y % 2
bit_of y = low_bit (y % 2) (omega arith)

set_at : (v : ℕ → Bool) (n x j : ℕ) → bit (set_from v n x (n + j)) ≡ x / 2 ^ j % 2
set_at v n x j = let f : nat_lt (n + j) n ≡ false = grind (arith, nat_tests) in let e : n + j - n ≡ j = omega arith in rw (f, e) (bit_of (x / 2 ^ j))

spelled_fresh : (v : ℕ → Bool) (n x j w : ℕ) → spelled (set_from v n x) (fresh_from (n + j) w) ≡ x / 2 ^ j % 2 ^ w
spelled_fresh v n x j zero = omega arith
spelled_fresh v n x j (suc w) =
    let one : w + 1 ≡ suc w = omega arith in
    let next : n + j + 1 ≡ n + suc j = omega arith in
    let halves : x / 2 ^ suc j ≡ x / 2 ^ j / 2 = ap (λ (k : ℕ). x / k) (double j ∙ omega arith) ∙ sym (div-div-eq-div-mul x (2 ^ j) 2) in
    let whole : x / 2 ^ j % 2 ^ suc w ≡ (x / 2 ^ j / 2 % 2 ^ w) * 2 + x / 2 ^ j % 2 = subst (λ (k : ℕ). x / 2 ^ j % 2 ^ k ≡ (x / 2 ^ j / 2 % 2 ^ w) * 2 + x / 2 ^ j % 2) one (mod-pow-add (x / 2 ^ j) w 1) in
    let rest : spelled (set_from v n x) (fresh_from (n + j + 1) w) ≡ x / 2 ^ j / 2 % 2 ^ w = subst (λ (k : ℕ). spelled (set_from v n x) (fresh_from k w) ≡ x / 2 ^ j / 2 % 2 ^ w) (sym next) (spelled_fresh v n x (suc j) w ∙ ap (λ (k : ℕ). k % 2 ^ w) halves) in
    omega (arith, set_at v n x j, rest, whole)

over_fresh : (n w m : ℕ) → n + w ≤ m → IsOver m (fresh_from n w)
over_fresh n zero m h = tt
over_fresh n (suc w) m h = (omega arith, over_fresh (n + 1) w m (omega arith))

length-fresh : (n w : ℕ) → length (fresh_from n w) ≡ w
length-fresh n zero = refl
length-fresh n (suc w) = omega (arith, length-fresh (n + 1) w)

narrow_on : (b : Bool) (w : ℕ) → b ≡ is_width w → IsSome (when b w) → (when b w ≡ Some w) × (1 ≤ w) × (w ≤ 64)
narrow_on true w e s = let p = and_parts (nat_lt 0 w) (nat_le w 64) (sym e) in (refl, ltb-true 0 w p.0, leb-true w 64 p.1)
narrow_on false w e s = cc

narrow : (w : ℕ) → IsSome (when (is_width w) w) → (when (is_width w) w ≡ Some w) × (1 ≤ w) × (w ≤ 64)
narrow w s = narrow_on (is_width w) w refl s

pub leaf_node : (old new : Cnf) (rows : List (List Literal)) (w i : ℕ) (out : List Literal) → IsSome (width_in (widths rows) (Leaf w i)) → IsFresh old new w out → IsNodeBits old new rows (Leaf w i) out
leaf_node old new rows w i out s g =
    let size : length out ≡ w = ap length g.made ∙ length-fresh old.variables w in
    let p = narrow w s in
    let reach : (v : ℕ → Bool) (x : ℕ) → Meets v old → x < 2 ^ w → Agrees old.variables v (set_from v old.variables x) × Meets (set_from v old.variables x) new × (spelled (set_from v old.variables x) out ≡ x) =
    λ v x m h. (
      set_below v old.variables x,
      rw g.clauses (all_met-agrees old.variables v (set_from v old.variables x) old.clauses (set_below v old.variables x) g.over ∙ m),
      rw g.made (subst (λ (n : ℕ). spelled (set_from v old.variables x) (fresh_from n w) ≡ x / 2 ^ 0 % 2 ^ w) (omega arith) (spelled_fresh v old.variables x 0 w) ∙ (ap (λ (k : ℕ). k % 2 ^ w) (omega arith) ∙ mod-eq_of_lt h)),
    ) in
    record {
      some = rw p.0 (omega (arith, p.1));
      grows = record {
        more = omega (arith, g.variables);
        few = rw p.0 (omega (arith, g.variables, p.1));
        clauses = rw g.clauses (omega (arith, g.variables));
        kept = λ v m. rw (← g.clauses) m;
        free = λ v m. let r = reach v 0 m (pow_pos w) in (_, r.0, r.1);
      };
      inside = rw g.made (over_fresh old.variables w new.variables (omega (arith, g.variables)));
      low = omega (arith, p.1, size);
      high = omega (arith, p.2, size);
      size = p.0 ∙ ap (λ (k : ℕ). let o : Option ℕ = Some k in o) (sym size);
      means = λ v m leaves h. h;
      reach = λ v m leaves h. let r = reach v (slice_index leaves i) m h in (_, r.0, r.1, r.2);
    }
