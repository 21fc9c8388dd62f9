-- The bits of each kind of node.
use Rattle.std.proofs.Common.{◌≡◌, ℕ, zero, suc, ◌+◌, ◌≤◌, Bool, List, [], ◌∷◌, length, refl, sym, ◌∙◌, ap, arith, get_or, Option, Some}
use Rattle.std.specs.Prelude.{slice_get, IsSome}
use Rattle.std.proofs.Math.ListN.{get_or-map}
use Rattle.cnf_clauses.specs.Literal.{Literal}
use Rattle.cnf_clauses.specs.Formula.{Cnf}
use Rattle.cnf_clauses.specs.Clause.{IsOver}
use Rattle.bit_blaster.specs.Gates.{AllOver}
use Rattle.bit_blaster.specs.Spelling.{spelled, IsSpelled}
use Rattle.bit_blaster.specs.Circuit.{width_in, charge}
use Rattle.bit_blaster.specs.NodeBits.{widths, numbers, IsNodeBits, IsLeafOf, AreNarrow}
use Rattle.dag.specs.Node.{node_value}
use Rattle.dag.specs.declared.node.Node.{Node}

pub over_row : (n : ℕ) (rows : List (List Literal)) (k : ℕ) → AllOver n rows → IsOver n (get_or rows k [])
over_row n [] k o = tt
over_row n (r ∷ rs) zero o = o.0
over_row n (r ∷ rs) (suc k) o = over_row n rs k o.1

pub low_row : (rows : List (List Literal)) (k : ℕ) → IsSome (slice_get (widths rows) k) → AreNarrow rows → 1 ≤ length (get_or rows k [])
low_row [] k s o = cc
low_row (r ∷ rs) zero s o = o.0
low_row (r ∷ rs) (suc k) s o = low_row rs k s o.2

pub high_row : (rows : List (List Literal)) (k : ℕ) → AreNarrow rows → length (get_or rows k []) ≤ 64
high_row [] k o = omega arith
high_row (r ∷ rs) zero o = o.1
high_row (r ∷ rs) (suc k) o = high_row rs k o.2

pub there_row : (rows : List (List Literal)) (k : ℕ) → IsSome (slice_get (widths rows) k) → slice_get (widths rows) k ≡ Some (length (get_or rows k []))
there_row [] k s = cc
there_row (r ∷ rs) zero s = refl
there_row (r ∷ rs) (suc k) s = there_row rs k s

pub at_widths : (rows : List (List Literal)) (k : ℕ) → get_or (widths rows) k 0 ≡ length (get_or rows k [])
at_widths rows k = get_or-map length rows k []

pub at_numbers : (v : ℕ → Bool) (rows : List (List Literal)) (k : ℕ) → get_or (numbers v rows) k 0 ≡ spelled v (get_or rows k [])
at_numbers v rows k = get_or-map (spelled v) rows k []

pub node_from : (old new : Cnf) (rows : List (List Literal)) (node : Node) (out : List Literal) (cost width : ℕ) (value : (ℕ → Bool) → ℕ) → IsSpelled old new cost width out value
    → cost + 1 ≤ charge (widths rows) node → width_in (widths rows) node ≡ Some width → 1 ≤ width → width ≤ 64
    → ((v : ℕ → Bool) (leaves : List ℕ) → value v ≡ node_value leaves (widths rows) (numbers v rows) node) → ((leaves : List ℕ) (x : ℕ) → IsLeafOf leaves x node) → IsNodeBits old new rows node out
node_from old new rows node out cost width value s few at low high same free = record {
  grows = record { more = s.grows.more; few = omega (arith, s.grows.few); clauses = s.grows.clauses; kept = s.grows.kept; free = s.grows.free };
  some = omega arith;
  inside = s.inside;
  low = omega (arith, s.size);
  high = omega (arith, s.size);
  size = at ∙ ap (λ (k : ℕ). let o : Option ℕ = Some k in o) (sym s.size);
  means = λ v m leaves h. s.means v m ∙ same v leaves;
  reach = λ v m leaves h. let x = s.grows.free v m in (x.0, x.1, x.2, free leaves (spelled x.0 out));
}
