-- The loop over the nodes.
use Rattle.std.proofs.Common.{◌≡◌, ℕ, zero, suc, ◌+◌, ◌<◌, ◌≤◌, Bool, true, false, ◌&&◌, ◌||◌, List, [], ◌∷◌, ◌++◌, length, refl, sym, ◌∙◌, ap, subst, arith, drop, Option}
use Rattle.std.specs.Prelude.{unwrap_or}
use Rattle.std.proofs.lemmas.List.{map-append, length_push}
use Rattle.cnf_clauses.specs.Literal.{Literal}
use Rattle.cnf_clauses.specs.Formula.{Cnf}
use Rattle.cnf_clauses.specs.Clause.{all_met}
use Rattle.bit_blaster.proofs.Over.{AllOver-more, AllOver-push}
use Rattle.bit_blaster.specs.Gates.{Agrees, AllOver}
use Rattle.bit_blaster.specs.Spelling.{spelled}
use Rattle.bit_blaster.specs.Numbers.{number}
use Rattle.bit_blaster.specs.Circuit.{own_width, charges, FitsLeaf, FitsLeaves, AreFitting, widths_from, values_from}
use Rattle.bit_blaster.specs.NodeBits.{widths, IsNodeBits, IsLeafOf, AreNarrow, AreLeaves, IsBlasted, IsBlastedTo, fresh_from}
use Rattle.bit_blaster.proofs.Definitions.{bits-agrees}
use Rattle.dag.specs.declared.node.Node.{Node}

pub fresh_more : (n w : ℕ) → fresh_from n w ++ record { var = n + w; negated = false } ∷ [] ≡ fresh_from n (w + 1)
fresh_more n zero = let at : ℕ → List Literal = λ (k : ℕ). record { var = k; negated = false } ∷ [] in let e : n + 0 ≡ n = omega arith in ap at e
fresh_more n (suc w) =
    let at : ℕ → List Literal = λ (k : ℕ). fresh_from (n + 1) w ++ record { var = k; negated = false } ∷ [] in
    let e : n + suc w ≡ n + 1 + w = omega arith in
    let f : w + 1 ≡ suc w = omega arith in
    let g : suc (suc w) ≡ suc w + 1 = omega arith in
    let h : fresh_from (n + 1) w ++ record { var = n + suc w; negated = false } ∷ [] ≡ fresh_from (n + 1) (suc w) = ap at e ∙ (fresh_more (n + 1) w ∙ ap (fresh_from (n + 1)) f) in
    ap (λ (ls : List Literal). record { var = n; negated = false } ∷ ls) h ∙ ap (fresh_from n) g

drop_next : (k : ℕ) (xs : List Node) (n : Node) (left : List Node) → drop k xs ≡ n ∷ left → drop (suc k) xs ≡ left
drop_next zero [] n left e = cc
drop_next zero (x ∷ xs) n left e = cc
drop_next (suc k) [] n left e = cc
drop_next (suc k) (x ∷ xs) n left e = drop_next k xs n left e

drop_within : (k : ℕ) (xs : List Node) (n : Node) (left : List Node) → drop k xs ≡ n ∷ left → k < length xs
drop_within zero [] n left e = cc
drop_within zero (x ∷ xs) n left e = omega arith
drop_within (suc k) [] n left e = cc
drop_within (suc k) (x ∷ xs) n left e = omega (arith, drop_within k xs n left e)

all_dropped : (k : ℕ) (xs : List Node) → drop k xs ≡ [] → k ≤ length xs → k ≡ length xs
all_dropped zero [] e h = refl
all_dropped zero (x ∷ xs) e h = cc
all_dropped (suc k) [] e h = absurd (omega arith)
all_dropped (suc k) (x ∷ xs) e h = ap suc (all_dropped k xs e (omega (arith, h)))

fits_at : (leaves : List ℕ) (k : ℕ) (xs : List Node) (n : Node) (left : List Node) → drop k xs ≡ n ∷ left → FitsLeaves leaves xs → FitsLeaf leaves n
fits_at leaves zero [] n left e h = cc
fits_at leaves zero (x ∷ xs) n left e h = let f : x ≡ n = cc in subst (FitsLeaf leaves) f h.0
fits_at leaves (suc k) [] n left e h = cc
fits_at leaves (suc k) (x ∷ xs) n left e h = fits_at leaves k xs n left e h.1

leaves_split : (leaves : List ℕ) (v : ℕ → Bool) (rows : List (List Literal)) (nodes : List Node) (n : Node) (left : List Node) (out : List Literal) → drop (length rows) nodes ≡ n ∷ left
    → AreLeaves leaves v (rows ++ out ∷ []) nodes → AreLeaves leaves v rows nodes × IsLeafOf leaves (spelled v out) n
leaves_split leaves v [] [] n left out e h = cc
leaves_split leaves v [] (m ∷ ms) n left out e h = let f : m ≡ n = cc in (tt, subst (IsLeafOf leaves (spelled v out)) f h.0)
leaves_split leaves v (r ∷ rs) [] n left out e h = cc
leaves_split leaves v (r ∷ rs) (m ∷ ms) n left out e h = let p = leaves_split leaves v rs ms n left out e h.1 in ((h.0, p.0), p.1)

leaves_join : (leaves : List ℕ) (k : ℕ) (v w : ℕ → Bool) (rows : List (List Literal)) (nodes : List Node) (n : Node) (left : List Node) (out : List Literal) → drop (length rows) nodes ≡ n ∷ left
    → Agrees k v w → AllOver k rows → AreLeaves leaves v rows nodes → IsLeafOf leaves (spelled w out) n → AreLeaves leaves w (rows ++ out ∷ []) nodes
leaves_join leaves k v w [] [] n left out e a o h i = cc
leaves_join leaves k v w [] (m ∷ ms) n left out e a o h i = let f : n ≡ m = cc in (subst (IsLeafOf leaves (spelled w out)) f i, tt)
leaves_join leaves k v w (r ∷ rs) [] n left out e a o h i = cc
leaves_join leaves k v w (r ∷ rs) (m ∷ ms) n left out e a o h i =
    (subst (λ (bs : List Bool). IsLeafOf leaves (number bs) m) (sym (bits-agrees k v w r a o.0)) h.0, leaves_join leaves k v w rs ms n left out e a o.1 h.1 i)

narrow_push : (rows : List (List Literal)) (out : List Literal) → AreNarrow rows → 1 ≤ length out → length out ≤ 64 → AreNarrow (rows ++ out ∷ [])
narrow_push [] out o p q = (p, q, tt)
narrow_push (r ∷ rs) out o p q = (o.0, o.1, narrow_push rs out o.2 p q)

pub blasted_more : (f g : Cnf) (rows : List (List Literal)) (nodes left : List Node) (n : Node) (out : List Literal) → IsBlastedTo f rows nodes (n ∷ left) → IsNodeBits f g rows n out → IsBlastedTo g (rows ++ out ∷ []) nodes left
unfolding values_from widths_from charges
blasted_more f g rows nodes left n out b s =
    let wide : own_width (widths rows) n ≡ length out = ap (λ (o : Option ℕ). unwrap_or o 0) s.size in
    let longer : length (rows ++ out ∷ []) ≡ suc (length rows) = omega (arith, length_push rows out) in
    let ws : widths (rows ++ out ∷ []) ≡ widths rows ++ own_width (widths rows) n ∷ [] = map-append length rows (out ∷ []) ∙ ap (λ (k : ℕ). widths rows ++ k ∷ []) (sym wide) in
    record {
      at = ap (λ (k : ℕ). drop k nodes) longer ∙ drop_next (length rows) nodes n left b.at;
      some = omega (arith, longer, drop_within (length rows) nodes n left b.at);
      over = AllOver-push g.variables rows out (AllOver-more f.variables g.variables rows s.grows.more b.over) s.inside;
      narrow = narrow_push rows out b.narrow s.low s.high;
      clauses = omega (arith, s.grows.clauses, s.grows.more, b.clauses);
      begun = omega (arith, b.begun, s.grows.more);
      on = λ v m. b.on v (s.grows.kept v m);
      charged = rw ws (omega (arith, longer, b.charged, s.grows.few, s.some));
      fits = rw ws b.fits.1;
      sizes = rw ws b.sizes;
      sound = λ v m input l.
          let p = leaves_split input v rows nodes n left out b.at l in
          rw (ws, map-append (spelled v) rows (out ∷ []), s.means v m input p.1) (b.sound v (s.grows.kept v m) input p.0);
      free = λ input h.
          let x = b.free input h in
          let y = s.reach x.0 x.1 input (fits_at input (length rows) nodes n left b.at h) in
          (y.0, y.2, leaves_join input f.variables x.0 y.0 rows nodes n left out b.at y.1 b.over x.2 y.3);
    }

-- variable 0 alone, and the clause that it is true
pub blasted_none : (f : Cnf) (rows : List (List Literal)) (nodes : List Node) → f.variables ≡ 1 → f.clauses ≡ (record { var = 0; negated = false } ∷ []) ∷ [] → rows ≡ [] → AreFitting [] nodes → IsBlastedTo f rows nodes nodes
unfolding all_met
blasted_none f rows nodes z e r h = rw r record {
  at = refl;
  some = omega arith;
  over = tt;
  narrow = tt;
  clauses = rw e (omega (arith, z));
  begun = omega (arith, z);
  on = λ v m. alone (v 0) (rw e at m);
  charged = omega (arith, z);
  fits = h;
  sizes = refl;
  sound = λ v m input l. refl;
  free = λ input h. ((λ k. true), rw e refl, tt);
}
  where
    alone : (b : Bool) → ((b || false) && true) ≡ true → b ≡ true
    alone true m = refl
    alone false m = cc

pub blasted_all : (f : Cnf) (rows : List (List Literal)) (nodes left : List Node) → length left ≡ 0 → 1 ≤ length nodes → IsBlastedTo f rows nodes left → IsBlasted f rows nodes
unfolding values_from widths_from charges
blasted_all f rows nodes (n ∷ left) z some b = absurd (omega arith)
blasted_all f rows nodes [] z some b =
    let size : length rows ≡ length nodes = all_dropped (length rows) nodes b.at b.some in
    record {
      reached = λ input h. let x = b.free input h in (x.0, x.1, x.2, b.sound x.0 x.1 input x.2);
      sound = b.sound;
      widths = b.sizes;
      size = size;
      inside = b.over;
      narrow = b.narrow;
      variables = omega (arith, b.charged, size, some);
      clauses = b.clauses;
    }

-- no nodes, no variables
pub blasted_nothing : (f : Cnf) (rows : List (List Literal)) (nodes : List Node) → f.variables ≡ 0 → f.clauses ≡ [] → rows ≡ [] → length nodes ≡ 0 → IsBlasted f rows nodes
unfolding all_met values_from widths_from charges
blasted_nothing f rows (n ∷ ns) z e r h = absurd (omega arith)
blasted_nothing f rows [] z e r h = rw r record {
  reached = λ input h. ((λ k. false), rw e refl, tt, refl);
  sound = λ v m input l. refl;
  widths = refl;
  size = refl;
  inside = tt;
  narrow = tt;
  variables = omega (arith, z);
  clauses = rw e (omega arith);
}
