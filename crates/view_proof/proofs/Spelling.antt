-- The input that a model spells fits the leaves, and is the one at which the bits are the values.
use Rattle.std.proofs.Common.{◌≡◌, ℕ, zero, suc, ◌<◌, ◌^◌, Bool, true, false, List, [], ◌∷◌, ◌++◌, length, get_or, refl, sym, ◌∙◌, ap, subst, arith, Option, Some, nat_eq, inl, inr}
use Rattle.std.specs.Prelude.{slice_get, slice_index}
use Rattle.std.proofs.lemmas.Bool.{eqb-true, eq-eqb}
use Rattle.std.proofs.lemmas.Option.{slice_get_within, slice_get-get_or}
use Rattle.cnf_clauses.specs.Literal.{Literal}
use Rattle.cnf_clauses.specs.Formula.{Cnf}
use Rattle.clause_log.specs.Line.{Line}
use Rattle.clause_log.specs.Log.{EachFollows, Refutes, all_clauses, IsSpentLog}
use Rattle.bit_blaster.specs.Gates.{Meets}
use Rattle.bit_blaster.specs.Spelling.{spelled}
use Rattle.bit_blaster.specs.NodeBits.{IsLeafOf, AreLeaves, widths}
use Rattle.bit_blaster.specs.Circuit.{HaveWidths, FitsLeaf, FitsLeaves, values_of}
use Rattle.bit_blaster.proofs.Arithmetic.{number_below}
use Rattle.bit_blaster.proofs.Growing.{length-bits}
use Rattle.bit_blaster.specs.Gates.{bits}
use Rattle.dag.specs.Node.{is_width}
use Rattle.dag.specs.declared.node.Node.{Node}
use Rattle.dag.specs.declared.node.Node.TheVariants.{Leaf}
use Rattle.dag.proofs.Lists.{snoc_cases}
use Rattle.dag.proofs.Inverting.{when_some}
use Rattle.dag_view.specs.View.{ViewParts, IsView, IsWhole}
use Rattle.view_proof.specs.Question.{Asks, AsksApart, question_nodes, refuted}
use Rattle.clause_log.specs.Log.{ClauseLog}
use Rattle.clause_search.specs.Found.{IsRefutation}
use Rattle.view_proof.specs.Checked.{AreEqualEnds, IsChecked, IsSpentProof}
use Rattle.view_proof.specs.Reading.{IsRead, AreSingle}
use Rattle.view_proof.specs.Answer.{SetsApart, IsAnswer}
use Rattle.view_proof.specs.declared.answer.Answer.{Answer}
use Rattle.view_proof.specs.declared.answer.Answer.TheVariants.{Model, Refuted, Spent}
use Rattle.view_proof.proofs.Asking.{question_widths, question_circuit, row_width, widths_are, apart_sound, apart_reached, asks_sound, asks_reached, no_model}

pub fits_from : (input : List ℕ) (ns : List Node) → ((k w i : ℕ) → slice_get ns k ≡ Some (Leaf w i) → slice_index input i < 2 ^ w) → FitsLeaves input ns
fits_from input [] h = tt
fits_from input (n ∷ ns) h = (leaf n (λ w i e. h 0 w i (ap (λ (m : Node). let o : Option Node = Some m in o) e)), fits_from input ns (λ k w i at. h (suc k) w i at))
  where
    leaf : (n : Node) → ((w i : ℕ) → n ≡ Leaf w i → slice_index input i < 2 ^ w) → FitsLeaf input n
    leaf (Leaf w i) h = h w i refl
    leaf n h = tt

pub fits_place : (input : List ℕ) (ns : List Node) (k w i : ℕ) → FitsLeaves input ns → slice_get ns k ≡ Some (Leaf w i) → slice_index input i < 2 ^ w
fits_place input [] k w i h at = cc
fits_place input (n ∷ ns) zero w i h at = let e : n ≡ Leaf w i = cc in let f : FitsLeaf input (Leaf w i) = subst (FitsLeaf input) e h.0 in f
fits_place input (n ∷ ns) (suc k) w i h at = fits_place input ns k w i h.1 at

leaves_from : (input : List ℕ) (v : ℕ → Bool) (rows : List (List Literal)) (ns : List Node) → ((k w i : ℕ) → slice_get ns k ≡ Some (Leaf w i) → slice_index input i ≡ spelled v (get_or rows k [])) → AreLeaves input v rows ns
leaves_from input v [] ns h = tt
leaves_from input v (r ∷ rs) [] h = tt
leaves_from input v (r ∷ rs) (n ∷ ns) h = (leaf n (λ w i e. h 0 w i (ap (λ (m : Node). let o : Option Node = Some m in o) e)), leaves_from input v rs ns (λ k w i at. h (suc k) w i at))
  where
    leaf : (n : Node) → ((w i : ℕ) → n ≡ Leaf w i → slice_index input i ≡ spelled v r) → IsLeafOf input (spelled v r) n
    leaf (Leaf w i) h = sym (h w i refl)
    leaf n h = tt

leaf_row : (nodes : List Node) (ws : List ℕ) (rows : List (List Literal)) (k w i : ℕ) → HaveWidths nodes ws → widths rows ≡ ws → slice_get nodes k ≡ Some (Leaf w i) → length (get_or rows k []) ≡ w
leaf_row nodes ws rows k w i h e at =
    let lt : k < length ws = omega (arith, slice_get_within nodes k _ at, h.size) in
    let wide = (when_some (is_width w) w (slice_index ws k) (h.each k (Leaf w i) at)).1 in
    (row_width rows ws k (slice_index ws k) e (slice_get-get_or ws k 0 lt)).0 ∙ sym wide

-- the input that a model spells
record Spells (v : ℕ → Bool) (rows : List (List Literal)) (nodes : List Node) (input : List ℕ) : Type 0 where
  leaves : AreLeaves input v rows nodes
  fits : FitsLeaves input nodes

spells : (v : ℕ → Bool) (rows : List (List Literal)) (nodes : List Node) (ws : List ℕ) (input : List ℕ) → HaveWidths nodes ws → widths rows ≡ ws → ((k w i : ℕ) → slice_get nodes k ≡ Some (Leaf w i) → slice_index input i ≡ spelled v (get_or rows k [])) → Spells v rows nodes input
spells v rows nodes ws input h e read = record {
  leaves = leaves_from input v rows nodes read;
  fits = fits_from input nodes (λ k w i at.
      let below : spelled v (get_or rows k []) < 2 ^ length (bits v (get_or rows k [])) = number_below (bits v (get_or rows k [])) in
      let size : length (bits v (get_or rows k [])) ≡ w = length-bits v (get_or rows k []) ∙ leaf_row nodes ws rows k w i h e at in
      subst (λ (x : ℕ). x < 2 ^ w) (sym (read k w i at)) (subst (λ (x : ℕ). spelled v (get_or rows k []) < 2 ^ x) size below));
}

question_leaf : (v : ViewParts) (k w i : ℕ) → slice_get (question_nodes v) k ≡ Some (Leaf w i) → slice_get v.nodes k ≡ Some (Leaf w i)
question_leaf v k w i at = elim (snoc_cases v.nodes _ k (Leaf w i) at) [ inl p ↦ p.1 | inr p ↦ cc ]

front_fits : (input : List ℕ) (ns : List Node) (n : Node) → FitsLeaves input (ns ++ n ∷ []) → FitsLeaves input ns
front_fits input [] n h = tt
front_fits input (m ∷ ms) n h = (h.0, front_fits input ms n h.1)

-- a model of a view's question is an input at which its two nodes differ
pub model_apart : (v : ViewParts) (f : Cnf) (rows : List (List Literal)) (a : ℕ → Bool) (input : List ℕ) → IsView v → AsksApart v f rows → Meets a f → IsRead a rows v.nodes (length v.nodes) v.leaves input → SetsApart v input
model_apart v f rows a input is q m r =
    let s = spells a rows (question_nodes v) (v.widths ++ slice_index v.widths v.first ∷ []) input (question_widths v is) (q.blasted.widths ∙ (question_circuit v is).1) (λ k w i at. let p = question_leaf v k w i at in r.leaf k w i (slice_get_within v.nodes k _ p) p) in
    record {
      size = r.size;
      fits = front_fits input v.nodes _ s.fits;
      apart = apart_sound v f rows a input q m s.leaves;
    }

-- where a view's question has no model its two nodes are equal
pub refuted_equal : (v : ViewParts) (f : Cnf) (rows : List (List Literal)) (ls : List Line) → AsksApart v f rows → EachFollows f.clauses ls → Refutes (all_clauses f.clauses ls) → AreEqualEnds v
refuted_equal v f rows ls q follows empty input fits = tested (nat_eq (slice_index (values_of input v.nodes) v.first) (slice_index (values_of input v.nodes) v.second)) refl
  where
    other : (b : Bool) → b ≡ true → b ≡ false → ⊥
    other true p q = cc
    other false p q = cc

    tested : (b : Bool) → nat_eq (slice_index (values_of input v.nodes) v.first) (slice_index (values_of input v.nodes) v.second) ≡ b → slice_index (values_of input v.nodes) v.first ≡ slice_index (values_of input v.nodes) v.second
    tested true e = eqb-true _ _ e
    tested false e =
        let w = apart_reached v f rows input q fits (λ same. other _ (eq-eqb _ _ same) e) in
        absurd (no_model w.0 f ls follows empty w.1)

-- a model of the question of a view's first node, and the input that it spells
pub model_reaches : (v : ViewParts) (f : Cnf) (rows : List (List Literal)) (a : ℕ → Bool) (input : List ℕ) → IsView v → slice_get v.widths v.first ≡ Some 1 → Asks v.nodes v.first true f rows → Meets a f → IsRead a rows v.nodes (length v.nodes) v.leaves input
    → FitsLeaves input v.nodes × (slice_index (values_of input v.nodes) v.first ≡ 1)
model_reaches v f rows a input is one q m r =
    let e : widths rows ≡ v.widths = q.blasted.widths ∙ widths_are v is in
    let s = spells a rows v.nodes v.widths input is.widths e (λ k w i at. r.leaf k w i (slice_get_within v.nodes k _ at) at) in
    let row = row_width rows v.widths v.first 1 e one in
    (s.fits, asks_sound v.nodes v.first true f rows a input q row.0 row.1 m s.leaves)

-- where this question has no model the node is 0 wherever it is 0 or 1
pub refuted_never : (v : ViewParts) (f : Cnf) (rows : List (List Literal)) (ls : List Line) (input : List ℕ) → IsView v → slice_get v.widths v.first ≡ Some 1 → Asks v.nodes v.first true f rows → EachFollows f.clauses ls → Refutes (all_clauses f.clauses ls) → FitsLeaves input v.nodes
    → slice_index (values_of input v.nodes) v.first ≡ 1 → ⊥
refuted_never v f rows ls input is one q follows empty fits at =
    let e : widths rows ≡ v.widths = q.blasted.widths ∙ widths_are v is in
    let row = row_width rows v.widths v.first 1 e one in
    let w = asks_reached v.nodes v.first true f rows input q row.0 row.1 fits at in
    no_model w.0 f ls follows empty w.1

pub view_single : (v : ViewParts) → IsView v → IsWhole v → AreSingle v.nodes v.leaves
view_single v is whole = record { leaf_in = whole; single = is.single }

-- a refutation of a view's question makes a checked pair
pub checked_from : (v : ViewParts) (f : Cnf) (rows : List (List Literal)) (lines : ℕ) (log : ClauseLog) → AsksApart v f rows → log.formula ≡ f → IsRefutation lines log → IsChecked (record { view = v; log = log })
checked_from v f rows lines log q same r =
    let p : AsksApart v log.formula rows = subst (λ (g : Cnf). AsksApart v g rows) (sym same) q in
    record { equal = refuted_equal v log.formula rows log.lines p r.follows r.refutes; question = (rows, inl p); follows = r.follows; new = r.new; refutes = r.refutes }

-- nodes that never differ are a checked pair at once
pub checked_at_once : (v : ViewParts) (log : ClauseLog) → AreEqualEnds v → log ≡ record { formula = refuted; lines = [] } → IsChecked (record { view = v; log = log })
checked_at_once v log never is = subst (λ (l : ClauseLog). IsChecked (record { view = v; log = l })) (sym is) (record {
  equal = never;
  question = ([], inr (record { never = never; made = refl }));
  follows = λ j d lt. absurd (omega (arith, lt));
  new = λ j d lt. absurd (omega (arith, lt));
  refutes = (0, omega arith, refl);
})

-- what is answered of a model, with the nodes and leaves that were given
pub is_model : (f : Cnf) (rows : List (List Literal)) (ns nodes : List Node) (leaves count lines : ℕ) (answer : Answer) (input : List ℕ) → answer ≡ Model input → ns ≡ nodes → leaves ≡ count → IsAnswer f rows ns leaves lines answer → (a : ℕ → Bool) × Meets a f × IsRead a rows nodes (length nodes) count input
is_model f rows ns nodes leaves count lines answer input is same many h =
    subst (λ (n : ℕ). (a : ℕ → Bool) × Meets a f × IsRead a rows nodes (length nodes) n input) many
    (subst (λ (ms : List Node). (a : ℕ → Bool) × Meets a f × IsRead a rows ms (length ms) leaves input) same (subst (λ (x : Answer). IsAnswer f rows ns leaves lines x) is h))

pub is_refuted : (f : Cnf) (rows : List (List Literal)) (ns : List Node) (leaves lines : ℕ) (answer : Answer) (log : ClauseLog) → answer ≡ Refuted log → IsAnswer f rows ns leaves lines answer → (log.formula ≡ f) × IsRefutation lines log
is_refuted f rows ns leaves lines answer log is h = subst (λ (x : Answer). IsAnswer f rows ns leaves lines x) is h

pub is_spent : (f : Cnf) (rows : List (List Literal)) (ns : List Node) (leaves lines : ℕ) (answer : Answer) (log : ClauseLog) → answer ≡ Spent log → IsAnswer f rows ns leaves lines answer → (log.formula ≡ f) × IsSpentLog lines log
is_spent f rows ns leaves lines answer log is h = subst (λ (x : Answer). IsAnswer f rows ns leaves lines x) is h

-- a spent log of a view's question makes a spent proof
pub spent_from : (v : ViewParts) (f : Cnf) (rows : List (List Literal)) (lines : ℕ) (log : ClauseLog) → AsksApart v f rows → log.formula ≡ f → IsSpentLog lines log → IsSpentProof (record { view = v; log = log })
spent_from v f rows lines log q same spent = record {
  question = (rows, inl (subst (λ (g : Cnf). AsksApart v g rows) (sym same) q));
  spent = subst (λ (n : ℕ). IsSpentLog n log) (sym spent.lines) spent;
}
