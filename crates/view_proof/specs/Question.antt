-- Questions: formulas that are met exactly where two nodes of a circuit differ, or where a bit of it has a value.
use Rattle.std.specs.Prelude.{◌≡◌, ◌⊎◌, ℕ, Bool, true, false, List, [], ◌∷◌, ◌++◌, Option, Some, None, length, slice_get, slice_index_or}
use Rattle.dag.specs.declared.node.Node.{Node}
use Rattle.dag.specs.declared.node.Node.TheVariants.{Xor}
use Rattle.cnf_clauses.specs.Literal.{Literal, opposite}
use Rattle.cnf_clauses.specs.Formula.{Cnf}
use Rattle.bit_blaster.specs.NodeBits.{IsBlasted}
use Rattle.dag_view.specs.View.{ViewParts}
use Rattle.word_check.specs.Valuation.{NeverDiffer}
use Rattle.view_proof.specs.declared.ask.Question.{Question}

-- the circuit of a view's question: the view's nodes, and at the end the bits in which its two nodes differ
abbrev pub question_nodes : ViewParts → List Node
question_nodes v = v.nodes ++ Xor (record { 0 = v.first }) (record { 0 = v.second }) ∷ []

-- the formula of this circuit, with its rows of bits, and one clause more: some bit of the last node is 1
pub record AsksApart (v : ViewParts) (f : Cnf) (rows : List (List Literal)) : Type 0 where
  pub plain : Cnf
  pub blasted : IsBlasted plain rows (question_nodes v)
  pub made : f ≡ record plain { clauses = plain.clauses ++ slice_index_or rows (length v.nodes) [] ∷ [] }

-- the formula of no nodes, and the empty clause: it has no models
abbrev pub refuted : Cnf
refuted = record { variables = 0; clauses = [] ∷ [] }

-- where the two nodes of a view never differ, the empty clause holds exactly where they do
pub record AsksNothing (v : ViewParts) (f : Cnf) : Type 0 where
  pub never : NeverDiffer v.nodes v.first v.second
  pub made : f ≡ refuted

-- a formula, with its rows of bits, whose models are the inputs at which the two nodes of a view differ
abbrev pub AsksOf : ViewParts → Cnf → List (List Literal) → Type 0
AsksOf v f rows = AsksApart v f rows ⊎ AsksNothing v f

-- the question of a view: where do its two nodes differ?
abbrev pub IsQuestion : ViewParts → Cnf → Type 0
IsQuestion v f = (rows : List (List Literal)) × AsksOf v f rows

-- the question of a view, where it is still open, or that its two nodes never differ
abbrev pub IsOpenQuestion : ViewParts → Option Question → Type 0
IsOpenQuestion v (Some q) = AsksApart v q.formula q.rows
IsOpenQuestion v None = NeverDiffer v.nodes v.first v.second

-- the literal that is true where another one has this value
abbrev pub having : Bool → Literal → Literal
having true l = l
having false l = opposite l

-- the formula of a circuit, with its rows of bits, and one clause more: the lowest bit of the node at a place has this
-- value
pub record Asks (nodes : List Node) (place : ℕ) (value : Bool) (f : Cnf) (rows : List (List Literal)) : Type 0 where
  pub plain : Cnf
  pub blasted : IsBlasted plain rows nodes
  pub bit : Literal
  pub at : slice_get (slice_index_or rows place []) 0 ≡ Some bit
  pub made : f ≡ record plain { clauses = plain.clauses ++ (having value bit ∷ []) ∷ [] }
