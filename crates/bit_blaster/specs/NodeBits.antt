-- The bits of nodes: a row of literals for each, the lowest bit first.
use Rattle.std.specs.Prelude.{◌≡◌, ℕ, zero, suc, ◌+◌, ◌-◌, ◌*◌, ◌<◌, ◌≤◌, Bool, true, false, List, [], ◌∷◌, length, map, drop, Some, slice_index}
use Rattle.cnf_clauses.specs.Literal.{Literal}
use Rattle.cnf_clauses.specs.Formula.{Cnf}
use Rattle.cnf_clauses.specs.Clause.{IsOver}
use Rattle.bit_blaster.specs.Gates.{Meets, Agrees, AllOver, Grows, HasRoom}
use Rattle.bit_blaster.specs.Spelling.{spelled}
use Rattle.bit_blaster.specs.Circuit.{width_in, charge, charges, units, AreFitting, widths_from, widths_of, values_from, values_of, FitsLeaf, FitsLeaves, most_units}
use Rattle.dag.specs.Node.{node_value}
use Rattle.dag.specs.declared.node.Node.{Node}
use Rattle.dag.specs.declared.node.Node.TheVariants.{Leaf}
use Rattle.bit_blaster.specs.declared.circuits.BlastError.{BlastError}
use Rattle.bit_blaster.specs.declared.circuits.BlastError.TheVariants.{TooMany, Memory}

abbrev pub widths : List (List Literal) → List ℕ
widths rows = map length rows

-- the numbers that rows spell under an assignment
abbrev pub numbers : (ℕ → Bool) → List (List Literal) → List ℕ
numbers v rows = map (spelled v) rows

-- a leaf's bits spell the input's number
abbrev pub IsLeafOf : List ℕ → ℕ → Node → Type 0
IsLeafOf input x (Leaf w i) = x ≡ slice_index input i
IsLeafOf input x n = Unit {0}

-- the leaves among the nodes spell the input
abbrev pub AreLeaves : List ℕ → (ℕ → Bool) → List (List Literal) → List Node → Type 0
AreLeaves input v [] ns = Unit {0}
AreLeaves input v (r ∷ rs) [] = Unit {0}
AreLeaves input v (r ∷ rs) (n ∷ ns) = IsLeafOf input (spelled v r) n × AreLeaves input v rs ns

-- the bits of one node: in each model they spell its value, where the bits of its children spell theirs
pub record IsNodeBits (old new : Cnf) (rows : List (List Literal)) (node : Node) (out : List Literal) : Type 0 where
  pub grows : Grows old new (charge (widths rows) node - 1)
  pub some : 1 ≤ charge (widths rows) node
  pub inside : IsOver new.variables out
  pub low : 1 ≤ length out
  pub high : length out ≤ 64
  pub size : width_in (widths rows) node ≡ Some (length out)
  pub means : (v : ℕ → Bool) → Meets v new → (input : List ℕ) → IsLeafOf input (spelled v out) node → spelled v out ≡ node_value input (widths rows) (numbers v rows) node
  pub reach : (v : ℕ → Bool) → Meets v old → (input : List ℕ) → FitsLeaf input node → (w : ℕ → Bool) × Agrees old.variables v w × Meets w new × IsLeafOf input (spelled w out) node

-- the widths of rows are from 1 to 64
abbrev pub AreNarrow : List (List Literal) → Type 0
AreNarrow [] = Unit {0}
AreNarrow (r ∷ rs) = (1 ≤ length r) × (length r ≤ 64) × AreNarrow rs

-- rows of nodes: their literals are of the formula's variables
pub record AreRows (f : Cnf) (rows : List (List Literal)) : Type 0 where
  pub over : AllOver f.variables rows
  pub narrow : AreNarrow rows

-- no node takes more variables: a divider of 64 bits takes 12,544, and a product 12,288
abbrev pub node_room : ℕ
node_room = 20000

-- all that a node's circuit needs of the formula and the rows before it
pub record IsReady (f : Cnf) (rows : List (List Literal)) : Type 0 where
  pub room : HasRoom f node_room
  pub before : AreRows f rows

-- fresh variables one after another
abbrev pub fresh_from : ℕ → ℕ → List Literal
fresh_from n zero = []
fresh_from n (suc w) = record { var = n; negated = false } ∷ fresh_from (n + 1) w

pub record IsFresh (old new : Cnf) (width : ℕ) (out : List Literal) : Type 0 where
  pub variables : new.variables ≡ old.variables + width
  pub clauses : new.clauses ≡ old.clauses
  pub made : out ≡ fresh_from old.variables width
  pub over : AllOver old.variables old.clauses

-- a formula and rows stand for a circuit: for each input there is a model in which each node's bits spell its value,
-- and in each model they do, at an input that its leaves' bits spell
pub record IsBlasted (f : Cnf) (rows : List (List Literal)) (nodes : List Node) : Type 0 where
  pub reached : (input : List ℕ) → FitsLeaves input nodes → (v : ℕ → Bool) × Meets v f × AreLeaves input v rows nodes × (numbers v rows ≡ values_of input nodes)
  pub sound : (v : ℕ → Bool) → Meets v f → (input : List ℕ) → AreLeaves input v rows nodes → numbers v rows ≡ values_of input nodes
  pub widths : widths rows ≡ widths_of nodes
  pub size : length rows ≡ length nodes
  pub inside : AllOver f.variables rows
  pub narrow : AreNarrow rows
  pub variables : f.variables ≤ units nodes
  pub clauses : length f.clauses ≤ 8 * f.variables

-- why a circuit isn't blasted
abbrev pub BlastFails : List Node → BlastError → Type 0
BlastFails nodes (TooMany limit) = (limit ≡ most_units) × (most_units < units nodes)
BlastFails nodes Memory = Unit {0}

-- the same as IsBlasted, as far as a loop has come
pub record IsBlastedTo (f : Cnf) (rows : List (List Literal)) (nodes left : List Node) : Type 0 where
  pub at : drop (length rows) nodes ≡ left
  pub some : length rows ≤ length nodes
  pub over : AllOver f.variables rows
  pub narrow : AreNarrow rows
  pub clauses : length f.clauses ≤ 8 * f.variables
  pub begun : 0 < f.variables
  pub on : (v : ℕ → Bool) → Meets v f → v 0 ≡ true
  pub charged : f.variables + length rows + charges (widths rows) left ≤ 1 + units nodes
  pub fits : AreFitting (widths rows) left
  pub sizes : widths_from (widths rows) left ≡ widths_of nodes
  pub sound : (v : ℕ → Bool) → Meets v f → (input : List ℕ) → AreLeaves input v rows nodes → values_from input (widths rows) (numbers v rows) left ≡ values_of input nodes
  pub free : (input : List ℕ) → FitsLeaves input nodes → (v : ℕ → Bool) × Meets v f × AreLeaves input v rows nodes
