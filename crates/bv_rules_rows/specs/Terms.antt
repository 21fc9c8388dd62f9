-- Nodes in prefix notation.
use Rattle.std.specs.Prelude.{◌≡◌, ◌≢◌, ◌⊎◌, ◌==◌, ◌<◌, ℕ, List, [], ◌∷◌, ◌++◌, Some, Ok, IsSome, length, map, take, slice_get, slice_index_or, codes}
use Rattle.std.specs.Fmt.{decimal}
use Rattle.std.specs.List.{flat_map, position_or_len, before_first, after_first}
use Rattle.std.specs.Str.Parse.{ParsesUnsigned}
use Rattle.dag.specs.declared.node.NodeId.{NodeId}
use Rattle.dag.specs.declared.node.Node.{Node}
use Rattle.dag.specs.declared.node.Node.TheVariants.{Leaf, Const, Not, And, Or, Xor, Neg, Plus, Times, Eq, Ult, Slt, Ite, Slice, Cat, Sext, Shl, Shr, Udiv, Urem}
use Rattle.dag.specs.Node.{children}
use Rattle.bv_rules.specs.declared.plan.PlanId.{PlanId}
use Rattle.bv_rules.specs.declared.plan.PlanId.TheVariants.{Old, New}
use Rattle.bv_rules.specs.declared.plan.PlanNode.{PlanNode}
use Rattle.bv_rules.specs.declared.plan.Plan.{Plan}
use Rattle.bv_rules.specs.Plans.{Keeps, steps}
use Rattle.dag.specs.Graph.{Graph, fits_width}

-- the name of a node's kind; a leaf and a constant have none
abbrev pub name : Node → List ℕ
name (Leaf w i) = []
name (Const w v) = []
name (Not a) = codes "not"
name (And a b) = codes "and"
name (Or a b) = codes "or"
name (Xor a b) = codes "xor"
name (Neg a) = codes "neg"
name (Plus a b) = codes "plus"
name (Times a b) = codes "times"
name (Eq a b) = codes "eq"
name (Ult a b) = codes "ult"
name (Slt a b) = codes "slt"
name (Ite a b c) = codes "ite"
name (Slice h l a) = codes "slice"
name (Cat a b) = codes "cat"
name (Sext w a) = codes "sext"
name (Shl a b) = codes "shl"
name (Shr a b) = codes "shr"
name (Udiv a b) = codes "udiv"
name (Urem a b) = codes "urem"

-- the numbers that stand after it
abbrev pub numbers : Node → List ℕ
numbers (Slice h l a) = h ∷ l ∷ []
numbers (Sext w a) = w ∷ []
numbers n = []

-- the names of the leaves, in their order
abbrev pub leaf_names : List (List ℕ)
leaf_names = codes "x8" ∷ codes "y8" ∷ codes "z8" ∷ codes "x16" ∷ codes "y16" ∷ codes "z16" ∷ codes "x32" ∷ codes "y32" ∷ codes "z32" ∷ codes "x64" ∷ codes "y64" ∷ codes "z64" ∷ []

-- the leaf that a word names, over a shape whose leaves have these widths
abbrev pub IsLeaf : List ℕ → List ℕ → Node → Type 0
IsLeaf widths word (Leaf w i) = (slice_get leaf_names i ≡ Some word) × (slice_get widths i ≡ Some w)
IsLeaf widths word n = ⊥

-- a text that is read as a number of at most so many bits
abbrev pub IsNumber : ℕ → List ℕ → ℕ → Type 0
IsNumber bits text n = ParsesUnsigned {E = Unit {0}} bits 10 text (Ok n)

-- the constant that a word gives: its value before the first colon, and its width after it
abbrev pub IsConstant : List ℕ → Node → Type 0
IsConstant word (Const w v) = (position_or_len (λ c. c == 58) word < length word) × IsNumber 64 (before_first (λ c. c == 58) word) v × IsNumber 32 (after_first (λ c. c == 58) word) w
IsConstant word n = ⊥

-- the leaf or the constant that a word stands for
abbrev pub IsNamed : List ℕ → List ℕ → Node → Type 0
IsNamed widths word n = IsLeaf widths word n ⊎ IsConstant word n

-- a node that has a name, with these numbers and children
pub record IsOperation (word : List ℕ) (counts : List ℕ) (ids : List NodeId) (n : Node) : Type 0 where
  pub is_named : name n ≢ []
  pub word_is : name n ≡ word
  pub numbers_are : numbers n ≡ counts
  pub children_are : take (children n).count (children n).ids ≡ ids

-- a name with the numbers after it
abbrev pub head : Node → List ℕ
head (Slice h l a) = codes "slice " ++ (decimal h ++ (codes " " ++ decimal l))
head (Sext w a) = codes "sext " ++ decimal w
head n = name n

-- a head with texts after it
abbrev pub with_children : List ℕ → List (List ℕ) → List ℕ
with_children text texts = text ++ flat_map (λ t. 32 ∷ t) texts

-- the term of a node whose children have these terms
abbrev pub term : Node → List (List ℕ) → List ℕ
term (Leaf w i) texts = slice_index_or leaf_names i []
term (Const w v) texts = decimal v ++ (codes ":" ++ decimal w)
term n texts = codes "(" ++ (with_children (head n) texts ++ codes ")")

-- the text at a place, or ? from the last on
abbrev pub text_at : List (List ℕ) → ℕ → List ℕ
text_at texts place = slice_index_or texts place (codes "?")

-- the text that an id of a plan stands for, from those of the graph's nodes and of the plan's
abbrev pub id_text : List (List ℕ) → List (List ℕ) → PlanId → List ℕ
id_text texts made (Old id) = text_at texts id.0
id_text texts made (New place) = text_at made place

-- the texts of a plan's node's children
abbrev pub step_texts : List (List ℕ) → List (List ℕ) → PlanNode → List (List ℕ)
step_texts texts made step = take (children step.node).count (map (id_text texts made) step.children)

-- the texts of a plan's nodes after those of the first ones
abbrev pub plan_texts : List (List ℕ) → List (List ℕ) → List PlanNode → List (List ℕ)
plan_texts texts made [] = made
plan_texts texts made (p ∷ ps) = plan_texts texts (made ++ term p.node (step_texts texts made p) ∷ []) ps

-- the text of a plan
abbrev pub plan_text : List (List ℕ) → Plan → List ℕ
plan_text texts p = id_text texts (plan_texts texts [] (steps p)) p.result

-- what is said of a node over a graph whose nodes have these texts: none, or a plan that keeps the node
abbrev pub IsPicked : Graph → List (List ℕ) → Node → List ℕ → Type 0
IsPicked g texts n text = (text ≡ codes "none") ⊎ ((p : Plan) × Keeps g n p × (text ≡ plan_text texts p))

-- the texts of a node's children
abbrev pub child_texts : List (List ℕ) → Node → List (List ℕ)
child_texts texts n = map (λ (id : NodeId). text_at texts id.0) (take (children n).count (children n).ids)

-- the terms of nodes after those of the first ones
abbrev pub terms_from : List (List ℕ) → List Node → List (List ℕ)
terms_from done [] = done
terms_from done (n ∷ ns) = terms_from (done ++ term n (child_texts done n) ∷ []) ns

-- what the rules make of some node that fits a graph, whose nodes are written as their terms
pub record Gives (text : List ℕ) : Type 0 where
  pub graph : Graph
  pub node : Node
  pub fits : IsSome (fits_width graph node)
  pub picked : IsPicked graph (terms_from [] graph.nodes) node text

-- a line says of a sample of a row what the rules made of it, which isn't what was wanted
pub record Tells (row sample wanted line : List ℕ) : Type 0 where
  pub got : List ℕ
  pub given : Gives got
  pub other : got ≢ wanted
  pub line_is : line ≡ row ++ (codes ": " ++ (sample ++ (codes " gives " ++ (got ++ (codes ", wanted " ++ wanted)))))
