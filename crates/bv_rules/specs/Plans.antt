-- Views of nodes, and plans: short lists of nodes that stand for a viewed node.
use Rattle.std.specs.Prelude.{◌≡◌, ◌⊎◌, ℕ, ◌+◌, ◌*◌, ◌≤◌, cond, nat_lt, unwrap_or, Option, Some, None, List, [], ◌∷◌, ◌++◌, take, replicate, slice_get, slice_index, slice_index_or, IsSome, ◌-◌}
use Rattle.dag.specs.declared.node.NodeId.{NodeId}
use Rattle.dag.specs.declared.node.Node.{Node}
use Rattle.dag.specs.declared.node.Node.TheVariants.{Const, And, Or, Neg, Ite, Slice, Cat, Sext}
use Rattle.dag.specs.declared.value.Word.{Word}
use Rattle.dag.specs.Node.{form, children, width_by, node_value, kind_value, kind_charge, first, second, third}
use Rattle.dag.specs.Graph.{Graph, AreValues, fits_width, leaves_of, charge_in}
use Rattle.bv_rules.specs.declared.plan.PlanId.{PlanId}
use Rattle.bv_rules.specs.declared.plan.PlanId.TheVariants.{Old, New}
use Rattle.bv_rules.specs.declared.plan.PlanNode.{PlanNode}
use Rattle.bv_rules.specs.declared.plan.Plan.{Plan}

-- the graph's node at a position of a node's children, and None past them
abbrev pub seen : Graph → Node → ℕ → ℕ → Option Node
seen g n position place = cond (nat_lt position (children n).count) (slice_get g.nodes place) None

-- a node that fits a graph, with the nodes that the graph has at its children
pub record Views (g : Graph) (n : Node) (at : List (Option Node)) : Type 0 where
  pub fits : IsSome (fits_width g n)
  pub first_is : slice_index_or at 0 None ≡ seen g n 0 (first n)
  pub second_is : slice_index_or at 1 None ≡ seen g n 1 (second n)
  pub third_is : slice_index_or at 2 None ≡ seen g n 2 (third n)

-- the same over a graph of which it is known that each node fits
pub record IsView (g : Graph) (n : Node) (at : List (Option Node)) : Type 0 where
  pub view : Views g n at
  pub graph : (k : ℕ) (m : Node) → slice_get g.nodes k ≡ Some m → fits_width g m ≡ slice_get g.widths k

-- the width that an id of a plan has: that of the graph's node, or of the plan's node at that place
abbrev pub width_at : Graph → List ℕ → PlanId → Option ℕ
width_at g made (Old k) = slice_get g.widths k.0
width_at g made (New i) = slice_get made i

-- its word
abbrev pub word_at : Graph → List ℕ → List ℕ → List ℕ → PlanId → Word
word_at g values widths made (Old k) = record { width = slice_index g.widths k.0; value = slice_index values k.0 }
word_at g values widths made (New i) = record { width = slice_index widths i; value = slice_index made i }

-- its value
abbrev pub value_at : List ℕ → List ℕ → PlanId → ℕ
value_at values made (Old k) = slice_index values k.0
value_at values made (New i) = slice_index made i

-- the child of a plan's node at a position
abbrev pub step_child : PlanNode → ℕ → PlanId
step_child p i = slice_index_or p.children i (New 0)

-- the width of a plan's node after nodes of the widths made, or None where it doesn't fit
abbrev pub step_width : Graph → List ℕ → PlanNode → Option ℕ
step_width g made p = width_by (leaves_of g) (form p.node) (width_at g made (step_child p 0)) (width_at g made (step_child p 1)) (width_at g made (step_child p 2))

-- its charge
abbrev pub step_charge : Graph → List ℕ → PlanNode → ℕ
step_charge g made p = kind_charge p.node (unwrap_or (step_width g made p) 0) (unwrap_or (width_at g made (step_child p 0)) 0) (unwrap_or (width_at g made (step_child p 1)) 0) (unwrap_or (width_at g made (step_child p 2)) 0)

-- its value on an input, from the graph's values and those of the plan's nodes before it
abbrev pub step_value : Graph → List ℕ → List ℕ → List ℕ → List ℕ → PlanNode → ℕ
step_value g input values widths made p = kind_value input p.node (word_at g values widths made (step_child p 0)) (word_at g values widths made (step_child p 1)) (word_at g values widths made (step_child p 2))

-- the widths of nodes after the next one, or None where that doesn't fit
abbrev pub widths_next : (List ℕ → Option (List ℕ)) → List ℕ → Option ℕ → Option (List ℕ)
widths_next next made None = None
widths_next next made (Some w) = next (made ++ w ∷ [])

-- the widths of a plan's nodes, or None where one doesn't fit
abbrev pub plan_widths : Graph → List ℕ → List PlanNode → Option (List ℕ)
plan_widths g made [] = Some made
plan_widths g made (p ∷ ps) = widths_next (λ ws. plan_widths g ws ps) made (step_width g made p)

-- the charges of a plan's nodes together
abbrev pub plan_charge : Graph → List ℕ → List PlanNode → ℕ
plan_charge g made [] = 0
plan_charge g made (p ∷ ps) = step_charge g made p + plan_charge g (made ++ unwrap_or (step_width g made p) 0 ∷ []) ps

-- the values of a plan's nodes on an input
abbrev pub plan_values : Graph → List ℕ → List ℕ → List ℕ → List ℕ → List PlanNode → List ℕ
plan_values g input values widths made [] = made
plan_values g input values widths made (p ∷ ps) = plan_values g input values (widths ++ unwrap_or (step_width g widths p) 0 ∷ []) (made ++ step_value g input values widths made p ∷ []) ps

-- the width of a plan's result
abbrev pub result_width : Graph → PlanId → Option (List ℕ) → Option ℕ
result_width g id None = None
result_width g id (Some made) = width_at g made id

-- the nodes of a plan
abbrev pub steps : Plan → List PlanNode
steps p = take p.count p.nodes

-- a plan has at most 16 nodes, each fits, the result keeps the width, and it costs at most four times the node's charge
pub record IsSound (g : Graph) (n : Node) (p : Plan) : Type 0 where
  pub few : p.count ≤ 16
  pub width : result_width g p.result (plan_widths g [] (steps p)) ≡ fits_width g n
  pub charge : plan_charge g [] (steps p) ≤ 4 * charge_in g n

-- a plan's result has the node's value on every input
abbrev pub SameValue : Graph → Node → Plan → Type 0
SameValue g n p = (input values : List ℕ) → AreValues g input values → value_at values (plan_values g input values [] [] (steps p)) p.result ≡ node_value input g.widths values n

-- both: a plan that may stand for the node
pub record Keeps (g : Graph) (n : Node) (p : Plan) : Type 0 where
  pub sound : IsSound g n p
  pub value : SameValue g n p

-- a rule's answer, where it gives one
abbrev pub KeepsIf : Graph → Node → Option Plan → Type 0
KeepsIf g n None = Unit {0}
KeepsIf g n (Some p) = Keeps g n p

-- what fills the places past a plan's nodes
abbrev pub blank : PlanNode
blank = record { node = Const 1 0; children = New 0 ∷ New 0 ∷ New 0 ∷ [] }

-- a plan's node
abbrev pub step : Node → PlanId → PlanId → PlanId → PlanNode
step n a b c = record { node = n; children = a ∷ b ∷ c ∷ [] }

-- the plan whose result is a node of the graph
abbrev pub same_plan : NodeId → Plan
same_plan a = record { count = 0; nodes = replicate 16 blank; result = Old a }

-- plans of one node, of two and of three, whose result is the last
abbrev pub one_plan : PlanNode → Plan
one_plan p = record { count = 1; nodes = p ∷ replicate 15 blank; result = New 0 }

abbrev pub two_plan : PlanNode → PlanNode → Plan
two_plan p q = record { count = 2; nodes = p ∷ q ∷ replicate 14 blank; result = New 1 }

abbrev pub three_plan : PlanNode → PlanNode → PlanNode → Plan
three_plan p q r = record { count = 3; nodes = p ∷ q ∷ r ∷ replicate 13 blank; result = New 2 }

-- a child is a constant of this value
abbrev pub IsConst : Option Node → ℕ → Type 0
IsConst child v = (w : ℕ) × (child ≡ Some (Const w v))

-- a word of width w moved up by k places: its lower bits above zeros
abbrev pub moved_up : ℕ → NodeId → ℕ → Plan
moved_up w a k = three_plan (step (Const k 0) (New 0) (New 0) (New 0)) (step (Slice (w - 1 - k) 0 a) (Old a) (New 0) (New 0)) (step (Cat a a) (New 1) (New 0) (New 0))

-- and moved down: zeros above its upper bits
abbrev pub moved_down : ℕ → NodeId → ℕ → Plan
moved_down w a k = three_plan (step (Const k 0) (New 0) (New 0) (New 0)) (step (Slice (w - 1) k a) (Old a) (New 0) (New 0)) (step (Cat a a) (New 0) (New 1) (New 0))

-- a node of the graph is a constant of this value
abbrev pub IsConstAt : Graph → NodeId → ℕ → Type 0
IsConstAt g a v = (w : ℕ) × (slice_get g.nodes a.0 ≡ Some (Const w v))

-- of two nodes one is a constant of this value, and the other one is the rest
abbrev pub IsConstBeside : Graph → NodeId → NodeId → NodeId → ℕ → Type 0
IsConstBeside g a b rest v = ((rest ≡ a) × IsConstAt g b v) ⊎ ((rest ≡ b) × IsConstAt g a v)

-- of two nodes one is x, and the other one is the rest
abbrev pub IsBeside : NodeId → NodeId → NodeId → NodeId → Type 0
IsBeside a b x rest = ((a ≡ x) × (rest ≡ b)) ⊎ ((b ≡ x) × (rest ≡ a))

-- a joint whose lower part is k zeros
abbrev pub HasZerosBelow : Graph → NodeId → NodeId → ℕ → Type 0
HasZerosBelow g a high k = (zeros : NodeId) × (slice_get g.nodes a.0 ≡ Some (Cat high zeros)) × IsConstAt g zeros 0 × (slice_get g.widths zeros.0 ≡ Some k)

-- a joint whose upper part is zeros and whose lower part has k bits
abbrev pub HasZerosAbove : Graph → NodeId → NodeId → ℕ → Type 0
HasZerosAbove g a low k = (zeros : NodeId) × (slice_get g.nodes a.0 ≡ Some (Cat zeros low)) × IsConstAt g zeros 0 × (slice_get g.widths low.0 ≡ Some k)

-- two nodes that hold a word's upper and its lower part, with zeros where the other one has its part
abbrev pub AreParts : Graph → NodeId → NodeId → NodeId → NodeId → Type 0
AreParts g a b high low = (k : ℕ) × ((HasZerosBelow g a high k × HasZerosAbove g b low k) ⊎ (HasZerosBelow g b high k × HasZerosAbove g a low k))

-- an operation on a node of the graph and a constant
abbrev pub with_constant : Node → NodeId → ℕ → ℕ → Plan
with_constant n x w v = two_plan (step (Const w v) (New 0) (New 0) (New 0)) (step n (Old x) (New 0) (New 0))

-- the joint of two nodes
abbrev pub joined : NodeId → NodeId → Plan
joined high low = one_plan (step (Cat high low) (Old high) (Old low) (New 0))

-- bits of a word, extended to a width
abbrev pub extended_bits : ℕ → ℕ → ℕ → NodeId → Plan
extended_bits w h l a = two_plan (step (Slice h l a) (Old a) (New 0) (New 0)) (step (Sext w a) (New 0) (New 0) (New 0))

-- a word below so many zeros
abbrev pub widened : ℕ → NodeId → Plan
widened z a = two_plan (step (Const z 0) (New 0) (New 0) (New 0)) (step (Cat a a) (New 0) (Old a) (New 0))

-- the lowest k bits of a word below so many zeros
abbrev pub lowest : ℕ → ℕ → NodeId → Plan
lowest z k a = three_plan (step (Const z 0) (New 0) (New 0) (New 0)) (step (Slice (k - 1) 0 a) (Old a) (New 0) (New 0)) (step (Cat a a) (New 0) (New 1) (New 0))

-- a above the joint of b and c
abbrev pub regrouped : NodeId → NodeId → NodeId → Plan
regrouped a b c = two_plan (step (Cat b c) (Old b) (Old c) (New 0)) (step (Cat a a) (Old a) (New 0) (New 0))

-- the lowest bits of x above bits of y
abbrev pub cut_parts : ℕ → NodeId → ℕ → ℕ → NodeId → Plan
cut_parts upper x h l y = three_plan (step (Slice upper 0 x) (Old x) (New 0) (New 0)) (step (Slice h l y) (Old y) (New 0) (New 0)) (step (Cat x y) (New 0) (New 1) (New 0))

-- x | y, and the negation of x & y
abbrev pub IsUnionLessCommon : Graph → NodeId → NodeId → NodeId → NodeId → Type 0
IsUnionLessCommon g union less x y = (slice_get g.nodes union.0 ≡ Some (Or x y)) × ((common p q : NodeId) × (slice_get g.nodes less.0 ≡ Some (Neg common)) × (slice_get g.nodes common.0 ≡ Some (And p q)) × IsBeside p q x y)

-- one choice
abbrev pub chosen : NodeId → NodeId → NodeId → Plan
chosen a b c = one_plan (step (Ite a b c) (Old a) (Old b) (Old c))
