-- Nodes of a graph of word operations: what each kind reads, which widths fit it, its value and its charge.
--
-- A kind's width, value and charge come from its children's, by position, and never from their places. So two nodes
-- of one kind differ only in what their children are.
use Rattle.std.specs.Prelude.{◌≡◌, ℕ, ◌+◌, ◌-◌, ◌*◌, ◌^◌, ◌&&◌, max, Bool, true, false, cond, ◌<◌, ◌≤◌, ◌++◌, nat_lt, nat_le, nat_eq, Option, Some, None, List, [], ◌∷◌, take, slice_get, slice_index, slice_index_or, bit_and, bit_or, bit_xor}
use Rattle.bv_words.specs.Words.{slice, cat, sx, neg, bit_not, plus, times, udiv, urem, slt, shl, shr, one_if}
use Rattle.dag.specs.declared.node.NodeId.{NodeId}
use Rattle.dag.specs.declared.node.Children.{Children}
use Rattle.dag.specs.declared.node.Outline.{Outline}
use Rattle.dag.specs.declared.node.Form.{Form}
use Rattle.dag.specs.declared.node.Form.TheVariants.{Input, Constant, Unary, Binary, Test, Choice, Cut, Joined, Widened, Shifted}
use Rattle.dag.specs.declared.node.Node.{Node}
use Rattle.dag.specs.declared.value.Word.{Word}
use Rattle.dag.specs.declared.node.Node.TheVariants.{Leaf, Const, Not, And, Or, Xor, Neg, Plus, Times, Eq, Ult, Slt, Ite, Slice, Cat, Sext, Shl, Shr, Udiv, Urem}

-- what fills the places past a node's children
abbrev pub no_node : NodeId
no_node = record { 0 = 0 }

-- no children, and one, two or three
abbrev pub leaf : Children
leaf = record { count = 0; ids = no_node ∷ no_node ∷ no_node ∷ [] }

abbrev pub one : NodeId → Children
one a = record { count = 1; ids = a ∷ no_node ∷ no_node ∷ [] }

abbrev pub two : NodeId → NodeId → Children
two a b = record { count = 2; ids = a ∷ b ∷ no_node ∷ [] }

abbrev pub three : NodeId → NodeId → NodeId → Children
three a b c = record { count = 3; ids = a ∷ b ∷ c ∷ [] }

abbrev pub kind : ℕ → Form → Children → Outline
kind number form children = record { number = number; form = form; children = children }

-- each kind: its number, how its width comes from its children's, and its children
abbrev pub outline : Node → Outline
outline (Leaf w i) = kind 0 (Input w i) leaf
outline (Const w v) = kind 1 (Constant w v) leaf
outline (Not a) = kind 2 Unary (one a)
outline (And a b) = kind 3 Binary (two a b)
outline (Or a b) = kind 4 Binary (two a b)
outline (Xor a b) = kind 5 Binary (two a b)
outline (Neg a) = kind 6 Unary (one a)
outline (Plus a b) = kind 7 Binary (two a b)
outline (Times a b) = kind 8 Binary (two a b)
outline (Eq a b) = kind 9 Test (two a b)
outline (Ult a b) = kind 10 Test (two a b)
outline (Slt a b) = kind 11 Test (two a b)
outline (Ite a b c) = kind 12 Choice (three a b c)
outline (Slice h l a) = kind 13 (Cut h l) (one a)
outline (Cat a b) = kind 14 Joined (two a b)
outline (Sext w a) = kind 15 (Widened w) (one a)
outline (Shl a b) = kind 16 Shifted (two a b)
outline (Shr a b) = kind 17 Shifted (two a b)
outline (Udiv a b) = kind 18 Binary (two a b)
outline (Urem a b) = kind 19 Binary (two a b)

abbrev pub form : Node → Form
form n = (outline n).form

abbrev pub kind_number : Node → ℕ
kind_number n = (outline n).number

abbrev pub children : Node → Children
children n = (outline n).children

-- the child at a position
abbrev pub child_at : List NodeId → ℕ → NodeId
child_at ids i = slice_index_or ids i no_node

-- the places of the first, second and third child, 0 past the count
abbrev pub first : Node → ℕ
first n = (child_at (children n).ids 0).0

abbrev pub second : Node → ℕ
second n = (child_at (children n).ids 1).0

abbrev pub third : Node → ℕ
third n = (child_at (children n).ids 2).0

-- the node of the same kind with other children, by position
abbrev pub with_children : Node → List NodeId → Node
with_children (Leaf w i) ids = Leaf w i
with_children (Const w v) ids = Const w v
with_children (Not a) ids = Not (child_at ids 0)
with_children (And a b) ids = And (child_at ids 0) (child_at ids 1)
with_children (Or a b) ids = Or (child_at ids 0) (child_at ids 1)
with_children (Xor a b) ids = Xor (child_at ids 0) (child_at ids 1)
with_children (Neg a) ids = Neg (child_at ids 0)
with_children (Plus a b) ids = Plus (child_at ids 0) (child_at ids 1)
with_children (Times a b) ids = Times (child_at ids 0) (child_at ids 1)
with_children (Eq a b) ids = Eq (child_at ids 0) (child_at ids 1)
with_children (Ult a b) ids = Ult (child_at ids 0) (child_at ids 1)
with_children (Slt a b) ids = Slt (child_at ids 0) (child_at ids 1)
with_children (Ite a b c) ids = Ite (child_at ids 0) (child_at ids 1) (child_at ids 2)
with_children (Slice h l a) ids = Slice h l (child_at ids 0)
with_children (Cat a b) ids = Cat (child_at ids 0) (child_at ids 1)
with_children (Sext w a) ids = Sext w (child_at ids 0)
with_children (Shl a b) ids = Shl (child_at ids 0) (child_at ids 1)
with_children (Shr a b) ids = Shr (child_at ids 0) (child_at ids 1)
with_children (Udiv a b) ids = Udiv (child_at ids 0) (child_at ids 1)
with_children (Urem a b) ids = Urem (child_at ids 0) (child_at ids 1)

-- a node's definition without regard to its children
abbrev pub bare : Node → Node
bare n = with_children n (no_node ∷ no_node ∷ no_node ∷ [])

-- how many children a node has
abbrev pub arity : Node → ℕ
arity n = (children n).count

-- the place of a node's child at a position
abbrev pub nth_child : Node → ℕ → ℕ
nth_child n i = (child_at (children n).ids i).0

-- a width from 1 to 64
abbrev pub is_width : ℕ → Bool
is_width w = nat_lt 0 w && nat_le w 64

-- a width where a test holds
abbrev pub when : Bool → ℕ → Option ℕ
when true w = Some w
when false w = None

-- a leaf has the width that the shape has at its index
abbrev pub leaf_width : Option ℕ → ℕ → Option ℕ
leaf_width (Some v) w = when (nat_eq v w && is_width w) w
leaf_width None w = None

-- a constant is below 2 ^ its width
abbrev pub constant_width : ℕ → ℕ → Option ℕ
constant_width w v = when (is_width w && nat_lt v (2 ^ w)) w

-- two children have one width
abbrev pub same_width : Option ℕ → Option ℕ → Option ℕ
same_width (Some x) (Some y) = when (nat_eq x y) x
same_width x y = None

-- a test has width 1
abbrev pub test_width : Option ℕ → Option ℕ
test_width (Some x) = Some 1
test_width None = None

-- what is chosen by has width 1
abbrev pub choice_width : Option ℕ → Option ℕ → Option ℕ
choice_width (Some x) y = cond (nat_eq x 1) y None
choice_width None y = None

-- bits low to high are bits of the child
abbrev pub cut_width : ℕ → ℕ → Option ℕ → Option ℕ
cut_width h l (Some x) = when (nat_le l h && nat_lt h x) (h - l + 1)
cut_width h l None = None

-- two words joined have at most 64 bits
abbrev pub joined_width : Option ℕ → Option ℕ → Option ℕ
joined_width (Some x) (Some y) = when (nat_le (x + y) 64) (x + y)
joined_width x y = None

-- sign extension never narrows
abbrev pub widened_width : ℕ → Option ℕ → Option ℕ
widened_width w (Some x) = when (nat_le x w && nat_le w 64) w
widened_width w None = None

-- an amount has any width
abbrev pub shifted_width : Option ℕ → Option ℕ → Option ℕ
shifted_width x (Some y) = x
shifted_width x None = None

-- the width of a node of a form over children of the widths x, y and z, or None where it doesn't fit
abbrev pub width_by : List ℕ → Form → Option ℕ → Option ℕ → Option ℕ → Option ℕ
width_by leaf_widths (Input w i) x y z = leaf_width (slice_get leaf_widths i) w
width_by leaf_widths (Constant w v) x y z = constant_width w v
width_by leaf_widths Unary x y z = x
width_by leaf_widths Binary x y z = same_width x y
width_by leaf_widths Test x y z = test_width (same_width x y)
width_by leaf_widths Choice x y z = choice_width x (same_width y z)
width_by leaf_widths (Cut h l) x y z = cut_width h l x
width_by leaf_widths Joined x y z = joined_width x y
width_by leaf_widths (Widened w) x y z = widened_width w x
width_by leaf_widths Shifted x y z = shifted_width x y

-- the width of a node over children that stand in a list of widths, or None where it doesn't fit
abbrev pub node_width : List ℕ → List ℕ → Node → Option ℕ
node_width leaf_widths widths n = width_by leaf_widths (form n) (slice_get widths (first n)) (slice_get widths (second n)) (slice_get widths (third n))

-- a number below 2 ^ a width from 1 to 64
pub record IsWord (width value : ℕ) : Type 0 where
  pub low : 1 ≤ width
  pub high : width ≤ 64
  pub within : value < 2 ^ width

-- each place of a list of widths has a word of its width
abbrev pub InWords : List ℕ → List ℕ → Type 0
InWords widths values = (k w : ℕ) → slice_get widths k ≡ Some w → IsWord w (slice_index values k)

-- the value of each kind on an input, from its children's words
abbrev pub kind_value : List ℕ → Node → Word → Word → Word → ℕ
kind_value input (Leaf w i) x y z = slice_index input i
kind_value input (Const w v) x y z = v
kind_value input (Not a) x y z = bit_not x.width x.value
kind_value input (And a b) x y z = bit_and x.value y.value
kind_value input (Or a b) x y z = bit_or x.value y.value
kind_value input (Xor a b) x y z = bit_xor x.value y.value
kind_value input (Neg a) x y z = neg x.width x.value
kind_value input (Plus a b) x y z = plus x.width x.value y.value
kind_value input (Times a b) x y z = times x.width x.value y.value
kind_value input (Eq a b) x y z = one_if (nat_eq x.value y.value)
kind_value input (Ult a b) x y z = one_if (nat_lt x.value y.value)
kind_value input (Slt a b) x y z = one_if (slt x.width x.value y.value)
kind_value input (Ite a b c) x y z = cond (nat_eq x.value 1) y.value z.value
kind_value input (Slice h l a) x y z = slice h l x.value
kind_value input (Cat a b) x y z = cat x.width x.value y.width y.value
kind_value input (Sext w a) x y z = sx w x.width x.value
kind_value input (Shl a b) x y z = shl x.width x.value y.value
kind_value input (Shr a b) x y z = shr x.width x.value y.value
kind_value input (Udiv a b) x y z = udiv x.value y.value
kind_value input (Urem a b) x y z = urem x.value y.value

-- the word at a place of lists of widths and values
abbrev pub word_at : List ℕ → List ℕ → ℕ → Word
word_at widths values k = record { width = slice_index widths k; value = slice_index values k }

-- the value of a node on an input, from the widths and values of the nodes before it
abbrev pub node_value : List ℕ → List ℕ → List ℕ → Node → ℕ
node_value input widths values n = kind_value input n (word_at widths values (first n)) (word_at widths values (second n)) (word_at widths values (third n))

-- the values of nodes on an input, from front to back, after those of the nodes before them
abbrev pub values_from : List ℕ → List ℕ → List ℕ → List Node → List ℕ
values_from input widths values [] = values
values_from input widths values (n ∷ ns) = values_from input widths (values ++ node_value input widths values n ∷ []) ns

-- the greatest of a width and others
abbrev pub widest : ℕ → List ℕ → ℕ
widest w [] = w
widest w (x ∷ xs) = widest (max w x) xs

-- what a kind costs at the greatest width of a node and its children
abbrev pub charge_at : ℕ → Node → ℕ
charge_at w (Times a b) = 4 * (w * w)
charge_at w (Shl a b) = 16 * w
charge_at w (Shr a b) = 16 * w
charge_at w (Udiv a b) = 8 * (w * w)
charge_at w (Urem a b) = 8 * (w * w)
charge_at w n = 4 * w

-- the charge of a node of a width, over children of the widths x, y and z
abbrev pub kind_charge : Node → ℕ → ℕ → ℕ → ℕ → ℕ
kind_charge n w x y z = charge_at (widest w (take (children n).count (x ∷ y ∷ z ∷ []))) n

-- the charge of a node of a width, over children that stand in a list of widths
abbrev pub node_charge : List ℕ → ℕ → Node → ℕ
node_charge widths w n = kind_charge n w (slice_index widths (first n)) (slice_index widths (second n)) (slice_index widths (third n))

-- the charges of nodes of these widths together
abbrev pub charges : List ℕ → List ℕ → List Node → ℕ
charges widths [] ns = 0
charges widths (w ∷ ws) [] = 0
charges widths (w ∷ ws) (n ∷ ns) = node_charge widths w n + charges widths ws ns
