-- The bits that both operands of a bitwise node have. With them each bitwise node is a sum.
use Rattle.std.specs.Prelude.{◌≡◌, ℕ, List, map, slice_index, bit_and}
use Rattle.dag.specs.declared.node.NodeId.{NodeId}
use Rattle.dag.specs.declared.node.Node.{Node}
use Rattle.dag.specs.declared.node.Node.TheVariants.{And, Or, Xor}

-- the bits that both operands have, and 0 of a node that isn't bitwise
abbrev pub overlap : List ℕ → Node → ℕ
overlap vs (And a b) = bit_and (slice_index vs a.0) (slice_index vs b.0)
overlap vs (Or a b) = bit_and (slice_index vs a.0) (slice_index vs b.0)
overlap vs (Xor a b) = bit_and (slice_index vs a.0) (slice_index vs b.0)
overlap vs n = 0

-- of each node
abbrev pub overlaps : List Node → List ℕ → List ℕ
overlaps nodes vs = map (overlap vs) nodes

-- a node's overlap is that of two nodes
abbrev pub IsOverlapOf : NodeId → NodeId → Node → Type 0
IsOverlapOf a b n = (vs : List ℕ) → overlap vs n ≡ bit_and (slice_index vs a.0) (slice_index vs b.0)

-- the overlap at a place is that of two nodes
abbrev pub HasOverlap : List Node → NodeId → NodeId → ℕ → Type 0
HasOverlap nodes a b place = (vs : List ℕ) → slice_index (overlaps nodes vs) place ≡ bit_and (slice_index vs a.0) (slice_index vs b.0)
