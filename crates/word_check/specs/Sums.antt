-- Sums of nodes' values and of their operands' overlaps, each with a factor, and a constant, modulo 2 ^ width.
use Rattle.std.specs.Prelude.{◌≡◌, ℕ, ◌+◌, ◌-◌, ◌*◌, ◌%◌, ◌^◌, List, [], ◌∷◌, slice_get, slice_index, Some}
use Rattle.dag.specs.declared.node.Node.{Node}
use Rattle.dag.specs.declared.node.Node.TheVariants.{Const}
use Rattle.word_check.specs.Valuation.{AreValuesOf}
use Rattle.word_check.specs.Overlaps.{overlaps}
use Rattle.word_check.specs.declared.sums.Sum.{Sum}
use Rattle.word_check.specs.declared.sums.Term.{Term}
use Rattle.word_check.specs.declared.sums.Parts.{Parts}
use Rattle.word_check.specs.declared.sums.BitParts.{BitParts}

-- the products of factors and values, place by place, together
unfoldable pub weighed : List ℕ → List ℕ → ℕ
weighed [] vs = 0
weighed (c ∷ cs) [] = 0
weighed (c ∷ cs) (v ∷ vs) = c * v + weighed cs vs

-- two numbers are the same modulo 2 ^ width
abbrev pub IsSame : ℕ → ℕ → ℕ → Type 0
IsSame w x y = x % 2 ^ w ≡ y % 2 ^ w

-- what a term adds
abbrev pub share : Term → List ℕ → ℕ
share t vs = t.factor * slice_index vs t.place

-- what a sum comes to
abbrev pub total : List Node → Sum → List ℕ → ℕ
total nodes s vs = s.constant + weighed s.overlaps.items (overlaps nodes vs) + weighed s.factors.items vs

-- what parts come to
abbrev pub parts_total : Parts → List ℕ → ℕ
parts_total p vs = p.constant + (share p.left vs + share p.right vs)

-- what the parts of a bitwise node come to
abbrev pub bit_parts_total : List Node → BitParts → List ℕ → ℕ
bit_parts_total nodes p vs = share p.left vs + share p.right vs + share p.both (overlaps nodes vs)

-- a term more
abbrev pub Adds : ℕ → Sum → Sum → Term → Type 0
Adds w old new t = (nodes : List Node) (vs : List ℕ) → IsSame w (total nodes new vs) (total nodes old vs + share t vs)

-- a term of an overlap more
abbrev pub AddsOverlap : ℕ → Sum → Sum → Term → Type 0
AddsOverlap w old new t = (nodes : List Node) (vs : List ℕ) → IsSame w (total nodes new vs) (total nodes old vs + share t (overlaps nodes vs))

-- the sums come to the same, whatever the values of the nodes are
abbrev pub KeepsTotal : List Node → List ℕ → ℕ → Sum → Sum → Type 0
KeepsTotal nodes widths w old new = (vs : List ℕ) → AreValuesOf nodes widths vs → IsSame w (total nodes new vs) (total nodes old vs)

-- parts come to what a term adds
abbrev pub AreParts : List Node → List ℕ → ℕ → Term → Parts → Type 0
AreParts nodes widths w t p = (vs : List ℕ) → AreValuesOf nodes widths vs → IsSame w (parts_total p vs) (share t vs)

-- the parts of a bitwise node do
abbrev pub AreBitParts : List Node → ℕ → Term → BitParts → Type 0
AreBitParts nodes w t p = (widths vs : List ℕ) → AreValuesOf nodes widths vs → IsSame w (bit_parts_total nodes p vs) (share t vs)

-- one node is added and another taken off
abbrev pub Begins : ℕ → Sum → Sum → ℕ → ℕ → Type 0
Begins w old new first second = (nodes : List Node) (vs : List ℕ) → IsSame w (total nodes new vs) (total nodes old vs + (1 * slice_index vs first + (2 ^ w - 1) * slice_index vs second))

-- the sum comes to nothing
abbrev pub IsZero : Sum → Type 0
IsZero s = (nodes : List Node) (vs : List ℕ) → total nodes s vs ≡ 0

-- a factor takes a number of so many bits out of what is counted
abbrev pub Wraps : ℕ → ℕ → ℕ → Type 0
Wraps w factor bits = (factor * 2 ^ bits) % 2 ^ w ≡ 0

-- a term of a node that is multiplied by a constant node
abbrev pub IsMultiple : List Node → ℕ → ℕ → ℕ → ℕ → Term → Type 0
IsMultiple nodes w factor a b t = (u : ℕ) × (c : ℕ) × (slice_get nodes b ≡ Some (Const u c)) × (t.place ≡ a) × IsSame w t.factor (factor * c)
