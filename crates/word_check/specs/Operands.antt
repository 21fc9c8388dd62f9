-- The operands of And, or of Or, as sets of nodes: their order and their number don't count.
use Rattle.std.specs.Prelude.{◌≡◌, ℕ, ◌-◌, ◌<◌, ◌^◌, Bool, cond, List, [], ◌∷◌, slice_index, bit_and, bit_or}
use Rattle.dag.specs.declared.node.Node.{Node}
use Rattle.word_check.specs.Valuation.{AreValuesOf}
use Rattle.word_check.specs.declared.operands.Joining.{Joining}
use Rattle.word_check.specs.declared.operands.Joining.TheVariants.{And, Or}

-- two words joined
abbrev pub joined : Joining → ℕ → ℕ → ℕ
joined And x y = bit_and x y
joined Or x y = bit_or x y

-- what changes no word of at most 64 bits
abbrev pub neutral : Joining → ℕ
neutral And = 2 ^ 64 - 1
neutral Or = 0

-- the values whose places are members, all joined
unfoldable pub joined_all : Joining → List Bool → List ℕ → ℕ
joined_all j [] vs = neutral j
joined_all j (b ∷ bs) [] = cond b (joined j 0 (joined_all j bs [])) (joined_all j bs [])
joined_all j (b ∷ bs) (v ∷ vs) = cond b (joined j v (joined_all j bs vs)) (joined_all j bs vs)

-- members come to the same, whatever the values of the nodes are
abbrev pub KeepsJoined : List Node → Joining → List Bool → List Bool → Type 0
KeepsJoined nodes j old new = (widths vs : List ℕ) → AreValuesOf nodes widths vs → joined_all j new vs ≡ joined_all j old vs

-- members come to the node at a place, where its value has at most 64 bits
abbrev pub AreOperands : List Node → Joining → ℕ → List Bool → Type 0
AreOperands nodes j place members = (widths vs : List ℕ) → AreValuesOf nodes widths vs → slice_index vs place < 2 ^ 64 → joined_all j members vs ≡ slice_index vs place

-- a node is two others joined
abbrev pub IsJoined : List Node → Joining → ℕ → ℕ → ℕ → Type 0
IsJoined nodes j place a b = (widths vs : List ℕ) → AreValuesOf nodes widths vs → slice_index vs place ≡ joined j (slice_index vs a) (slice_index vs b)
