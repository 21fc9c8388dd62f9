-- The exclusive or of some nodes' values and a constant.
use Rattle.std.specs.Prelude.{◌≡◌, ℕ, Bool, cond, List, [], ◌∷◌, slice_index, bit_xor}
use Rattle.dag.specs.declared.node.Node.{Node}
use Rattle.word_check.specs.Valuation.{AreValuesOf}
use Rattle.word_check.specs.declared.exclusive_ors.XorSet.{XorSet}

-- the exclusive or of the values whose places are members
unfoldable pub xor_all : List Bool → List ℕ → ℕ
xor_all [] vs = 0
xor_all (b ∷ bs) [] = 0
xor_all (b ∷ bs) (v ∷ vs) = bit_xor (cond b v 0) (xor_all bs vs)

-- what a set and its constant come to
abbrev pub xor_total : XorSet → List ℕ → ℕ
xor_total m vs = bit_xor m.constant (xor_all m.members.items vs)

-- a place is put in, or taken out
abbrev pub Toggles : XorSet → XorSet → ℕ → Type 0
Toggles old new place = (vs : List ℕ) → xor_total new vs ≡ bit_xor (xor_total old vs) (slice_index vs place)

-- a place is taken out, and something put in its stead
abbrev pub Trades : XorSet → XorSet → ℕ → (List ℕ → ℕ) → Type 0
Trades old new place value = (vs : List ℕ) → xor_total new vs ≡ bit_xor (bit_xor (xor_total old vs) (slice_index vs place)) (value vs)

-- both come to the same, whatever the values of the nodes are
abbrev pub KeepsXor : List Node → List ℕ → XorSet → XorSet → Type 0
KeepsXor nodes widths old new = (vs : List ℕ) → AreValuesOf nodes widths vs → xor_total new vs ≡ xor_total old vs

abbrev pub IsZeroXor : XorSet → Type 0
IsZeroXor m = (vs : List ℕ) → xor_total m vs ≡ 0
