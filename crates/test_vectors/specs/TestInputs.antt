-- The inputs that a sweep begins with: the least, the greatest, and drawn ones.
use Rattle.std.specs.Prelude.{ℕ, zero, suc, ◌-◌, ◌^◌, List, [], ◌∷◌, replicate, length}
use Rattle.rand_core.specs.Steps.{u64_via_u32}
use Rattle.rand_core.specs.Pcg32Seed.{pcg32_seed}
use Rattle.rand_pcg.specs.Lcg.{Lcg}
use Rattle.rand_pcg.specs.Pcg.{pcg32, pcg32_of_seed}
use Rattle.bv_words.specs.Words.{chop}

-- the generator of a seed, as `seed_from_u64` begins it
abbrev pub seeded : ℕ → Lcg
seeded seed = pcg32_of_seed (pcg32_seed 16 seed)

-- the next number of 64 bits: two words of the generator, the low half first
abbrev pub next_number : Lcg → ℕ × Lcg
next_number = u64_via_u32 pcg32

-- the next input for leaves of these widths: a number a leaf, of which it has the lowest bits
abbrev pub drawn : List ℕ → Lcg → List ℕ
drawn [] g = []
drawn (w ∷ ws) g = chop w (next_number g).0 ∷ drawn ws (next_number g).1

-- the generator after it
abbrev pub after_drawn : List ℕ → Lcg → Lcg
after_drawn [] g = g
after_drawn (w ∷ ws) g = after_drawn ws (next_number g).1

-- the next inputs, so many
unfoldable pub drawn_inputs : List ℕ → ℕ → Lcg → List (List ℕ)
drawn_inputs ws zero g = []
drawn_inputs ws (suc n) g = drawn ws g ∷ drawn_inputs ws n (after_drawn ws g)

-- every leaf 0
abbrev pub zeros : List ℕ → List ℕ
zeros ws = replicate (length ws) 0

-- every leaf the greatest number of its width
abbrev pub greatest : List ℕ → List ℕ
greatest [] = []
greatest (w ∷ ws) = (2 ^ w - 1) ∷ greatest ws

-- the first n of: every leaf 0; every leaf the greatest of its width; the inputs that the seed draws
abbrev pub test_inputs : ℕ → ℕ → List ℕ → List (List ℕ)
test_inputs seed zero ws = []
test_inputs seed (suc zero) ws = zeros ws ∷ []
test_inputs seed (suc (suc n)) ws = zeros ws ∷ greatest ws ∷ drawn_inputs ws n (seeded seed)
