-- Lists of inputs that are drawn.
use Rattle.std.proofs.Common.{◌≡◌, ℕ, zero, suc, ◌+◌, ◌-◌, ◌^◌, ◌<◌, ◌≤◌, List, [], ◌∷◌, ◌++◌, replicate, All, refl, sym, ◌∙◌, ap, arith, pow_pos, append_assoc, append-nil}
use Rattle.std.proofs.lemmas.List.Elements.{All-append}
use Rattle.bv_words.proofs.Bounds.{chop_below}
use Rattle.axe_io.specs.Shapes.{leaf_widths, leaf_count, width_of}
use Rattle.axe_io.specs.Inputs.{IsInput}
use Rattle.axe_io.proofs.Counting.{zeros_fit}
use Rattle.axe_io.specs.declared.parameters.Param.{Param}
use Rattle.axe_io.specs.declared.parameters.Kind.{Kind}
use Rattle.axe_io.specs.declared.parameters.Kind.TheVariants.{Byte, Char, Short, Int, Long}
use Rattle.rand_pcg.specs.Lcg.{Lcg}
use Rattle.test_vectors.specs.TestInputs.{drawn_inputs, drawn, after_drawn, next_number, greatest, zeros, seeded, test_inputs}

no_more : (ws : List ℕ) (g : Lcg) → drawn_inputs ws 0 g ≡ []
unfolding drawn_inputs
no_more ws g = refl

one_more : (ws : List ℕ) (n : ℕ) (g : Lcg) → drawn_inputs ws (suc n) g ≡ drawn ws g ∷ drawn_inputs ws n (after_drawn ws g)
unfolding drawn_inputs
one_more ws n g = refl

-- the loop that draws inputs goes on by one
pub drawn_more : (ws : List ℕ) (n i : ℕ) (g h : Lcg) (xs ys zs : List (List ℕ)) (x : List ℕ) → i < n → xs ++ drawn_inputs ws (n - i) g ≡ zs → x ≡ drawn ws g → h ≡ after_drawn ws g → ys ≡ xs ++ x ∷ []
    → ys ++ drawn_inputs ws (n - (i + 1)) h ≡ zs
drawn_more ws n i g h xs ys zs x lt so is after pushed =
    let e : n - i ≡ suc (n - (i + 1)) = omega arith in
    let next : drawn_inputs ws (n - i) g ≡ x ∷ drawn_inputs ws (n - (i + 1)) h = ap (λ (k : ℕ). drawn_inputs ws k g) e ∙ one_more ws (n - (i + 1)) g
    ∙ ap (λ (y : List ℕ). y ∷ drawn_inputs ws (n - (i + 1)) (after_drawn ws g)) (sym is) ∙ ap (λ (f : Lcg). x ∷ drawn_inputs ws (n - (i + 1)) f) (sym after) in
    ap (λ (vs : List (List ℕ)). vs ++ drawn_inputs ws (n - (i + 1)) h) pushed ∙ append_assoc xs (x ∷ []) (drawn_inputs ws (n - (i + 1)) h) ∙ ap (λ (vs : List (List ℕ)). xs ++ vs) (sym next) ∙ so

-- and ends
pub drawn_all : (ws : List ℕ) (n i : ℕ) (g : Lcg) (xs zs : List (List ℕ)) → n ≤ i → xs ++ drawn_inputs ws (n - i) g ≡ zs → xs ≡ zs
drawn_all ws n i g xs zs le so =
    let e : n - i ≡ 0 = omega arith in
    sym (append-nil xs) ∙ sym (ap (λ (k : ℕ). xs ++ drawn_inputs ws k g) e ∙ ap (λ (vs : List (List ℕ)). xs ++ vs) (no_more ws g)) ∙ so

all_cons : {X : Type 0} (P : X → Type 0) (x : X) (xs : List X) → P x → All P xs → All P (x ∷ xs)
all_cons P x xs one rest zero d lt = one
all_cons P x xs one rest (suc k) d lt = rest k d (omega (arith, lt))

none : {X : Type 0} (P : X → Type 0) → All P []
none P k d lt = absurd (omega (arith, lt))

-- a width of 1 to 64 bits
abbrev pub IsWidth : ℕ → Type 0
IsWidth w = (1 ≤ w) × (w ≤ 64)

kind_width : (kind : Kind) → IsWidth (width_of kind)
kind_width Byte = (omega arith, omega arith)
kind_width Char = (omega arith, omega arith)
kind_width Short = (omega arith, omega arith)
kind_width Int = (omega arith, omega arith)
kind_width Long = (omega arith, omega arith)

all_of_one : (n w : ℕ) → IsWidth w → All IsWidth (replicate n w)
all_of_one zero w is = none IsWidth
all_of_one (suc n) w is = all_cons IsWidth w (replicate n w) is (all_of_one n w is)

pub are_widths : (params : List Param) → All IsWidth (leaf_widths params)
are_widths [] = none IsWidth
are_widths (param ∷ params) = All-append IsWidth (replicate (leaf_count param) (width_of param.kind)) (leaf_widths params) (all_of_one (leaf_count param) (width_of param.kind) (kind_width param.kind)) (are_widths params)

pub greatest_fits : (ws : List ℕ) → IsInput ws (greatest ws)
greatest_fits [] = tt
greatest_fits (w ∷ ws) = (let one : 0 < 2 ^ w = pow_pos w in omega arith, greatest_fits ws)

pub drawn_fits : (ws : List ℕ) (g : Lcg) → IsInput ws (drawn ws g)
drawn_fits [] g = tt
drawn_fits (w ∷ ws) g = (chop_below w (next_number g).0, drawn_fits ws (next_number g).1)

pub drawn_fit : (ws : List ℕ) (n : ℕ) (g : Lcg) → All (IsInput ws) (drawn_inputs ws n g)
unfolding drawn_inputs
drawn_fit ws zero g = none (IsInput ws)
drawn_fit ws (suc n) g = all_cons (IsInput ws) (drawn ws g) (drawn_inputs ws n (after_drawn ws g)) (drawn_fits ws g) (drawn_fit ws n (after_drawn ws g))

-- every test input is an input
pub inputs_fit : (seed n : ℕ) (ws : List ℕ) → All (IsInput ws) (test_inputs seed n ws)
inputs_fit seed zero ws = none (IsInput ws)
inputs_fit seed (suc zero) ws = all_cons (IsInput ws) (zeros ws) [] (zeros_fit ws) (none (IsInput ws))
inputs_fit seed (suc (suc n)) ws = all_cons (IsInput ws) (zeros ws) (greatest ws ∷ drawn_inputs ws n (seeded seed)) (zeros_fit ws) (all_cons (IsInput ws) (greatest ws) (drawn_inputs ws n (seeded seed)) (greatest_fits ws) (drawn_fit ws n (seeded seed)))

-- two inputs and more
pub at_least_two : (seed n : ℕ) (ws : List ℕ) → 2 ≤ n → test_inputs seed n ws ≡ zeros ws ∷ greatest ws ∷ drawn_inputs ws (n - 2) (seeded seed)
at_least_two seed zero ws le = absurd (omega (arith, le))
at_least_two seed (suc zero) ws le = absurd (omega (arith, le))
at_least_two seed (suc (suc n)) ws le = let e : n ≡ suc (suc n) - 2 = omega arith in ap (λ (k : ℕ). zeros ws ∷ greatest ws ∷ drawn_inputs ws k (seeded seed)) e
