-- Rows of arrays, one after another.
use Rattle.std.proofs.Common.{◌≡◌, ◌==◌, ℕ, zero, suc, ◌+◌, ◌-◌, ◌*◌, ◌^◌, ◌<◌, true, false, List, [], ◌∷◌, ◌++◌, length, replicate, reverse, Option, Some, Ok, refl, sym, ap, ◌∙◌, arith, append_assoc, length-append}
use Rattle.std.proofs.lemmas.List.{reverse-append}
use Rattle.jvm_state.specs.declared.types.ArrayType.{ArrayType}
use Rattle.jvm_state.specs.declared.arrays.Array.{Array}
use Rattle.jvm_state.specs.declared.arrays.Array.TheVariants.{References}
use Rattle.jvm_state.specs.declared.stop.Halt.{Halt}
use Rattle.jvm_state.specs.declared.stop.Halt.TheVariants as halt
use Rattle.jvm_state.specs.Stops.{Part, ◌>>=◌, Halts}
use Rattle.jvm_state.specs.Stacks.{pop_int}
use Rattle.jvm_meaning.specs.Numbers.{Arrays, Operands}
use Rattle.jvm_meaning.specs.ArrayUses.{counted, rows, lowered, made_arrays, total_in, pop_counts}

pub pop_more : (n : ℕ) (taken : List ℕ) (stack : Operands) → 0 < n → pop_counts n taken stack ≡ (pop_int stack >>= λ count. pop_counts (n - 1) (count.0 ∷ taken) count.1)
pop_more zero taken stack lt = absurd (omega arith)
pop_more (suc n) taken stack lt = let e : suc n - 1 ≡ n = omega arith in rw e refl

pub count_more : (first n : ℕ) → 0 < n → counted first n ≡ Some first ∷ counted (first + 1) (n - 1)
count_more first zero lt = absurd (omega arith)
count_more first (suc n) lt = let e : suc n - 1 ≡ n = omega arith in let f : first + 1 ≡ suc first = omega arith in rw (e, f) refl

pub row_more : (inner : ArrayType) (first count n : ℕ) → 0 < n → rows inner first count n ≡ References inner (counted first count) ∷ rows inner (first + count) count (n - 1)
row_more inner first count zero lt = absurd (omega arith)
row_more inner first count (suc n) lt = let e : suc n - 1 ≡ n = omega arith in rw e refl

rows_count : (inner : ArrayType) (first count many : ℕ) → length (rows inner first count many) ≡ many
rows_count inner first count zero = refl
rows_count inner first count (suc many) = ap suc (rows_count inner (first + count) count many)

-- a level is made, and then those below it
pub level : (old new : Arrays) (t : ArrayType) (many count below : ℕ) (counts : List ℕ) → new ≡ old ++ rows (lowered t) (length old + many) count many
    → new ++ made_arrays (length new) (lowered t) (many * count) (below ∷ counts) ≡ old ++ made_arrays (length old) t many (count ∷ (below ∷ counts))
level old new t many count below counts is =
    let made : length new ≡ length old + many = ap length is ∙ length-append old (rows (lowered t) (length old + many) count many) ∙ ap (λ n. length old + n) (rows_count (lowered t) (length old + many) count many) in
    let rest : ℕ → Arrays = λ first. made_arrays first (lowered t) (many * count) (below ∷ counts) in
    ap (λ first. new ++ rest first) made ∙ ap (λ arrays. arrays ++ rest (length old + many)) is ∙ simp append_assoc

pub count_step : (cells : List (Option ℕ)) (first left : ℕ) (all : List (Option ℕ)) → 0 < left → cells ++ counted first left ≡ all → (cells ++ Some first ∷ []) ++ counted (first + 1) (left - 1) ≡ all
count_step cells first left all lt so_far =
    let moved : (cells ++ (Some first ∷ [])) ++ counted (first + 1) (left - 1) ≡ cells ++ (Some first ∷ counted (first + 1) (left - 1)) = simp append_assoc in
    moved ∙ ap (λ more. cells ++ more) (sym (count_more first left lt)) ∙ so_far

pub row_step : (arrays : Arrays) (inner : ArrayType) (first count left : ℕ) (all : Arrays) → 0 < left → arrays ++ rows inner first count left ≡ all
    → (arrays ++ References inner (counted first count) ∷ []) ++ rows inner (first + count) count (left - 1) ≡ all
row_step arrays inner first count left all lt so_far =
    let row : Array ℕ = References inner (counted first count) in
    let moved : (arrays ++ (row ∷ [])) ++ rows inner (first + count) count (left - 1) ≡ arrays ++ (row ∷ rows inner (first + count) count (left - 1)) = simp append_assoc in
    moved ∙ ap (λ more. arrays ++ more) (sym (row_more inner first count left lt)) ∙ so_far

copy_more : (a : Array ℕ) (n : ℕ) → 0 < n → replicate n a ≡ a ∷ replicate (n - 1) a
copy_more a zero lt = absurd (omega arith)
copy_more a (suc n) lt = let e : suc n - 1 ≡ n = omega arith in rw e refl

pub copy_step : (arrays : Arrays) (a : Array ℕ) (left : ℕ) (all : Arrays) → 0 < left → arrays ++ replicate left a ≡ all → (arrays ++ a ∷ []) ++ replicate (left - 1) a ≡ all
copy_step arrays a left all lt so_far =
    let moved : (arrays ++ (a ∷ [])) ++ replicate (left - 1) a ≡ arrays ++ (a ∷ replicate (left - 1) a) = simp append_assoc in
    moved ∙ ap (λ more. arrays ++ more) (sym (copy_more a left lt)) ∙ so_far

-- ---- counts that are taken

pub pop_step : (d c : ℕ) (taken items : List ℕ) (old new : Operands) (n : ℕ) (all : Part (List ℕ × Operands)) → c < d → items ≡ taken ++ n ∷ [] → pop_int old ≡ Ok (n, new)
    → pop_counts (d - c) (reverse taken) old ≡ all → pop_counts (d - (c + 1)) (reverse items) new ≡ all
pop_step d c taken items old new n all lt more is so_far =
    let e : d - (c + 1) ≡ (d - c) - 1 = omega arith in
    let back : reverse items ≡ n ∷ reverse taken = ap reverse more ∙ reverse-append taken (n ∷ []) in
    let one : pop_counts (d - c) (reverse taken) old ≡ pop_counts ((d - c) - 1) (n ∷ reverse taken) new =
    pop_more (d - c) (reverse taken) old (omega (arith, lt)) ∙ ap (λ (part : Part (ℕ × Operands)). part >>= λ count. pop_counts ((d - c) - 1) (count.0 ∷ reverse taken) count.1) is in
    rw (e, back) (sym one ∙ so_far)

pub pop_stop : (d c : ℕ) (taken : List ℕ) (old : Operands) (h : Halt) (all : Part (List ℕ × Operands)) → c < d → Halts h (pop_int old) → pop_counts (d - c) (reverse taken) old ≡ all → Halts h all
pop_stop d c taken old halt.Memory all lt is so_far = tt
pop_stop d c taken old (halt.Stopped stop) all lt is so_far =
    sym so_far ∙ pop_more (d - c) (reverse taken) old (omega (arith, lt)) ∙ ap (λ (part : Part (ℕ × Operands)). part >>= λ count. pop_counts ((d - c) - 1) (count.0 ∷ reverse taken) count.1) is

-- ---- one level more

pub level_on : (old new all : Arrays) (t low : ArrayType) (many count product : ℕ) (rest below : List ℕ) → rest ≡ count ∷ below → (length below == 0) ≡ false → low ≡ lowered t
    → new ≡ old ++ rows low (length old + many) count many → product ≡ many * count → old ++ made_arrays (length old) t many rest ≡ all → new ++ made_arrays (length new) low product below ≡ all
level_on old new all t low many count product rest [] is some lower made times so_far = let no : true ≡ false = some in absurd (cc)
level_on old new all t low many count product rest (next ∷ below) is some lower made times so_far =
    let made_low : new ≡ old ++ rows (lowered t) (length old + many) count many = made ∙ ap (λ (inner : ArrayType). old ++ rows inner (length old + many) count many) lower in
    let here : new ++ made_arrays (length new) (lowered t) (many * count) (next ∷ below) ≡ all =
    level old new t many count next below made_low ∙ ap (λ ns. old ++ made_arrays (length old) t many ns) (sym is) ∙ so_far in
    rw (lower, times) here

pub total_on : (many count product : ℕ) (rest below : List ℕ) → rest ≡ count ∷ below → product ≡ many * count → total_in many rest < 2 ^ 64 → total_in product below < 2 ^ 64
total_on many count product rest below is times few =
    let all : total_in many rest ≡ many * count + total_in (many * count) below = ap (total_in many) is in
    rw times (omega (arith, all, few))
