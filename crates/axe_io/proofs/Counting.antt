-- Going to the next input adds one to its number.
use Rattle.std.proofs.Common.{◌≡◌, ℕ, zero, suc, ◌+◌, ◌-◌, ◌*◌, ◌/◌, ◌%◌, ◌^◌, ◌<◌, ◌≤◌, List, [], ◌∷◌, ◌++◌, length, take, drop, refl, sym, ap, ◌∙◌, subst, arith, drop-cons, length-drop, length-append}
use Rattle.std.specs.Prelude.{replicate, slice_index}
use Rattle.std.proofs.lemmas.List.{length-replicate, length-take-le}
use Rattle.std.proofs.Math.Seq.{take-append_seam}
use Rattle.std.proofs.Math.Nat.{mul-le-mul_left, mod-lt, div-lt_iff_lt-mul}
use Rattle.std.proofs.lemmas.Nat.{pow-add, pow_pos, div-mul-add, mod-mul-add}
use Rattle.axe_io.specs.Inputs.{IsInput, IsLast, CanRise, raised, number_of, bits_of, input_at}

-- the greatest leaf before the greatest rest is the greatest input
pub greatest_more : (w x : ℕ) (ws xs : List ℕ) → x + 1 ≡ 2 ^ w → number_of ws xs + 1 ≡ 2 ^ bits_of ws → number_of (w ∷ ws) (x ∷ xs) + 1 ≡ 2 ^ bits_of (w ∷ ws)
greatest_more w x ws xs top rest = rw (pow-add, ← top) (omega (arith, rest))

div_below : (a b n : ℕ) → 0 < b → n < a * b → n / b < a
div_below a b n pos lt = (div-lt_iff_lt-mul pos).1 lt

-- a carry
pub carry : (w x : ℕ) (ws xs zeros : List ℕ) → number_of ws xs + 1 ≡ 2 ^ bits_of ws → number_of ws zeros ≡ 0 → number_of (w ∷ ws) ((x + 1) ∷ zeros) ≡ number_of (w ∷ ws) (x ∷ xs) + 1
carry w x ws xs zeros full none = omega (arith, full, none)

pub number_of-zeros : (ws : List ℕ) → number_of ws (replicate (length ws) 0) ≡ 0
number_of-zeros [] = refl
number_of-zeros (w ∷ ws) = omega (arith, number_of-zeros ws)

pub zeros_fit : (ws : List ℕ) → IsInput ws (replicate (length ws) 0)
zeros_fit [] = tt
zeros_fit (w ∷ ws) = (pow_pos w, zeros_fit ws)

pub IsInput-length : (ws xs : List ℕ) → IsInput ws xs → length xs ≡ length ws
IsInput-length [] [] h = refl
IsInput-length (w ∷ ws) (x ∷ xs) h = omega (arith, IsInput-length ws xs h.1)
IsInput-length [] (x ∷ xs) h = absurd h
IsInput-length (w ∷ ws) [] h = absurd h

pub number_of-below : (ws xs : List ℕ) → IsInput ws xs → number_of ws xs < 2 ^ bits_of ws
number_of-below [] [] h = omega arith
number_of-below (w ∷ ws) (x ∷ xs) h =
    let le : x + 1 ≤ 2 ^ w = omega (arith, h.0) in
    rw pow-add (omega (arith, number_of-below ws xs h.1, mul-le-mul_left (2 ^ bits_of ws) le))
number_of-below [] (x ∷ xs) h = absurd h
number_of-below (w ∷ ws) [] h = absurd h

pub input_at-number_of : (ws xs : List ℕ) → IsInput ws xs → input_at ws (number_of ws xs) ≡ xs
input_at-number_of [] [] h = refl
input_at-number_of (w ∷ ws) (x ∷ xs) h =
    let below = number_of-below ws xs h.1 in
    rw (div-mul-add x (2 ^ bits_of ws) (number_of ws xs) below, mod-mul-add x (2 ^ bits_of ws) (number_of ws xs) below, input_at-number_of ws xs h.1) refl
input_at-number_of [] (x ∷ xs) h = absurd h
input_at-number_of (w ∷ ws) [] h = absurd h

pub IsInput-input_at : (ws : List ℕ) (n : ℕ) → n < 2 ^ bits_of ws → IsInput ws (input_at ws n)
IsInput-input_at [] n lt = tt
IsInput-input_at (w ∷ ws) n lt =
    let lt' : n < 2 ^ w * 2 ^ bits_of ws = rw pow-add at lt in
    (div_below (2 ^ w) (2 ^ bits_of ws) n (pow_pos (bits_of ws)) lt', IsInput-input_at ws (n % 2 ^ bits_of ws) (mod-lt n (pow_pos (bits_of ws))))

pub number_of-input_at : (ws : List ℕ) (n : ℕ) → n < 2 ^ bits_of ws → number_of ws (input_at ws n) ≡ n
number_of-input_at [] n lt = omega (arith, lt)
number_of-input_at (w ∷ ws) n lt = rw (number_of-input_at ws (n % 2 ^ bits_of ws) (mod-lt n (pow_pos (bits_of ws)))) (omega (arith, pow_pos (bits_of ws)))

-- Two lists of one length, from a place on.

pub IsLast-nothing : (ws xs : List ℕ) → IsInput ws xs → IsLast (drop (length xs) ws) (drop (length xs) xs)
IsLast-nothing [] [] h = refl
IsLast-nothing (w ∷ ws) (x ∷ xs) h = IsLast-nothing ws xs h.1
IsLast-nothing [] (x ∷ xs) h = absurd h
IsLast-nothing (w ∷ ws) [] h = absurd h

after : (ws xs : List ℕ) (k : ℕ) → IsLast (drop (k + 1) ws) (drop (k + 1) xs) → IsLast (drop (suc k) ws) (drop (suc k) xs)
after ws xs k last = let e : k + 1 ≡ suc k = omega arith in subst (λ (n : ℕ). IsLast (drop n ws) (drop n xs)) e last

-- a leaf that is the greatest before greatest ones
pub IsLast-more : (ws xs : List ℕ) (k : ℕ) → IsInput ws xs → k < length xs → slice_index xs k + 1 ≡ 2 ^ slice_index ws k → IsLast (drop (k + 1) ws) (drop (k + 1) xs) → IsLast (drop k ws) (drop k xs)
IsLast-more ws xs k h lt top rest =
    let ltw : k < length ws = omega (arith, lt, IsInput-length ws xs h) in
    rw (drop-cons ws k 0 ltw, drop-cons xs k 0 lt) (greatest_more (slice_index ws k) (slice_index xs k) (drop (suc k) ws) (drop (suc k) xs) top (after ws xs k rest))

-- a leaf is below its width's power
pub IsInput-below : (ws xs : List ℕ) (k : ℕ) → IsInput ws xs → k < length xs → slice_index xs k < 2 ^ slice_index ws k
IsInput-below [] [] k h lt = absurd (omega (arith, lt))
IsInput-below (w ∷ ws) (x ∷ xs) zero h lt = h.0
IsInput-below (w ∷ ws) (x ∷ xs) (suc k) h lt = IsInput-below ws xs k h.1 (omega (arith, lt))
IsInput-below [] (x ∷ xs) k h lt = absurd h
IsInput-below (w ∷ ws) [] k h lt = absurd h

-- the leaves from a place on changed so that their number grows by one
rises : (ws xs ys : List ℕ) (k : ℕ) → IsInput ws xs → k < length xs → number_of (drop k ws) ys ≡ number_of (drop k ws) (drop k xs) + 1 → number_of ws (take k xs ++ ys) ≡ number_of ws xs + 1
rises [] [] ys k h lt one = absurd (omega (arith, lt))
rises (w ∷ ws) (x ∷ xs) ys zero h lt one = one
rises (w ∷ ws) (x ∷ xs) ys (suc k) h lt one = omega (arith, rises ws xs ys k h.1 (omega (arith, lt)) one)
rises [] (x ∷ xs) ys k h lt one = absurd h
rises (w ∷ ws) [] ys k h lt one = absurd h

still_fits : (ws xs ys : List ℕ) (k : ℕ) → IsInput ws xs → k < length xs → IsInput (drop k ws) ys → IsInput ws (take k xs ++ ys)
still_fits [] [] ys k h lt fits = absurd (omega (arith, lt))
still_fits (w ∷ ws) (x ∷ xs) ys zero h lt fits = fits
still_fits (w ∷ ws) (x ∷ xs) ys (suc k) h lt fits = (h.0, still_fits ws xs ys k h.1 (omega (arith, lt)) fits)
still_fits [] (x ∷ xs) ys k h lt fits = absurd h
still_fits (w ∷ ws) [] ys k h lt fits = absurd h

-- the zeros after a raised leaf are as many as there are widths
zeros_are : (ws xs : List ℕ) (k : ℕ) → IsInput ws xs → k < length xs → length xs - (k + 1) ≡ length (drop (suc k) ws)
zeros_are ws xs k h lt = omega (arith, length-drop (suc k) ws, IsInput-length ws xs h, lt)

pub number_of-raised : (ws xs : List ℕ) (k : ℕ) → IsInput ws xs → CanRise ws xs k → number_of ws (raised xs k) ≡ number_of ws xs + 1
number_of-raised ws xs k h can =
    let ltw : k < length ws = omega (arith, can.within, IsInput-length ws xs h) in
    rises ws xs _ k h can.within (rw (drop-cons ws k 0 ltw, drop-cons xs k 0 can.within, zeros_are ws xs k h can.within)
    (carry (slice_index ws k) (slice_index xs k) (drop (suc k) ws) (drop (suc k) xs) (replicate (length (drop (suc k) ws)) 0) (after ws xs k can.rest) (number_of-zeros (drop (suc k) ws))))

pub IsInput-raised : (ws xs : List ℕ) (k : ℕ) → IsInput ws xs → CanRise ws xs k → IsInput ws (raised xs k)
IsInput-raised ws xs k h can =
    let ltw : k < length ws = omega (arith, can.within, IsInput-length ws xs h) in
    still_fits ws xs _ k h can.within (rw (drop-cons ws k 0 ltw, zeros_are ws xs k h can.within) (can.room, zeros_fit (drop (suc k) ws)))

pub length-raised : (xs : List ℕ) (k : ℕ) → k < length xs → length (raised xs k) ≡ length xs
length-raised xs k lt = rw (length-append, length-take-le k xs (omega (arith, lt))) (omega (arith, lt, length-replicate {A = ℕ} (length xs - (k + 1)) 0))

-- what stands in a list that was written over whole
pub written_over : (n : ℕ) (new old : List ℕ) → length new ≡ n → take n (new ++ drop (length new) old) ≡ new
written_over n new old same = ap (λ (m : ℕ). take m (new ++ drop (length new) old)) (sym same) ∙ take-append_seam new (drop (length new) old)
