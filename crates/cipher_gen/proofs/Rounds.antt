-- What the rounds from one on give.
use Rattle.std.proofs.Common.{◌≡◌, ◌<◌, ◌≤◌, ℕ, zero, suc, ◌+◌, ◌-◌, List, [], ◌++◌, ap, ◌∙◌, sym, append_assoc, append-nil, length, length-append, ◌*◌, arith}
use Rattle.std.proofs.Math.Nat.{mul-zero, mul-suc}
use Rattle.std.specs.List.{flat_map, range_with_len}
use Rattle.cipher_gen.specs.Ciphers.{rounds, in_rounds}

unfoldable pub rounds_from : (ℕ → List ℕ) → ℕ → ℕ → List ℕ
rounds_from part n i = flat_map part (range_with_len i (rounds n - i))

pub all_rounds : (part : ℕ → List ℕ) (n : ℕ) → rounds_from part n 0 ≡ in_rounds part n
unfolding rounds_from in_rounds
all_rounds part n =
    let e : rounds n - 0 ≡ rounds n = omega arith in
    ap (λ k. flat_map part (range_with_len 0 k)) e

pub one_round : (part : ℕ → List ℕ) (n i : ℕ) → i < rounds n → rounds_from part n i ≡ part i ++ rounds_from part n (i + 1)
unfolding rounds_from
one_round part n i h =
    let e : rounds n - i ≡ suc (rounds n - (i + 1)) = omega arith in
    ap (λ k. flat_map part (range_with_len i k)) e

pub no_rounds : (part : ℕ → List ℕ) (n i : ℕ) → rounds n ≤ i → rounds_from part n i ≡ []
unfolding rounds_from
no_rounds part n i h =
    let e : rounds n - i ≡ 0 = omega arith in
    ap (λ k. flat_map part (range_with_len i k)) e

-- a loop over the rounds begins, goes on and ends
pub begun : (part : ℕ → List ℕ) (n : ℕ) (out : List ℕ) → out ++ rounds_from part n 0 ≡ out ++ in_rounds part n
begun part n out = ap (λ xs. out ++ xs) (all_rounds part n)

pub more : (part : ℕ → List ℕ) (n i : ℕ) (old new all : List ℕ) → i < rounds n → new ≡ old ++ part i → old ++ rounds_from part n i ≡ all → new ++ rounds_from part n (i + 1) ≡ all
more part n i old new all h is before =
    ap (λ xs. xs ++ rounds_from part n (i + 1)) is
    ∙ append_assoc old (part i) (rounds_from part n (i + 1))
    ∙ ap (λ xs. old ++ xs) (sym (one_round part n i h))
    ∙ before

pub done : (part : ℕ → List ℕ) (n i : ℕ) (out all : List ℕ) → rounds n ≤ i → out ++ rounds_from part n i ≡ all → out ≡ all
done part n i out all h before =
    sym (append-nil out) ∙ sym (ap (λ xs. out ++ xs) (no_rounds part n i h)) ∙ before

-- rounds of one length
pub length_of_rounds : (part : ℕ → List ℕ) (size : ℕ) → ((i : ℕ) → length (part i) ≡ size) → (i count : ℕ) → length (flat_map part (range_with_len i count)) ≡ size * count
length_of_rounds part size each i zero = sym (mul-zero size)
length_of_rounds part size each i (suc count) =
    length-append (part i) (flat_map part (range_with_len (i + 1) count))
    ∙ ap (λ k. k + length (flat_map part (range_with_len (i + 1) count))) (each i)
    ∙ ap (λ k. size + k) (length_of_rounds part size each (i + 1) count)
    ∙ (let e = mul-suc size count in omega arith)
