-- How long the parts of a class file are.
use Rattle.std.proofs.Common.{◌≡◌, ℕ, ◌+◌, ◌*◌, [], ◌∷◌, length, length-append, refl, ap, ◌∙◌, arith}
use Rattle.cipher_gen.specs.Ciphers.{rounds, constant, in_rounds, utf8, class_info, named_class, classes, names, integer, pool, round_code, code, code_info, code_attribute, method, class_bytes}
use Rattle.cipher_gen.proofs.Rounds.{length_of_rounds}

pub length_code : (n : ℕ) → length (code n) ≡ 28 * rounds n + 4
unfolding code in_rounds
length_code n =
    length-append (in_rounds (round_code n) n) (0x1a ∷ 0x1b ∷ 0x82 ∷ 0xac ∷ [])
    ∙ ap (λ k. k + 4) (length_of_rounds (round_code n) 28 (λ i. refl) 0 (rounds n))

pub length_code_info : (n : ℕ) → length (code_info n) ≡ length (code n) + 12
unfolding code_info
length_code_info n =
    let e = length-append (code n) (0 ∷ 0 ∷ 0 ∷ 0 ∷ []) in
    omega (arith, e)

length_pool : (n : ℕ) → length (pool n) ≡ 54 + 5 * rounds n
unfolding pool classes named_class utf8 class_info names in_rounds
length_pool n =
    let e = length_of_rounds (λ i. integer (constant n i)) 5 (λ i. refl) 0 (rounds n) in
    omega (arith, e)

length_method : (n : ℕ) → length (method n) ≡ 14 + length (code_info n)
unfolding method code_attribute
length_method n = omega arith

pub length_class : (n : ℕ) → length (class_bytes n) ≡ 106 + 33 * rounds n
length_class n = simp (length-append, length_pool, length_method, length_code_info, length_code) (omega arith)
