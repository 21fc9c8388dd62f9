-- Sums of factors times values.
use Rattle.std.proofs.Common.{◌≡◌, ℕ, zero, suc, ◌+◌, ◌*◌, ◌/◌, ◌%◌, ◌^◌, ◌<◌, List, [], ◌∷◌, length, get_or, set, refl, sym, ◌∙◌, ap, arith}
use Rattle.std.specs.Prelude.{slice_index, replicate, IsTrue, nat_eq}
use Rattle.std.proofs.Math.Nat.{div-add-mod, mod-mod}
use Rattle.std.proofs.lemmas.Bool.{eqb-true}
use Rattle.bv_words.specs.Words.{plus, chop}
use Rattle.word_check.specs.Sums.{weighed, IsSame}
use Rattle.word_check.proofs.Modular.{add_same, add_multiple}

-- a factor that is changed
set_weighed : (cs vs : List ℕ) (i x : ℕ) → i < length cs → weighed (set cs i x) vs + get_or cs i 0 * get_or vs i 0 ≡ weighed cs vs + x * get_or vs i 0
unfolding weighed
set_weighed [] vs i x h = absurd (omega (arith, h))
set_weighed (c ∷ cs) [] zero x h = omega arith
set_weighed (c ∷ cs) [] (suc i) x h = omega arith
set_weighed (c ∷ cs) (v ∷ vs) zero x h = omega arith
set_weighed (c ∷ cs) (v ∷ vs) (suc i) x h = let more = set_weighed cs vs i x (omega (arith, h)) in omega (arith, more)

-- a term more
pub weighed_more : (w : ℕ) (cs vs : List ℕ) (i factor old new k : ℕ) → i < length cs → old ≡ get_or cs i 0 → new ≡ plus w old factor → IsSame w (k + weighed (set cs i new) vs) (k + weighed cs vs + factor * slice_index vs i)
unfolding plus chop
weighed_more w cs vs i factor old new k h old-is new-is =
    let v : ℕ = get_or vs i 0 in
    let q : ℕ = (old + factor) / 2 ^ w in
    let changed : weighed (set cs i new) vs + old * v ≡ weighed cs vs + new * v = rw old-is (set_weighed cs vs i new h) in
    let whole : 2 ^ w * q + new ≡ old + factor = ap (λ (n : ℕ). 2 ^ w * q + n) new-is ∙ div-add-mod (old + factor) (2 ^ w) in
    let times : (2 ^ w * q + new) * v ≡ (old + factor) * v = ap (λ (n : ℕ). n * v) whole in
    let e : k + weighed (set cs i new) vs + 2 ^ w * (q * v) ≡ k + weighed cs vs + factor * v = joined (2 ^ w) q v new old factor k (weighed (set cs i new) vs) (weighed cs vs) changed times in
    sym (add_multiple (2 ^ w) (k + weighed (set cs i new) vs) (q * v)) ∙ ap (λ (n : ℕ). n % 2 ^ w) e
  where
    joined : (m q v new old factor k a b : ℕ) → a + old * v ≡ b + new * v → (m * q + new) * v ≡ (old + factor) * v → k + a + m * (q * v) ≡ k + b + factor * v
    joined m q v new old factor k a b p r = omega (arith, p, r)

-- a term that is taken out
pub weighed_less : (cs vs : List ℕ) (i : ℕ) → i < length cs → weighed (set cs i 0) vs + get_or cs i 0 * slice_index vs i ≡ weighed cs vs
weighed_less cs vs i h = omega (arith, set_weighed cs vs i 0 h)

-- no factor
pub weighed_none : (cs vs : List ℕ) → ((i : ℕ) → i < length cs → get_or cs i 0 ≡ 0) → weighed cs vs ≡ 0
unfolding weighed
weighed_none [] vs h = refl
weighed_none (c ∷ cs) [] h = refl
weighed_none (c ∷ cs) (v ∷ vs) h =
    let first : c ≡ 0 = h 0 (omega arith) in
    let more : weighed cs vs ≡ 0 = weighed_none cs vs (λ i lt. h (suc i) (omega (arith, lt))) in
    rw (first, more) (omega arith)

pub replicate_zero : (n i : ℕ) → slice_index (replicate n 0) i ≡ 0
replicate_zero zero i = refl
replicate_zero (suc n) zero = refl
replicate_zero (suc n) (suc i) = replicate_zero n i

-- a read within a list doesn't depend on what stands past its end
pub read_or : (cs : List ℕ) (i x : ℕ) → i < length cs → x ≡ get_or cs i x → x ≡ get_or cs i 0
read_or cs i x lt e = e ∙ get_or_any cs i x 0 lt
  where
    get_or_any : (cs : List ℕ) (i x y : ℕ) → i < length cs → get_or cs i x ≡ get_or cs i y
    get_or_any [] i x y h = absurd (omega (arith, h))
    get_or_any (c ∷ cs) zero x y h = refl
    get_or_any (c ∷ cs) (suc i) x y h = get_or_any cs i x y (omega (arith, h))

pub zero_total : (k a b : ℕ) → IsTrue (nat_eq k 0) → a ≡ 0 → b ≡ 0 → k + a + b ≡ 0
zero_total k a b on e f = omega (arith, eqb-true k 0 on, e, f)

-- a term of an overlap more
pub overlap_more : (w : ℕ) (cs us : List ℕ) (i factor old new k f : ℕ) → i < length cs → old ≡ get_or cs i 0 → new ≡ plus w old factor → IsSame w (k + weighed (set cs i new) us + f) (k + weighed cs us + f + factor * slice_index us i)
overlap_more w cs us i factor old new k f h old-is new-is =
    add_same (2 ^ w) (k + weighed (set cs i new) us) (k + weighed cs us + factor * slice_index us i) f f (weighed_more w cs us i factor old new k h old-is new-is) refl ∙ ap (λ (n : ℕ). n % 2 ^ w) (turn (k + weighed cs us) (factor * slice_index us i) f)
  where
    turn : (a b c : ℕ) → a + b + c ≡ a + c + b
    turn a b c = omega arith

-- a term is replaced by a constant and others: what the sum comes to beside the factors changes by the constant alone
replaced_total : (w : ℕ) (fs vs : List ℕ) (i k k2 c factor s end : ℕ) → i < length fs → factor ≡ get_or fs i 0 → IsSame w k2 (k + c) → IsSame w (c + s) (factor * slice_index vs i) → IsSame w end (k2 + weighed (set fs i 0) vs + s) → IsSame w end (k + weighed fs vs)
replaced_total w fs vs i k k2 c factor s end lt factor-is k2-same parts ends =
    let m : ℕ = 2 ^ w in
    let rest : ℕ = weighed (set fs i 0) vs in
    let less : rest + factor * slice_index vs i ≡ weighed fs vs = rw factor-is (weighed_less fs vs i lt) in
    ends
    ∙ ap (λ (n : ℕ). n % m) (group k2 rest s)
    ∙ add_same m k2 (k + c) (rest + s) (rest + s) k2-same refl
    ∙ ap (λ (n : ℕ). n % m) (turn k c rest s)
    ∙ add_same m (k + rest) (k + rest) (c + s) (factor * slice_index vs i) refl parts
    ∙ ap (λ (n : ℕ). n % m) (last k rest (factor * slice_index vs i) (weighed fs vs) less)
  where
    group : (a b c : ℕ) → a + b + c ≡ a + (b + c)
    group a b c = omega arith

    turn : (k c a b : ℕ) → k + c + (a + b) ≡ k + a + (c + b)
    turn k c a b = omega arith

    last : (k a b c : ℕ) → a + b ≡ c → k + a + b ≡ k + c
    last k a b c e = omega (arith, e)

-- a term is replaced by its parts
pub expanded_total : (w : ℕ) (fs vs : List ℕ) (i k k2 o c factor l r end : ℕ) → i < length fs → factor ≡ get_or fs i 0 → k2 ≡ plus w k c → IsSame w (c + (l + r)) (factor * slice_index vs i) → IsSame w end (k2 + o + weighed (set fs i 0) vs + (l + r)) → IsSame w end (k + o + weighed fs vs)
unfolding plus chop
expanded_total w fs vs i k k2 o c factor l r end lt factor-is k2-is parts ends =
    let k2-same : IsSame w (k2 + o) (k + o + c) =
    add_same (2 ^ w) k2 (k + c) o o (ap (λ (n : ℕ). n % 2 ^ w) k2-is ∙ mod-mod (k + c) (2 ^ w)) refl ∙ ap (λ (n : ℕ). n % 2 ^ w) (turn k c o) in
    replaced_total w fs vs i (k + o) (k2 + o) c factor (l + r) end lt factor-is k2-same parts ends
  where
    turn : (a b c : ℕ) → a + b + c ≡ a + c + b
    turn a b c = omega arith

-- a term is replaced by the parts of a bitwise node
pub expanded_bits : (w : ℕ) (fs vs : List ℕ) (i k factor s end : ℕ) → i < length fs → factor ≡ get_or fs i 0 → IsSame w s (factor * slice_index vs i) → IsSame w end (k + weighed (set fs i 0) vs + s) → IsSame w end (k + weighed fs vs)
expanded_bits w fs vs i k factor s end lt factor-is parts ends =
    replaced_total w fs vs i k k 0 factor s end lt factor-is (ap (λ (n : ℕ). n % 2 ^ w) (more k)) (ap (λ (n : ℕ). n % 2 ^ w) (start s) ∙ parts) ends
  where
    more : (k : ℕ) → k ≡ k + 0
    more k = omega arith

    start : (k : ℕ) → 0 + k ≡ k
    start k = omega arith
