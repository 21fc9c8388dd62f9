-- Words joined by And, or by Or: neither order nor number of the operands counts.
use Rattle.std.proofs.Common.{◌≡◌, ℕ, zero, suc, ◌/◌, ◌<◌, ◌≤◌, ◌^◌, Bool, true, false, List, [], ◌∷◌, length, get_or, set, refl, sym, ◌∙◌, ap, arith, Some, length-set}
use Rattle.std.specs.Prelude.{slice_get, slice_index, cond, bit_or, replicate, IsTrue}
use mathlib.Core.Bool.{beq}
use lib.Pointwise.{pointwise}
use Rattle.std.specs.Int.Bits.{and_self, or_self, or_step, or_zero_r}
use Rattle.std.proofs.Math.Arith.{bin_ind}
use Rattle.std.proofs.Math.Nat.{mod-eq_of_lt, pow-le-pow_right}
use Rattle.std.proofs.lemmas.Nat.{and_comm, or_comm, and_assoc, or_shr, and_mask}
use Rattle.dag.specs.declared.node.Node.{Node}
use Rattle.word_check.specs.Valuation.{AlwaysSame}
use Rattle.std.proofs.lemmas.Option.{slice_get-get_or}
use Rattle.word_check.proofs.Differing.{value_below}
use Rattle.word_check.specs.Operands.{joined, neutral, joined_all, KeepsJoined, AreOperands, IsJoined}
use Rattle.word_check.specs.declared.operands.Joining.{Joining}
use Rattle.word_check.specs.declared.operands.Joining.TheVariants.{And, Or}

or_assoc : (c a b : ℕ) → bit_or (bit_or a b) c ≡ bit_or a (bit_or b c)
or_assoc =
    bin_ind (λ (c : ℕ). (a b : ℕ) → bit_or (bit_or a b) c ≡ bit_or a (bit_or b c)) (λ a b. or_zero_r (bit_or a b) ∙ sym (ap (bit_or a) (or_zero_r b)))
    (λ c ih a b.
    let p : bit_or (bit_or a b / 2) (c / 2) ≡ bit_or (a / 2) (bit_or b c / 2) = ap (λ (x : ℕ). bit_or x (c / 2)) (or_shr a b 1) ∙ ih (a / 2) (b / 2) ∙ sym (ap (bit_or (a / 2)) (or_shr b c 1)) in
    omega (arith, or_step (bit_or a b) c, or_step a (bit_or b c), or_step a b, or_step b c, p))

assoc : (j : Joining) (x y z : ℕ) → joined j (joined j x y) z ≡ joined j x (joined j y z)
assoc And x y z = and_assoc z x y
assoc Or x y z = or_assoc z x y

comm : (j : Joining) (x y : ℕ) → joined j x y ≡ joined j y x
comm And x y = and_comm x y
comm Or x y = or_comm x y

itself : (j : Joining) (x : ℕ) → joined j x x ≡ x
itself And x = and_self x
itself Or x = or_self x

-- with what changes no word
alone : (j : Joining) (x : ℕ) → x < 2 ^ 64 → joined j x (neutral j) ≡ x
alone And x h = and_mask x 64 ∙ mod-eq_of_lt h
alone Or x h = or_zero_r x

-- one that is joined twice
again : (j : Joining) (x y : ℕ) → joined j x (joined j x y) ≡ joined j x y
again j x y = sym (assoc j x x y) ∙ ap (λ (n : ℕ). joined j n y) (itself j x)

-- the order is free
turned : (j : Joining) (x y z : ℕ) → joined j x (joined j y z) ≡ joined j y (joined j x z)
turned j x y z = sym (assoc j x y z) ∙ ap (λ (n : ℕ). joined j n z) (comm j x y) ∙ assoc j y x z

-- a member more
put : (j : Joining) (bs : List Bool) (vs : List ℕ) (i : ℕ) → i < length bs → joined_all j (set bs i true) vs ≡ joined j (slice_index vs i) (joined_all j bs vs)
unfolding joined_all
put j [] vs i lt = absurd (omega (arith, lt))
put j (b ∷ bs) [] zero lt = first b
  where
    first : (b : Bool) → joined j 0 (joined_all j bs []) ≡ joined j 0 (cond b (joined j 0 (joined_all j bs [])) (joined_all j bs []))
    first true = sym (again j 0 (joined_all j bs []))
    first false = refl
put j (b ∷ bs) [] (suc i) lt = later b (put j bs [] i (omega (arith, lt)))
  where
    later : (b : Bool) → joined_all j (set bs i true) [] ≡ joined j 0 (joined_all j bs []) → cond b (joined j 0 (joined_all j (set bs i true) [])) (joined_all j (set bs i true) []) ≡ joined j 0 (cond b (joined j 0 (joined_all j bs [])) (joined_all j bs []))
    later true e = ap (joined j 0) e
    later false e = e
put j (b ∷ bs) (v ∷ vs) zero lt = first b
  where
    first : (b : Bool) → joined j v (joined_all j bs vs) ≡ joined j v (cond b (joined j v (joined_all j bs vs)) (joined_all j bs vs))
    first true = sym (again j v (joined_all j bs vs))
    first false = refl
put j (b ∷ bs) (v ∷ vs) (suc i) lt = later b (put j bs vs i (omega (arith, lt)))
  where
    x : ℕ
    x = slice_index vs i

    later : (b : Bool) → joined_all j (set bs i true) vs ≡ joined j x (joined_all j bs vs) → cond b (joined j v (joined_all j (set bs i true) vs)) (joined_all j (set bs i true) vs) ≡ joined j x (cond b (joined j v (joined_all j bs vs)) (joined_all j bs vs))
    later true e = ap (joined j v) e ∙ turned j v x (joined_all j bs vs)
    later false e = e

-- a member taken out
taken : (j : Joining) (bs : List Bool) (vs : List ℕ) (i : ℕ) → i < length bs → get_or bs i false ≡ true → joined_all j bs vs ≡ joined j (slice_index vs i) (joined_all j (set bs i false) vs)
unfolding joined_all
taken j [] vs i lt on = absurd (omega (arith, lt))
taken j (b ∷ bs) [] zero lt on = ap (λ (c : Bool). cond c (joined j 0 (joined_all j bs [])) (joined_all j bs [])) on
taken j (b ∷ bs) [] (suc i) lt on = later b (taken j bs [] i (omega (arith, lt)) on)
  where
    later : (b : Bool) → joined_all j bs [] ≡ joined j 0 (joined_all j (set bs i false) []) → cond b (joined j 0 (joined_all j bs [])) (joined_all j bs []) ≡ joined j 0 (cond b (joined j 0 (joined_all j (set bs i false) [])) (joined_all j (set bs i false) []))
    later true e = ap (joined j 0) e
    later false e = e
taken j (b ∷ bs) (v ∷ vs) zero lt on = ap (λ (c : Bool). cond c (joined j v (joined_all j bs vs)) (joined_all j bs vs)) on
taken j (b ∷ bs) (v ∷ vs) (suc i) lt on = later b (taken j bs vs i (omega (arith, lt)) on)
  where
    x : ℕ
    x = slice_index vs i

    later : (b : Bool) → joined_all j bs vs ≡ joined j x (joined_all j (set bs i false) vs) → cond b (joined j v (joined_all j bs vs)) (joined_all j bs vs) ≡ joined j x (cond b (joined j v (joined_all j (set bs i false) vs)) (joined_all j (set bs i false) vs))
    later true e = ap (joined j v) e ∙ turned j v x (joined_all j (set bs i false) vs)
    later false e = e

-- no members
none_joined : (j : Joining) (n : ℕ) (vs : List ℕ) → joined_all j (replicate n false) vs ≡ neutral j
unfolding joined_all
none_joined j zero vs = refl
none_joined j (suc n) [] = none_joined j n []
none_joined j (suc n) (v ∷ vs) = none_joined j n vs

-- a member is replaced by its operands
pub replaced_joined : (nodes : List Node) (j : Joining) (bs : List Bool) (place a b : ℕ) → place < length bs → get_or bs place false ≡ true → a < length bs → b < length bs → IsJoined nodes j place a b → KeepsJoined nodes j bs (set (set (set bs place false) a true) b true)
replaced_joined nodes j bs place a b lt on a-in b-in is ws vs h =
    let x : ℕ = slice_index vs a in
    let y : ℕ = slice_index vs b in
    let rest : ℕ = joined_all j (set bs place false) vs in
    put j (set (set bs place false) a true) vs b (omega (arith, b-in, length-set (set bs place false) a true, length-set bs place false))
    ∙ ap (joined j y) (put j (set bs place false) vs a (omega (arith, a-in, length-set bs place false)))
    ∙ turned j y x rest ∙ sym (assoc j x y rest) ∙ ap (λ (n : ℕ). joined j n rest) (sym (is ws vs h)) ∙ sym (taken j bs vs place lt on)

-- the node alone
pub alone_operands : (nodes : List Node) (j : Joining) (place count : ℕ) → place < count → AreOperands nodes j place (set (replicate count false) place true)
alone_operands nodes j place count lt ws vs h small =
    put j (replicate count false) vs place (many count place lt) ∙ ap (joined j (slice_index vs place)) (none_joined j count vs) ∙ alone j (slice_index vs place) small
  where
    many : (n i : ℕ) → i < n → i < length (replicate n false)
    many zero i lt = absurd (omega (arith, lt))
    many (suc n) zero lt = omega arith
    many (suc n) (suc i) lt = let e = many n i (omega (arith, lt)) in omega (arith, e)

pub operands_kept : (nodes : List Node) (j : Joining) (place : ℕ) (old new : List Bool) → AreOperands nodes j place old → KeepsJoined nodes j old new → AreOperands nodes j place new
operands_kept nodes j place old new are keeps ws vs h small = keeps ws vs h ∙ are ws vs h small

-- a read within a list doesn't depend on what stands past its end
pub read_member : (bs : List Bool) (i : ℕ) (x : Bool) → i < length bs → x ≡ get_or bs i x → x ≡ true → get_or bs i false ≡ true
read_member bs i x lt e on = get_or_any bs i false x lt ∙ sym e ∙ on
  where
    get_or_any : (bs : List Bool) (i : ℕ) (x y : Bool) → i < length bs → get_or bs i x ≡ get_or bs i y
    get_or_any [] i x y h = absurd (omega (arith, h))
    get_or_any (c ∷ cs) zero x y h = refl
    get_or_any (c ∷ cs) (suc i) x y h = get_or_any cs i x y (omega (arith, h))

-- nodes of the same operands have the same value
pub same_operands : (nodes : List Node) (ws : List ℕ) (j : Joining) (first second : ℕ) (left right : List Bool) → first < length nodes → second < length nodes → length ws ≡ length nodes → ((k w : ℕ) → slice_get ws k ≡ Some w → (1 ≤ w) × (w ≤ 64))
    → AreOperands nodes j first left → AreOperands nodes j second right → left ≡ right → AlwaysSame nodes ws first second
same_operands nodes ws j first second left right one two size wide are others same vs h =
    sym (are ws vs h (small first one)) ∙ ap (λ (bs : List Bool). joined_all j bs vs) same ∙ others ws vs h (small second two)
  where
    raised : (w : ℕ) → w ≤ 64 → 2 ^ w ≤ 2 ^ 64
    raised w le = pow-le-pow_right (omega arith) le

    small : (k : ℕ) → k < length nodes → slice_index vs k < 2 ^ 64
    small k lt =
        let inside : k < length ws = omega (arith, lt, size) in
        let high : slice_index ws k ≤ 64 = (wide k (slice_index ws k) (slice_get-get_or ws k 0 inside)).1 in
        let low : slice_index vs k < 2 ^ slice_index ws k = value_below nodes ws vs k h inside in
        omega (arith, low, raised (slice_index ws k) high)

-- what a test of two sets tells
pub one_set : (xs ys : List Bool) → IsTrue (pointwise beq xs ys) → xs ≡ ys
one_set [] [] h = refl
one_set [] (y ∷ ys) h = cc
one_set (x ∷ xs) [] h = cc
one_set (true ∷ xs) (true ∷ ys) h = ap (λ (zs : List Bool). true ∷ zs) (one_set xs ys h)
one_set (true ∷ xs) (false ∷ ys) h = cc
one_set (false ∷ xs) (true ∷ ys) h = cc
one_set (false ∷ xs) (false ∷ ys) h = ap (λ (zs : List Bool). false ∷ zs) (one_set xs ys h)
