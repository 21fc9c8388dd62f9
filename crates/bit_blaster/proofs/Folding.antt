-- Gates with a constant among their inputs.
use Rattle.std.proofs.Common.{◌≡◌, ◌≢◌, ℕ, Bool, true, false, not, cond, Option, Some, None, MatchOption, refl, sym, ap, ◌∙◌}
use Rattle.cnf_clauses.specs.Literal.{Literal, value_of, opposite}
use Rattle.cnf_clauses.specs.Formula.{Cnf}
use Rattle.cnf_clauses.proofs.Meeting.{value_of-opposite}
use Rattle.bit_blaster.specs.Gates.{HasRoom, IsGate, constant, signed, choose, most, odd}
use Rattle.bit_blaster.proofs.Growing.{constant_value}

-- a gate also has each value that is the same wherever variable 0 is true
pub gate_likewise : (f g : Cnf) (n : ℕ) (l : Literal) (p q : (ℕ → Bool) → Bool) → HasRoom f n → ((v : ℕ → Bool) → v 0 ≡ true → p v ≡ q v) → IsGate f g 1 l p → IsGate f g 1 l q
gate_likewise f g n l p q r e h = record { grows = h.grows; inside = h.inside; means = λ v m. h.means v m ∙ e v (r.on v (h.grows.kept v m)) }

signed_constant : (value : Bool) → signed value (constant true) ≡ constant value
signed_constant true = refl
signed_constant false = refl

-- a literal that is related to the constant `true` is a constant, and one that isn't is none
pub known_by : (o : Option Bool) (a l : Literal) → a ≡ constant true → MatchOption o ((same : Bool) → l ≢ signed same a) (λ same. l ≡ signed same a) → MatchOption o ((value : Bool) → l ≢ constant value) (λ value. l ≡ constant value)
known_by None a l e h = λ value is. h value (is ∙ sym (ap (signed value) e ∙ signed_constant value))
known_by (Some same) a l e h = h ∙ (ap (signed same) e ∙ signed_constant same)

known_value : (v : ℕ → Bool) (on : Bool) (l : Literal) → v 0 ≡ true → l ≡ constant on → value_of v l ≡ on
known_value v on l o e = rw e (constant_value v on o)

opposite_value : (v : ℕ → Bool) (l m : Literal) → m ≡ opposite l → value_of v m ≡ not (value_of v l)
opposite_value v l m e = rw e (value_of-opposite v l)

pick_value : (v : ℕ → Bool) (first : Bool) (a b l : Literal) → l ≡ cond first a b → value_of v l ≡ cond first (value_of v a) (value_of v b)
pick_value v true a b l e = rw e refl
pick_value v false a b l e = rw e refl

choose_first_table : (k c b : Bool) → most k (cond k c (not c)) b ≡ choose c k b
choose_first_table true true true = refl
choose_first_table true true false = refl
choose_first_table true false true = refl
choose_first_table true false false = refl
choose_first_table false true true = refl
choose_first_table false true false = refl
choose_first_table false false true = refl
choose_first_table false false false = refl

-- choosing between a constant and a literal
pub choose_first : (v : ℕ → Bool) (on : Bool) (c a b x y : Literal) → v 0 ≡ true → a ≡ constant on → y ≡ opposite c → x ≡ cond on c y → most on (value_of v x) (value_of v b) ≡ choose (value_of v c) (value_of v a) (value_of v b)
choose_first v on c a b x y o e n p = rw (pick_value v on c y x p, opposite_value v c y n, known_value v on a o e) (choose_first_table on (value_of v c) (value_of v b))

choose_second_table : (k c a : Bool) → most k (cond k (not c) c) a ≡ choose c a k
choose_second_table true true true = refl
choose_second_table true true false = refl
choose_second_table true false true = refl
choose_second_table true false false = refl
choose_second_table false true true = refl
choose_second_table false true false = refl
choose_second_table false false true = refl
choose_second_table false false false = refl

-- choosing between a literal and a constant
pub choose_second : (v : ℕ → Bool) (on : Bool) (c a b x y : Literal) → v 0 ≡ true → b ≡ constant on → y ≡ opposite c → x ≡ cond on y c → most on (value_of v x) (value_of v a) ≡ choose (value_of v c) (value_of v a) (value_of v b)
choose_second v on c a b x y o e n p = rw (pick_value v on y c x p, opposite_value v c y n, known_value v on b o e) (choose_second_table on (value_of v c) (value_of v a))

most_third_table : (k a b : Bool) → most k a b ≡ most a b k
most_third_table true true true = refl
most_third_table true true false = refl
most_third_table true false true = refl
most_third_table true false false = refl
most_third_table false true true = refl
most_third_table false true false = refl
most_third_table false false true = refl
most_third_table false false false = refl

pub most_third : (v : ℕ → Bool) (on : Bool) (a b c : Literal) → v 0 ≡ true → c ≡ constant on → most on (value_of v a) (value_of v b) ≡ most (value_of v a) (value_of v b) (value_of v c)
most_third v on a b c o e = rw (known_value v on c o e) (most_third_table on (value_of v a) (value_of v b))

odd_second_table : (k a c : Bool) → odd k a c ≡ odd a k c
odd_second_table true true true = refl
odd_second_table true true false = refl
odd_second_table true false true = refl
odd_second_table true false false = refl
odd_second_table false true true = refl
odd_second_table false true false = refl
odd_second_table false false true = refl
odd_second_table false false false = refl

pub odd_second : (v : ℕ → Bool) (on : Bool) (a b c : Literal) → v 0 ≡ true → b ≡ constant on → odd on (value_of v a) (value_of v c) ≡ odd (value_of v a) (value_of v b) (value_of v c)
odd_second v on a b c o e = rw (known_value v on b o e) (odd_second_table on (value_of v a) (value_of v c))

odd_third_table : (k a b : Bool) → odd k a b ≡ odd a b k
odd_third_table true true true = refl
odd_third_table true true false = refl
odd_third_table true false true = refl
odd_third_table true false false = refl
odd_third_table false true true = refl
odd_third_table false true false = refl
odd_third_table false false true = refl
odd_third_table false false false = refl

pub odd_third : (v : ℕ → Bool) (on : Bool) (a b c : Literal) → v 0 ≡ true → c ≡ constant on → odd on (value_of v a) (value_of v b) ≡ odd (value_of v a) (value_of v b) (value_of v c)
odd_third v on a b c o e = rw (known_value v on c o e) (odd_third_table on (value_of v a) (value_of v b))
