-- What a node reads: its width, value and charge come from the positions that its form reads, and from no others.
use Rattle.std.proofs.Common.{◌≡◌, ℕ, Bool, true, false, List, [], ◌∷◌, take, refl, ◌∙◌, ap, Option, Some, None}
use Rattle.std.specs.Prelude.{IsSome, nat_eq, cond}
use Rattle.dag.specs.declared.node.Form.{Form}
use Rattle.dag.specs.declared.node.Form.TheVariants.{Input, Constant, Unary, Binary, Test, Choice, Cut, Joined, Widened, Shifted}
use Rattle.dag.specs.declared.node.Node.{Node}
use Rattle.dag.specs.declared.node.Node.TheVariants.{Leaf, Const, Not, And, Or, Xor, Neg, Plus, Times, Eq, Ult, Slt, Ite, Slice, Cat, Sext, Shl, Shr, Udiv, Urem}
use Rattle.dag.specs.declared.value.Word.{Word}
use Rattle.dag.specs.Node.{form, children, width_by, same_width, test_width, choice_width, cut_width, joined_width, widened_width, shifted_width, kind_value, kind_charge, charge_at, widest}

-- what holds of the positions that a form reads
abbrev pub Reads : Form → Type 0 → Type 0 → Type 0 → Type 0
Reads (Input w i) P Q R = Unit {0}
Reads (Constant w v) P Q R = Unit {0}
Reads Unary P Q R = P
Reads (Cut h l) P Q R = P
Reads (Widened w) P Q R = P
Reads Choice P Q R = P × Q × R
Reads f P Q R = P × Q

both_there : (x y : Option ℕ) → IsSome (same_width x y) → IsSome x × IsSome y
both_there (Some x) (Some y) h = (refl, refl)
both_there (Some x) None h = cc
both_there None y h = cc

tested_there : (x : Option ℕ) → IsSome (test_width x) → IsSome x
tested_there (Some x) h = refl
tested_there None h = cc

chosen_there : (x y : Option ℕ) → IsSome (choice_width x y) → IsSome x × IsSome y
chosen_there (Some x) (Some y) h = (refl, refl)
chosen_there (Some x) None h = absurd (none (nat_eq x 1) h)
  where
    none : (b : Bool) → IsSome {T = ℕ} (cond b None None) → ⊥
    none true h = cc
    none false h = cc
chosen_there None y h = cc

cut_there : (h l : ℕ) (x : Option ℕ) → IsSome (cut_width h l x) → IsSome x
cut_there h l (Some x) p = refl
cut_there h l None p = cc

joined_there : (x y : Option ℕ) → IsSome (joined_width x y) → IsSome x × IsSome y
joined_there (Some x) (Some y) h = (refl, refl)
joined_there (Some x) None h = cc
joined_there None y h = cc

widened_there : (w : ℕ) (x : Option ℕ) → IsSome (widened_width w x) → IsSome x
widened_there w (Some x) p = refl
widened_there w None p = cc

shifted_there : (x y : Option ℕ) → IsSome (shifted_width x y) → IsSome x × IsSome y
shifted_there x (Some y) h = (h, refl)
shifted_there x None h = cc

-- a node that fits has a child at each position that it reads
pub form_reads : (ls : List ℕ) (f : Form) (x y z : Option ℕ) → IsSome (width_by ls f x y z) → Reads f (IsSome x) (IsSome y) (IsSome z)
form_reads ls (Input w i) x y z h = tt
form_reads ls (Constant w v) x y z h = tt
form_reads ls Unary x y z h = h
form_reads ls Binary x y z h = both_there x y h
form_reads ls Test x y z h = both_there x y (tested_there (same_width x y) h)
form_reads ls Choice x y z h = let p = chosen_there x (same_width y z) h in let q = both_there y z p.1 in (p.0, q.0, q.1)
form_reads ls (Cut i l) x y z h = cut_there i l x h
form_reads ls Joined x y z h = joined_there x y h
form_reads ls (Widened w) x y z h = widened_there w x h
form_reads ls Shifted x y z h = shifted_there x y h

pub reads_map : (f : Form) (P Q R S T U : Type 0) → (P → S) → (Q → T) → (R → U) → Reads f P Q R → Reads f S T U
reads_map (Input w n) P Q R S T U i j k h = tt
reads_map (Constant w v) P Q R S T U i j k h = tt
reads_map Unary P Q R S T U i j k h = i h
reads_map (Cut a l) P Q R S T U i j k h = i h
reads_map (Widened w) P Q R S T U i j k h = i h
reads_map Choice P Q R S T U i j k h = (i h.0, j h.1, k h.2)
reads_map Binary P Q R S T U i j k h = (i h.0, j h.1)
reads_map Test P Q R S T U i j k h = (i h.0, j h.1)
reads_map Joined P Q R S T U i j k h = (i h.0, j h.1)
reads_map Shifted P Q R S T U i j k h = (i h.0, j h.1)

pub width_reads : (ls : List ℕ) (f : Form) (x y z x' y' z' : Option ℕ) → Reads f (x ≡ x') (y ≡ y') (z ≡ z') → width_by ls f x y z ≡ width_by ls f x' y' z'
width_reads ls (Input w i) x y z x' y' z' h = refl
width_reads ls (Constant w v) x y z x' y' z' h = refl
width_reads ls Unary x y z x' y' z' h = h
width_reads ls Binary x y z x' y' z' h = ap (λ (u : Option ℕ). same_width u y) h.0 ∙ ap (λ (u : Option ℕ). same_width x' u) h.1
width_reads ls Test x y z x' y' z' h = ap (λ (u : Option ℕ). test_width (same_width u y)) h.0 ∙ ap (λ (u : Option ℕ). test_width (same_width x' u)) h.1
width_reads ls Choice x y z x' y' z' h = ap (λ (u : Option ℕ). choice_width u (same_width y z)) h.0 ∙ ap (λ (u : Option ℕ). choice_width x' (same_width u z)) h.1 ∙ ap (λ (u : Option ℕ). choice_width x' (same_width y' u)) h.2
width_reads ls (Cut a l) x y z x' y' z' h = ap (cut_width a l) h
width_reads ls Joined x y z x' y' z' h = ap (λ (u : Option ℕ). joined_width u y) h.0 ∙ ap (λ (u : Option ℕ). joined_width x' u) h.1
width_reads ls (Widened w) x y z x' y' z' h = ap (widened_width w) h
width_reads ls Shifted x y z x' y' z' h = ap (λ (u : Option ℕ). shifted_width u y) h.0 ∙ ap (λ (u : Option ℕ). shifted_width x' u) h.1

-- a node's value comes from the words that it reads
pub value_reads : (input : List ℕ) (n : Node) (x y z x' y' z' : Word) → Reads (form n) (x ≡ x') (y ≡ y') (z ≡ z') → kind_value input n x y z ≡ kind_value input n x' y' z'
value_reads input (Leaf w i) x y z x' y' z' h = refl
value_reads input (Const w v) x y z x' y' z' h = refl
value_reads input (Not a) x y z x' y' z' p = ap (λ (u : Word). kind_value input (Not a) u y z) p
value_reads input (Neg a) x y z x' y' z' p = ap (λ (u : Word). kind_value input (Neg a) u y z) p
value_reads input (Slice h l a) x y z x' y' z' p = ap (λ (u : Word). kind_value input (Slice h l a) u y z) p
value_reads input (Sext w a) x y z x' y' z' p = ap (λ (u : Word). kind_value input (Sext w a) u y z) p
value_reads input (And a b) x y z x' y' z' p = ap (λ (u : Word). kind_value input (And a b) u y z) p.0 ∙ ap (λ (u : Word). kind_value input (And a b) x' u z) p.1
value_reads input (Or a b) x y z x' y' z' p = ap (λ (u : Word). kind_value input (Or a b) u y z) p.0 ∙ ap (λ (u : Word). kind_value input (Or a b) x' u z) p.1
value_reads input (Xor a b) x y z x' y' z' p = ap (λ (u : Word). kind_value input (Xor a b) u y z) p.0 ∙ ap (λ (u : Word). kind_value input (Xor a b) x' u z) p.1
value_reads input (Plus a b) x y z x' y' z' p = ap (λ (u : Word). kind_value input (Plus a b) u y z) p.0 ∙ ap (λ (u : Word). kind_value input (Plus a b) x' u z) p.1
value_reads input (Times a b) x y z x' y' z' p = ap (λ (u : Word). kind_value input (Times a b) u y z) p.0 ∙ ap (λ (u : Word). kind_value input (Times a b) x' u z) p.1
value_reads input (Eq a b) x y z x' y' z' p = ap (λ (u : Word). kind_value input (Eq a b) u y z) p.0 ∙ ap (λ (u : Word). kind_value input (Eq a b) x' u z) p.1
value_reads input (Ult a b) x y z x' y' z' p = ap (λ (u : Word). kind_value input (Ult a b) u y z) p.0 ∙ ap (λ (u : Word). kind_value input (Ult a b) x' u z) p.1
value_reads input (Slt a b) x y z x' y' z' p = ap (λ (u : Word). kind_value input (Slt a b) u y z) p.0 ∙ ap (λ (u : Word). kind_value input (Slt a b) x' u z) p.1
value_reads input (Cat a b) x y z x' y' z' p = ap (λ (u : Word). kind_value input (Cat a b) u y z) p.0 ∙ ap (λ (u : Word). kind_value input (Cat a b) x' u z) p.1
value_reads input (Shl a b) x y z x' y' z' p = ap (λ (u : Word). kind_value input (Shl a b) u y z) p.0 ∙ ap (λ (u : Word). kind_value input (Shl a b) x' u z) p.1
value_reads input (Shr a b) x y z x' y' z' p = ap (λ (u : Word). kind_value input (Shr a b) u y z) p.0 ∙ ap (λ (u : Word). kind_value input (Shr a b) x' u z) p.1
value_reads input (Udiv a b) x y z x' y' z' p = ap (λ (u : Word). kind_value input (Udiv a b) u y z) p.0 ∙ ap (λ (u : Word). kind_value input (Udiv a b) x' u z) p.1
value_reads input (Urem a b) x y z x' y' z' p = ap (λ (u : Word). kind_value input (Urem a b) u y z) p.0 ∙ ap (λ (u : Word). kind_value input (Urem a b) x' u z) p.1
value_reads input (Ite a b c) x y z x' y' z' p = ap (λ (u : Word). kind_value input (Ite a b c) u y z) p.0 ∙ ap (λ (u : Word). kind_value input (Ite a b c) x' u z) p.1 ∙ ap (λ (u : Word). kind_value input (Ite a b c) x' y' u) p.2

one_taken : (x x' : ℕ) → x ≡ x' → x ∷ [] ≡ x' ∷ []
one_taken x x' e = cc

two_taken : (x y x' y' : ℕ) → (x ≡ x') × (y ≡ y') → x ∷ y ∷ [] ≡ x' ∷ y' ∷ []
two_taken x y x' y' p = cc (p.0, p.1)

-- the widths that a node's charge comes from
taken_reads : (n : Node) (x y z x' y' z' : ℕ) → Reads (form n) (x ≡ x') (y ≡ y') (z ≡ z') → take (children n).count (x ∷ y ∷ z ∷ []) ≡ take (children n).count (x' ∷ y' ∷ z' ∷ [])
taken_reads (Leaf w i) x y z x' y' z' h = refl
taken_reads (Const w v) x y z x' y' z' h = refl
taken_reads (Not a) x y z x' y' z' p = one_taken x x' p
taken_reads (Neg a) x y z x' y' z' p = one_taken x x' p
taken_reads (Slice h l a) x y z x' y' z' p = one_taken x x' p
taken_reads (Sext w a) x y z x' y' z' p = one_taken x x' p
taken_reads (And a b) x y z x' y' z' p = two_taken x y x' y' p
taken_reads (Or a b) x y z x' y' z' p = two_taken x y x' y' p
taken_reads (Xor a b) x y z x' y' z' p = two_taken x y x' y' p
taken_reads (Plus a b) x y z x' y' z' p = two_taken x y x' y' p
taken_reads (Times a b) x y z x' y' z' p = two_taken x y x' y' p
taken_reads (Eq a b) x y z x' y' z' p = two_taken x y x' y' p
taken_reads (Ult a b) x y z x' y' z' p = two_taken x y x' y' p
taken_reads (Slt a b) x y z x' y' z' p = two_taken x y x' y' p
taken_reads (Cat a b) x y z x' y' z' p = two_taken x y x' y' p
taken_reads (Shl a b) x y z x' y' z' p = two_taken x y x' y' p
taken_reads (Shr a b) x y z x' y' z' p = two_taken x y x' y' p
taken_reads (Udiv a b) x y z x' y' z' p = two_taken x y x' y' p
taken_reads (Urem a b) x y z x' y' z' p = two_taken x y x' y' p
taken_reads (Ite a b c) x y z x' y' z' p = cc (p.0, p.1, p.2)

-- a node's charge comes from the widths that it reads
pub charge_reads : (n : Node) (w x y z x' y' z' : ℕ) → Reads (form n) (x ≡ x') (y ≡ y') (z ≡ z') → kind_charge n w x y z ≡ kind_charge n w x' y' z'
charge_reads n w x y z x' y' z' p = ap (λ (ws : List ℕ). charge_at (widest w ws) n) (taken_reads n x y z x' y' z' p)
