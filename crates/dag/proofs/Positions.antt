-- Children of each kind of node, by position, and nodes without regard to them.
use Rattle.std.proofs.Common.{◌≡◌, ℕ, zero, suc, ◌<◌, ◌≤◌, List, [], ◌∷◌, refl, sym, ◌∙◌, ap, arith, ◌⊎◌, inl, inr}
use Rattle.dag.specs.declared.node.NodeId.{NodeId}
use Rattle.dag.specs.declared.node.Node.{Node}
use Rattle.dag.specs.declared.node.Node.TheVariants.{Leaf, Const, Not, And, Or, Xor, Neg, Plus, Times, Eq, Ult, Slt, Ite, Slice, Cat, Sext, Shl, Shr, Udiv, Urem}
use Rattle.dag.specs.declared.value.Word.{Word}
use Rattle.dag.specs.Node.{form, child_at, no_node, with_children, arity, nth_child, bare, word_at, kind_value, node_value, first, second, third}
use Rattle.dag.proofs.Reading.{Reads, value_reads}
use Rattle.dag.proofs.Replacing.{form_same, value_same}

-- a position is one of a child, or what stands there is 0
pub past_children : (n : Node) (i : ℕ) → (i < arity n) ⊎ (nth_child n i ≡ 0)
past_children (Leaf w u) zero = inr refl
past_children (Leaf w u) (suc zero) = inr refl
past_children (Leaf w u) (suc (suc zero)) = inr refl
past_children (Leaf w u) (suc (suc (suc i))) = inr refl
past_children (Const w v) zero = inr refl
past_children (Const w v) (suc zero) = inr refl
past_children (Const w v) (suc (suc zero)) = inr refl
past_children (Const w v) (suc (suc (suc i))) = inr refl
past_children (Not a) zero = inl (omega arith)
past_children (Not a) (suc zero) = inr refl
past_children (Not a) (suc (suc zero)) = inr refl
past_children (Not a) (suc (suc (suc i))) = inr refl
past_children (And a b) zero = inl (omega arith)
past_children (And a b) (suc zero) = inl (omega arith)
past_children (And a b) (suc (suc zero)) = inr refl
past_children (And a b) (suc (suc (suc i))) = inr refl
past_children (Or a b) zero = inl (omega arith)
past_children (Or a b) (suc zero) = inl (omega arith)
past_children (Or a b) (suc (suc zero)) = inr refl
past_children (Or a b) (suc (suc (suc i))) = inr refl
past_children (Xor a b) zero = inl (omega arith)
past_children (Xor a b) (suc zero) = inl (omega arith)
past_children (Xor a b) (suc (suc zero)) = inr refl
past_children (Xor a b) (suc (suc (suc i))) = inr refl
past_children (Neg a) zero = inl (omega arith)
past_children (Neg a) (suc zero) = inr refl
past_children (Neg a) (suc (suc zero)) = inr refl
past_children (Neg a) (suc (suc (suc i))) = inr refl
past_children (Plus a b) zero = inl (omega arith)
past_children (Plus a b) (suc zero) = inl (omega arith)
past_children (Plus a b) (suc (suc zero)) = inr refl
past_children (Plus a b) (suc (suc (suc i))) = inr refl
past_children (Times a b) zero = inl (omega arith)
past_children (Times a b) (suc zero) = inl (omega arith)
past_children (Times a b) (suc (suc zero)) = inr refl
past_children (Times a b) (suc (suc (suc i))) = inr refl
past_children (Eq a b) zero = inl (omega arith)
past_children (Eq a b) (suc zero) = inl (omega arith)
past_children (Eq a b) (suc (suc zero)) = inr refl
past_children (Eq a b) (suc (suc (suc i))) = inr refl
past_children (Ult a b) zero = inl (omega arith)
past_children (Ult a b) (suc zero) = inl (omega arith)
past_children (Ult a b) (suc (suc zero)) = inr refl
past_children (Ult a b) (suc (suc (suc i))) = inr refl
past_children (Slt a b) zero = inl (omega arith)
past_children (Slt a b) (suc zero) = inl (omega arith)
past_children (Slt a b) (suc (suc zero)) = inr refl
past_children (Slt a b) (suc (suc (suc i))) = inr refl
past_children (Ite a b c) zero = inl (omega arith)
past_children (Ite a b c) (suc zero) = inl (omega arith)
past_children (Ite a b c) (suc (suc zero)) = inl (omega arith)
past_children (Ite a b c) (suc (suc (suc i))) = inr refl
past_children (Slice u l a) zero = inl (omega arith)
past_children (Slice u l a) (suc zero) = inr refl
past_children (Slice u l a) (suc (suc zero)) = inr refl
past_children (Slice u l a) (suc (suc (suc i))) = inr refl
past_children (Cat a b) zero = inl (omega arith)
past_children (Cat a b) (suc zero) = inl (omega arith)
past_children (Cat a b) (suc (suc zero)) = inr refl
past_children (Cat a b) (suc (suc (suc i))) = inr refl
past_children (Sext w a) zero = inl (omega arith)
past_children (Sext w a) (suc zero) = inr refl
past_children (Sext w a) (suc (suc zero)) = inr refl
past_children (Sext w a) (suc (suc (suc i))) = inr refl
past_children (Shl a b) zero = inl (omega arith)
past_children (Shl a b) (suc zero) = inl (omega arith)
past_children (Shl a b) (suc (suc zero)) = inr refl
past_children (Shl a b) (suc (suc (suc i))) = inr refl
past_children (Shr a b) zero = inl (omega arith)
past_children (Shr a b) (suc zero) = inl (omega arith)
past_children (Shr a b) (suc (suc zero)) = inr refl
past_children (Shr a b) (suc (suc (suc i))) = inr refl
past_children (Udiv a b) zero = inl (omega arith)
past_children (Udiv a b) (suc zero) = inl (omega arith)
past_children (Udiv a b) (suc (suc zero)) = inr refl
past_children (Udiv a b) (suc (suc (suc i))) = inr refl
past_children (Urem a b) zero = inl (omega arith)
past_children (Urem a b) (suc zero) = inl (omega arith)
past_children (Urem a b) (suc (suc zero)) = inr refl
past_children (Urem a b) (suc (suc (suc i))) = inr refl

pub arity_small : (n : Node) → arity n ≤ 3
arity_small (Leaf w u) = omega arith
arity_small (Const w v) = omega arith
arity_small (Not a) = omega arith
arity_small (And a b) = omega arith
arity_small (Or a b) = omega arith
arity_small (Xor a b) = omega arith
arity_small (Neg a) = omega arith
arity_small (Plus a b) = omega arith
arity_small (Times a b) = omega arith
arity_small (Eq a b) = omega arith
arity_small (Ult a b) = omega arith
arity_small (Slt a b) = omega arith
arity_small (Ite a b c) = omega arith
arity_small (Slice u l a) = omega arith
arity_small (Cat a b) = omega arith
arity_small (Sext w a) = omega arith
arity_small (Shl a b) = omega arith
arity_small (Shr a b) = omega arith
arity_small (Udiv a b) = omega arith
arity_small (Urem a b) = omega arith

-- what holds of each child holds of the positions that a node reads, and the other way round
pub reads_from : (n : Node) (P : ℕ → Type 0) → ((i : ℕ) → i < arity n → P i) → Reads (form n) (P 0) (P 1) (P 2)
reads_from (Leaf w u) P h = tt
reads_from (Const w v) P h = tt
reads_from (Not a) P h = h 0 (omega arith)
reads_from (And a b) P h = (h 0 (omega arith), h 1 (omega arith))
reads_from (Or a b) P h = (h 0 (omega arith), h 1 (omega arith))
reads_from (Xor a b) P h = (h 0 (omega arith), h 1 (omega arith))
reads_from (Neg a) P h = h 0 (omega arith)
reads_from (Plus a b) P h = (h 0 (omega arith), h 1 (omega arith))
reads_from (Times a b) P h = (h 0 (omega arith), h 1 (omega arith))
reads_from (Eq a b) P h = (h 0 (omega arith), h 1 (omega arith))
reads_from (Ult a b) P h = (h 0 (omega arith), h 1 (omega arith))
reads_from (Slt a b) P h = (h 0 (omega arith), h 1 (omega arith))
reads_from (Ite a b c) P h = (h 0 (omega arith), h 1 (omega arith), h 2 (omega arith))
reads_from (Slice u l a) P h = h 0 (omega arith)
reads_from (Cat a b) P h = (h 0 (omega arith), h 1 (omega arith))
reads_from (Sext w a) P h = h 0 (omega arith)
reads_from (Shl a b) P h = (h 0 (omega arith), h 1 (omega arith))
reads_from (Shr a b) P h = (h 0 (omega arith), h 1 (omega arith))
reads_from (Udiv a b) P h = (h 0 (omega arith), h 1 (omega arith))
reads_from (Urem a b) P h = (h 0 (omega arith), h 1 (omega arith))

pub reads_at : (n : Node) (P : ℕ → Type 0) → Reads (form n) (P 0) (P 1) (P 2) → (i : ℕ) → i < arity n → P i
reads_at (Leaf w u) P h i lt = absurd (omega (arith, lt))
reads_at (Const w v) P h i lt = absurd (omega (arith, lt))
reads_at (Not a) P h zero lt = h
reads_at (Not a) P h (suc i) lt = absurd (omega (arith, lt))
reads_at (And a b) P h zero lt = h.0
reads_at (And a b) P h (suc zero) lt = h.1
reads_at (And a b) P h (suc (suc i)) lt = absurd (omega (arith, lt))
reads_at (Or a b) P h zero lt = h.0
reads_at (Or a b) P h (suc zero) lt = h.1
reads_at (Or a b) P h (suc (suc i)) lt = absurd (omega (arith, lt))
reads_at (Xor a b) P h zero lt = h.0
reads_at (Xor a b) P h (suc zero) lt = h.1
reads_at (Xor a b) P h (suc (suc i)) lt = absurd (omega (arith, lt))
reads_at (Neg a) P h zero lt = h
reads_at (Neg a) P h (suc i) lt = absurd (omega (arith, lt))
reads_at (Plus a b) P h zero lt = h.0
reads_at (Plus a b) P h (suc zero) lt = h.1
reads_at (Plus a b) P h (suc (suc i)) lt = absurd (omega (arith, lt))
reads_at (Times a b) P h zero lt = h.0
reads_at (Times a b) P h (suc zero) lt = h.1
reads_at (Times a b) P h (suc (suc i)) lt = absurd (omega (arith, lt))
reads_at (Eq a b) P h zero lt = h.0
reads_at (Eq a b) P h (suc zero) lt = h.1
reads_at (Eq a b) P h (suc (suc i)) lt = absurd (omega (arith, lt))
reads_at (Ult a b) P h zero lt = h.0
reads_at (Ult a b) P h (suc zero) lt = h.1
reads_at (Ult a b) P h (suc (suc i)) lt = absurd (omega (arith, lt))
reads_at (Slt a b) P h zero lt = h.0
reads_at (Slt a b) P h (suc zero) lt = h.1
reads_at (Slt a b) P h (suc (suc i)) lt = absurd (omega (arith, lt))
reads_at (Ite a b c) P h zero lt = h.0
reads_at (Ite a b c) P h (suc zero) lt = h.1
reads_at (Ite a b c) P h (suc (suc zero)) lt = h.2
reads_at (Ite a b c) P h (suc (suc (suc i))) lt = absurd (omega (arith, lt))
reads_at (Slice u l a) P h zero lt = h
reads_at (Slice u l a) P h (suc i) lt = absurd (omega (arith, lt))
reads_at (Cat a b) P h zero lt = h.0
reads_at (Cat a b) P h (suc zero) lt = h.1
reads_at (Cat a b) P h (suc (suc i)) lt = absurd (omega (arith, lt))
reads_at (Sext w a) P h zero lt = h
reads_at (Sext w a) P h (suc i) lt = absurd (omega (arith, lt))
reads_at (Shl a b) P h zero lt = h.0
reads_at (Shl a b) P h (suc zero) lt = h.1
reads_at (Shl a b) P h (suc (suc i)) lt = absurd (omega (arith, lt))
reads_at (Shr a b) P h zero lt = h.0
reads_at (Shr a b) P h (suc zero) lt = h.1
reads_at (Shr a b) P h (suc (suc i)) lt = absurd (omega (arith, lt))
reads_at (Udiv a b) P h zero lt = h.0
reads_at (Udiv a b) P h (suc zero) lt = h.1
reads_at (Udiv a b) P h (suc (suc i)) lt = absurd (omega (arith, lt))
reads_at (Urem a b) P h zero lt = h.0
reads_at (Urem a b) P h (suc zero) lt = h.1
reads_at (Urem a b) P h (suc (suc i)) lt = absurd (omega (arith, lt))

-- the children of a node whose children are replaced
pub replaced_child : (n : Node) (p q r : NodeId) (i : ℕ) → i < arity n → nth_child (with_children n (p ∷ q ∷ r ∷ [])) i ≡ (child_at (p ∷ q ∷ r ∷ []) i).0
replaced_child (Leaf w u) p q r i lt = absurd (omega (arith, lt))
replaced_child (Const w v) p q r i lt = absurd (omega (arith, lt))
replaced_child (Not k) p q r zero lt = refl
replaced_child (Not k) p q r (suc i) lt = absurd (omega (arith, lt))
replaced_child (And k m) p q r zero lt = refl
replaced_child (And k m) p q r (suc zero) lt = refl
replaced_child (And k m) p q r (suc (suc i)) lt = absurd (omega (arith, lt))
replaced_child (Or k m) p q r zero lt = refl
replaced_child (Or k m) p q r (suc zero) lt = refl
replaced_child (Or k m) p q r (suc (suc i)) lt = absurd (omega (arith, lt))
replaced_child (Xor k m) p q r zero lt = refl
replaced_child (Xor k m) p q r (suc zero) lt = refl
replaced_child (Xor k m) p q r (suc (suc i)) lt = absurd (omega (arith, lt))
replaced_child (Neg k) p q r zero lt = refl
replaced_child (Neg k) p q r (suc i) lt = absurd (omega (arith, lt))
replaced_child (Plus k m) p q r zero lt = refl
replaced_child (Plus k m) p q r (suc zero) lt = refl
replaced_child (Plus k m) p q r (suc (suc i)) lt = absurd (omega (arith, lt))
replaced_child (Times k m) p q r zero lt = refl
replaced_child (Times k m) p q r (suc zero) lt = refl
replaced_child (Times k m) p q r (suc (suc i)) lt = absurd (omega (arith, lt))
replaced_child (Eq k m) p q r zero lt = refl
replaced_child (Eq k m) p q r (suc zero) lt = refl
replaced_child (Eq k m) p q r (suc (suc i)) lt = absurd (omega (arith, lt))
replaced_child (Ult k m) p q r zero lt = refl
replaced_child (Ult k m) p q r (suc zero) lt = refl
replaced_child (Ult k m) p q r (suc (suc i)) lt = absurd (omega (arith, lt))
replaced_child (Slt k m) p q r zero lt = refl
replaced_child (Slt k m) p q r (suc zero) lt = refl
replaced_child (Slt k m) p q r (suc (suc i)) lt = absurd (omega (arith, lt))
replaced_child (Ite k m o) p q r zero lt = refl
replaced_child (Ite k m o) p q r (suc zero) lt = refl
replaced_child (Ite k m o) p q r (suc (suc zero)) lt = refl
replaced_child (Ite k m o) p q r (suc (suc (suc i))) lt = absurd (omega (arith, lt))
replaced_child (Slice h l k) p q r zero lt = refl
replaced_child (Slice h l k) p q r (suc i) lt = absurd (omega (arith, lt))
replaced_child (Cat k m) p q r zero lt = refl
replaced_child (Cat k m) p q r (suc zero) lt = refl
replaced_child (Cat k m) p q r (suc (suc i)) lt = absurd (omega (arith, lt))
replaced_child (Sext w k) p q r zero lt = refl
replaced_child (Sext w k) p q r (suc i) lt = absurd (omega (arith, lt))
replaced_child (Shl k m) p q r zero lt = refl
replaced_child (Shl k m) p q r (suc zero) lt = refl
replaced_child (Shl k m) p q r (suc (suc i)) lt = absurd (omega (arith, lt))
replaced_child (Shr k m) p q r zero lt = refl
replaced_child (Shr k m) p q r (suc zero) lt = refl
replaced_child (Shr k m) p q r (suc (suc i)) lt = absurd (omega (arith, lt))
replaced_child (Udiv k m) p q r zero lt = refl
replaced_child (Udiv k m) p q r (suc zero) lt = refl
replaced_child (Udiv k m) p q r (suc (suc i)) lt = absurd (omega (arith, lt))
replaced_child (Urem k m) p q r zero lt = refl
replaced_child (Urem k m) p q r (suc zero) lt = refl
replaced_child (Urem k m) p q r (suc (suc i)) lt = absurd (omega (arith, lt))

pub replaced_arity : (n : Node) (ids : List NodeId) → arity (with_children n ids) ≡ arity n
replaced_arity (Leaf w u) ids = refl
replaced_arity (Const w v) ids = refl
replaced_arity (Not a) ids = refl
replaced_arity (And a b) ids = refl
replaced_arity (Or a b) ids = refl
replaced_arity (Xor a b) ids = refl
replaced_arity (Neg a) ids = refl
replaced_arity (Plus a b) ids = refl
replaced_arity (Times a b) ids = refl
replaced_arity (Eq a b) ids = refl
replaced_arity (Ult a b) ids = refl
replaced_arity (Slt a b) ids = refl
replaced_arity (Ite a b c) ids = refl
replaced_arity (Slice u l a) ids = refl
replaced_arity (Cat a b) ids = refl
replaced_arity (Sext w a) ids = refl
replaced_arity (Shl a b) ids = refl
replaced_arity (Shr a b) ids = refl
replaced_arity (Udiv a b) ids = refl
replaced_arity (Urem a b) ids = refl

pub bare_again : (n : Node) (ids : List NodeId) → bare (with_children n ids) ≡ bare n
bare_again (Leaf w u) ids = refl
bare_again (Const w v) ids = refl
bare_again (Not a) ids = refl
bare_again (And a b) ids = refl
bare_again (Or a b) ids = refl
bare_again (Xor a b) ids = refl
bare_again (Neg a) ids = refl
bare_again (Plus a b) ids = refl
bare_again (Times a b) ids = refl
bare_again (Eq a b) ids = refl
bare_again (Ult a b) ids = refl
bare_again (Slt a b) ids = refl
bare_again (Ite a b c) ids = refl
bare_again (Slice u l a) ids = refl
bare_again (Cat a b) ids = refl
bare_again (Sext w a) ids = refl
bare_again (Shl a b) ids = refl
bare_again (Shr a b) ids = refl
bare_again (Udiv a b) ids = refl
bare_again (Urem a b) ids = refl

-- ---- nodes without regard to their children

none : List NodeId
none = no_node ∷ no_node ∷ no_node ∷ []

pub bare_arity : (n m : Node) → bare n ≡ bare m → arity n ≡ arity m
unfolding none
bare_arity n m e = sym (replaced_arity n none) ∙ ap arity e ∙ replaced_arity m none

pub bare_form : (n m : Node) → bare n ≡ bare m → form n ≡ form m
unfolding none
bare_form n m e = sym (form_same n none) ∙ ap form e ∙ form_same m none

pub bare_value : (input : List ℕ) (n m : Node) (x y z : Word) → bare n ≡ bare m → kind_value input n x y z ≡ kind_value input m x y z
unfolding none
bare_value input n m x y z e = sym (value_same input n none x y z) ∙ ap (λ (k : Node). kind_value input k x y z) e ∙ value_same input m none x y z

-- two nodes of one bare node, whose children have equal words, have one value
pub same_value : (input ws vs us ts : List ℕ) (n m : Node) → bare n ≡ bare m → ((i : ℕ) → i < arity n → word_at ws vs (nth_child n i) ≡ word_at us ts (nth_child m i)) → node_value input ws vs n ≡ node_value input us ts m
same_value input ws vs us ts n m e h =
    value_reads input n _ _ _ _ _ _ (reads_from n (λ (i : ℕ). word_at ws vs (nth_child n i) ≡ word_at us ts (nth_child m i)) h)
    ∙ bare_value input n m (word_at us ts (first m)) (word_at us ts (second m)) (word_at us ts (third m)) e
