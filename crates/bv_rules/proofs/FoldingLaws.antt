-- Operations on constants are constants.
use Rattle.std.proofs.Common.{◌≡◌, ℕ, true, List, [], refl, sym, ◌∙◌, Option, Some, None, arith}
use Rattle.std.specs.Prelude.{slice_get, slice_index, slice_index_or, nat_lt}
use Rattle.std.proofs.lemmas.Option.{get_or_from_slice_get}
use Rattle.dag.specs.declared.node.Node.{Node}
use Rattle.dag.specs.declared.node.Node.TheVariants.{Leaf, Const, Not, And, Or, Xor, Neg, Plus, Times, Eq, Ult, Slt, Ite, Slice, Cat, Sext, Shl, Shr, Udiv, Urem}
use Rattle.dag.specs.declared.value.Word.{Word}
use Rattle.dag.specs.Node.{children, first, second, kind_value, constant_width, word_at, IsWord}
use Rattle.dag.specs.Graph.{Graph, AreValues}
use Rattle.dag.proofs.Inverting.{constant_fits}
use Rattle.bv_rules.specs.declared.plan.PlanId.TheVariants.{New}
use Rattle.bv_rules.specs.Plans.{IsView, SameValue, one_plan, step}
use Rattle.bv_rules.proofs.Viewing.{first_child, second_child}

-- a node of one child reads that child alone
pub reads_one : (n : Node) (input : List ℕ) (x y z y' z' : Word) → (children n).count ≡ 1 → kind_value input n x y z ≡ kind_value [] n x y' z'
reads_one (Leaf w i) input x y z y' z' h = absurd (omega arith)
reads_one (Const w v) input x y z y' z' h = refl
reads_one (Not a) input x y z y' z' h = refl
reads_one (And a b) input x y z y' z' h = absurd (omega arith)
reads_one (Or a b) input x y z y' z' h = absurd (omega arith)
reads_one (Xor a b) input x y z y' z' h = absurd (omega arith)
reads_one (Neg a) input x y z y' z' h = refl
reads_one (Plus a b) input x y z y' z' h = absurd (omega arith)
reads_one (Times a b) input x y z y' z' h = absurd (omega arith)
reads_one (Eq a b) input x y z y' z' h = absurd (omega arith)
reads_one (Ult a b) input x y z y' z' h = absurd (omega arith)
reads_one (Slt a b) input x y z y' z' h = absurd (omega arith)
reads_one (Ite a b c) input x y z y' z' h = absurd (omega arith)
reads_one (Slice i l a) input x y z y' z' h = refl
reads_one (Cat a b) input x y z y' z' h = absurd (omega arith)
reads_one (Sext w a) input x y z y' z' h = refl
reads_one (Shl a b) input x y z y' z' h = absurd (omega arith)
reads_one (Shr a b) input x y z y' z' h = absurd (omega arith)
reads_one (Udiv a b) input x y z y' z' h = absurd (omega arith)
reads_one (Urem a b) input x y z y' z' h = absurd (omega arith)

-- and a node of two children reads these alone
pub reads_two : (n : Node) (input : List ℕ) (x y z z' : Word) → (children n).count ≡ 2 → kind_value input n x y z ≡ kind_value [] n x y z'
reads_two (Leaf w i) input x y z z' h = absurd (omega arith)
reads_two (Const w v) input x y z z' h = refl
reads_two (Not a) input x y z z' h = refl
reads_two (And a b) input x y z z' h = refl
reads_two (Or a b) input x y z z' h = refl
reads_two (Xor a b) input x y z z' h = refl
reads_two (Neg a) input x y z z' h = refl
reads_two (Plus a b) input x y z z' h = refl
reads_two (Times a b) input x y z z' h = refl
reads_two (Eq a b) input x y z z' h = refl
reads_two (Ult a b) input x y z z' h = refl
reads_two (Slt a b) input x y z z' h = refl
reads_two (Ite a b c) input x y z z' h = absurd (omega arith)
reads_two (Slice i l a) input x y z z' h = refl
reads_two (Cat a b) input x y z z' h = refl
reads_two (Sext w a) input x y z z' h = refl
reads_two (Shl a b) input x y z z' h = refl
reads_two (Shr a b) input x y z z' h = refl
reads_two (Udiv a b) input x y z z' h = refl
reads_two (Urem a b) input x y z z' h = refl

-- the word of a constant of a graph
pub const_word : (g : Graph) (input values : List ℕ) (k w v : ℕ) → AreValues g input values → slice_get g.nodes k ≡ Some (Const w v) → constant_width w v ≡ slice_get g.widths k → IsWord w v → word_at g.widths values k ≡ record { width = w; value = v }
const_word g input values k w v h node fits word =
    let width : slice_index g.widths k ≡ w = get_or_from_slice_get g.widths k w 0 (sym fits ∙ constant_fits w v word.low word.high word.within) in
    let value : slice_index values k ≡ v = h.each k (Const w v) node in
    rw (width, value) refl

pub fold_one : (g : Graph) (n : Node) (w v : ℕ) (x : Word) (ch : List (Option Node)) → (children n).count ≡ 1 → slice_index_or ch 0 None ≡ Some (Const x.width x.value) → IsWord x.width x.value → v ≡ kind_value [] n x x x → IsView g n ch → SameValue g n (one_plan (step (Const w v) (New 0) (New 0) (New 0)))
fold_one g n w v x ch count const word is view input values h =
    let some : nat_lt 0 (children n).count ≡ true = rw count refl in
    let node : slice_get g.nodes (first n) ≡ Some (Const x.width x.value) = first_child g n (Const x.width x.value) ch some view const in
    let own : word_at g.widths values (first n) ≡ x = const_word g input values (first n) x.width x.value h node (view.graph (first n) (Const x.width x.value) node) word in
    is ∙ sym (rw own (reads_one n input x _ _ x x count))

pub fold_two : (g : Graph) (n : Node) (w v : ℕ) (x y : Word) (ch : List (Option Node)) → (children n).count ≡ 2 → slice_index_or ch 0 None ≡ Some (Const x.width x.value) → slice_index_or ch 1 None ≡ Some (Const y.width y.value) → IsWord x.width x.value → IsWord y.width y.value → v ≡ kind_value [] n x y y → IsView g n ch → SameValue g n (one_plan (step (Const w v) (New 0) (New 0) (New 0)))
fold_two g n w v x y ch count left right word other is view input values h =
    let some : nat_lt 0 (children n).count ≡ true = rw count refl in
    let more : nat_lt 1 (children n).count ≡ true = rw count refl in
    let node : slice_get g.nodes (first n) ≡ Some (Const x.width x.value) = first_child g n (Const x.width x.value) ch some view left in
    let next : slice_get g.nodes (second n) ≡ Some (Const y.width y.value) = second_child g n (Const y.width y.value) ch more view right in
    let own : word_at g.widths values (first n) ≡ x = const_word g input values (first n) x.width x.value h node (view.graph (first n) (Const x.width x.value) node) word in
    let own' : word_at g.widths values (second n) ≡ y = const_word g input values (second n) y.width y.value h next (view.graph (second n) (Const y.width y.value) next) other in
    is ∙ sym (rw (own, own') (reads_two n input x y _ y count))
