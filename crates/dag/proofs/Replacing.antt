-- A node with other children has the form, width, value and charge of its kind at these.
use Rattle.std.proofs.Common.{◌≡◌, ℕ, List, refl, ◌∙◌, ap}
use Rattle.std.specs.Prelude.{slice_get, slice_index}
use Rattle.dag.specs.declared.node.Form.{Form}
use Rattle.dag.specs.declared.node.NodeId.{NodeId}
use Rattle.dag.specs.declared.node.Node.{Node}
use Rattle.dag.specs.declared.node.Node.TheVariants.{Leaf, Const, Not, And, Or, Xor, Neg, Plus, Times, Eq, Ult, Slt, Ite, Slice, Cat, Sext, Shl, Shr, Udiv, Urem}
use Rattle.dag.specs.declared.value.Word.{Word}
use Rattle.dag.specs.Node.{form, width_by, node_width, word_at, kind_value, node_value, kind_charge, node_charge, first, second, third, with_children, child_at}
use Rattle.dag.proofs.Reading.{Reads, reads_map, width_reads, value_reads, charge_reads}

pub form_same : (n : Node) (ids : List NodeId) → form (with_children n ids) ≡ form n
form_same (Leaf w i) ids = refl
form_same (Const w v) ids = refl
form_same (Not p) ids = refl
form_same (And p q) ids = refl
form_same (Or p q) ids = refl
form_same (Xor p q) ids = refl
form_same (Neg p) ids = refl
form_same (Plus p q) ids = refl
form_same (Times p q) ids = refl
form_same (Eq p q) ids = refl
form_same (Ult p q) ids = refl
form_same (Slt p q) ids = refl
form_same (Ite p q r) ids = refl
form_same (Slice h l p) ids = refl
form_same (Cat p q) ids = refl
form_same (Sext w p) ids = refl
form_same (Shl p q) ids = refl
form_same (Shr p q) ids = refl
form_same (Udiv p q) ids = refl
form_same (Urem p q) ids = refl

pub value_same : (input : List ℕ) (n : Node) (ids : List NodeId) (x y z : Word) → kind_value input (with_children n ids) x y z ≡ kind_value input n x y z
value_same input (Leaf w i) ids x y z = refl
value_same input (Const w v) ids x y z = refl
value_same input (Not p) ids x y z = refl
value_same input (And p q) ids x y z = refl
value_same input (Or p q) ids x y z = refl
value_same input (Xor p q) ids x y z = refl
value_same input (Neg p) ids x y z = refl
value_same input (Plus p q) ids x y z = refl
value_same input (Times p q) ids x y z = refl
value_same input (Eq p q) ids x y z = refl
value_same input (Ult p q) ids x y z = refl
value_same input (Slt p q) ids x y z = refl
value_same input (Ite p q r) ids x y z = refl
value_same input (Slice h l p) ids x y z = refl
value_same input (Cat p q) ids x y z = refl
value_same input (Sext w p) ids x y z = refl
value_same input (Shl p q) ids x y z = refl
value_same input (Shr p q) ids x y z = refl
value_same input (Udiv p q) ids x y z = refl
value_same input (Urem p q) ids x y z = refl

pub charge_same : (n : Node) (ids : List NodeId) (w x y z : ℕ) → kind_charge (with_children n ids) w x y z ≡ kind_charge n w x y z
charge_same (Leaf v i) ids w x y z = refl
charge_same (Const u v) ids w x y z = refl
charge_same (Not p) ids w x y z = refl
charge_same (And p q) ids w x y z = refl
charge_same (Or p q) ids w x y z = refl
charge_same (Xor p q) ids w x y z = refl
charge_same (Neg p) ids w x y z = refl
charge_same (Plus p q) ids w x y z = refl
charge_same (Times p q) ids w x y z = refl
charge_same (Eq p q) ids w x y z = refl
charge_same (Ult p q) ids w x y z = refl
charge_same (Slt p q) ids w x y z = refl
charge_same (Ite p q r) ids w x y z = refl
charge_same (Slice h l p) ids w x y z = refl
charge_same (Cat p q) ids w x y z = refl
charge_same (Sext v p) ids w x y z = refl
charge_same (Shl p q) ids w x y z = refl
charge_same (Shr p q) ids w x y z = refl
charge_same (Udiv p q) ids w x y z = refl
charge_same (Urem p q) ids w x y z = refl

children_are : (n : Node) (ids : List NodeId) → Reads (form n) (first (with_children n ids) ≡ (child_at ids 0).0) (second (with_children n ids) ≡ (child_at ids 1).0) (third (with_children n ids) ≡ (child_at ids 2).0)
children_are (Leaf w i) ids = tt
children_are (Const w v) ids = tt
children_are (Not p) ids = refl
children_are (And p q) ids = (refl, refl)
children_are (Or p q) ids = (refl, refl)
children_are (Xor p q) ids = (refl, refl)
children_are (Neg p) ids = refl
children_are (Plus p q) ids = (refl, refl)
children_are (Times p q) ids = (refl, refl)
children_are (Eq p q) ids = (refl, refl)
children_are (Ult p q) ids = (refl, refl)
children_are (Slt p q) ids = (refl, refl)
children_are (Ite p q r) ids = (refl, refl, refl)
children_are (Slice h l p) ids = refl
children_are (Cat p q) ids = (refl, refl)
children_are (Sext w p) ids = refl
children_are (Shl p q) ids = (refl, refl)
children_are (Shr p q) ids = (refl, refl)
children_are (Udiv p q) ids = (refl, refl)
children_are (Urem p q) ids = (refl, refl)

pub replaced_width : (ls ws : List ℕ) (n : Node) (ids : List NodeId) → node_width ls ws (with_children n ids) ≡ width_by ls (form n) (slice_get ws (child_at ids 0).0) (slice_get ws (child_at ids 1).0) (slice_get ws (child_at ids 2).0)
replaced_width ls ws n ids =
    ap (λ (f : Form). width_by ls f (slice_get ws (first (with_children n ids))) (slice_get ws (second (with_children n ids))) (slice_get ws (third (with_children n ids)))) (form_same n ids)
    ∙ width_reads ls (form n) _ _ _ _ _ _ (reads_map (form n) _ _ _ _ _ _ (λ e. ap (slice_get ws) e) (λ e. ap (slice_get ws) e) (λ e. ap (slice_get ws) e) (children_are n ids))

pub replaced_value : (input ws vs : List ℕ) (n : Node) (ids : List NodeId) → node_value input ws vs (with_children n ids) ≡ kind_value input n (word_at ws vs (child_at ids 0).0) (word_at ws vs (child_at ids 1).0) (word_at ws vs (child_at ids 2).0)
replaced_value input ws vs n ids =
    value_same input n ids _ _ _
    ∙ value_reads input n _ _ _ _ _ _ (reads_map (form n) _ _ _ _ _ _ (λ e. ap (word_at ws vs) e) (λ e. ap (word_at ws vs) e) (λ e. ap (word_at ws vs) e) (children_are n ids))

pub replaced_charge : (ws : List ℕ) (w : ℕ) (n : Node) (ids : List NodeId) → node_charge ws w (with_children n ids) ≡ kind_charge n w (slice_index ws (child_at ids 0).0) (slice_index ws (child_at ids 1).0) (slice_index ws (child_at ids 2).0)
replaced_charge ws w n ids =
    charge_same n ids w _ _ _
    ∙ charge_reads n w _ _ _ _ _ _ (reads_map (form n) _ _ _ _ _ _ (λ e. ap (slice_index ws) e) (λ e. ap (slice_index ws) e) (λ e. ap (slice_index ws) e) (children_are n ids))
