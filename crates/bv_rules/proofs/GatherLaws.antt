-- Constants gathered: of two operations of one kind with constants, one is left.
use Rattle.std.proofs.Common.{◌≡◌, ℕ, ◌+◌, ◌*◌, ◌%◌, ◌^◌, List, sym, ◌∙◌, ap, subst, Option, Some}
use Rattle.std.specs.Prelude.{slice_get, slice_index, IsSome, bit_and, bit_xor}
use Rattle.std.specs.Int.Bits.{xor_assoc}
use Rattle.std.proofs.lemmas.Nat.{and_assoc, and_comm, xor_comm}
use Rattle.bv_words.specs.Words.{chop, plus, times}
use Rattle.bv_words.proofs.CodeLemmas.{plus_is, times_is}
use Rattle.dag.specs.declared.node.NodeId.{NodeId}
use Rattle.dag.specs.declared.node.Node.{Node}
use Rattle.dag.specs.declared.node.Node.TheVariants.{And, Xor, Plus, Times}
use Rattle.dag.specs.Node.{same_width}
use Rattle.dag.specs.Graph.{Graph, AreValues}
use Rattle.bv_rules.specs.Plans.{IsView, SameValue, IsConstBeside, with_constant}
use Rattle.bv_rules.proofs.Viewing.{at_node, pair_of, width_read}
use Rattle.bv_rules.proofs.Found.{beside_const, node_wide, rest_width, rest_there}
use Rattle.bv_words.proofs.WordLaws as laws

-- for every operation whose operands may be swapped and regrouped
pub gathered : (f : ℕ → ℕ → ℕ) → ((x y : ℕ) → f x y ≡ f y x) → ((x y z : ℕ) → f (f x y) z ≡ f x (f y z)) → (g : Graph) (input values : List ℕ) (a b m p q x : NodeId) (c d : ℕ) → AreValues g input values → IsConstBeside g a b m d → slice_index values m.0 ≡ f (slice_index values p.0) (slice_index values q.0) → IsConstBeside g p q x c → f (slice_index values a.0) (slice_index values b.0) ≡ f (slice_index values x.0) (f c d)
gathered f comm assoc g input values a b m p q x c d h outer node inner =
    beside_const f comm g input values a b m d h outer ∙ ap (λ (y : ℕ). f y d) (node ∙ beside_const f comm g input values p q x c h inner) ∙ assoc (slice_index values x.0) c d

-- the widths of both operations are that of x
pub record Widths (g : Graph) (a p : NodeId) (w : ℕ) : Type 0 where
  pub outer : slice_index g.widths a.0 ≡ w
  pub inner : slice_index g.widths p.0 ≡ w

pub widths_of : (g : Graph) (a b m p q x : NodeId) (c d w : ℕ) → IsSome (same_width (slice_get g.widths a.0) (slice_get g.widths b.0)) → same_width (slice_get g.widths p.0) (slice_get g.widths q.0) ≡ slice_get g.widths m.0 → IsConstBeside g a b m d → IsConstBeside g p q x c → Some w ≡ slice_get g.widths x.0 → Widths g a p w
widths_of g a b m p q x c d w fits node outer inner width =
    let pair = pair_of g a b fits in
    let there = rest_there g a b m d pair outer in
    let lower = pair_of g p q (subst (λ (o : Option ℕ). IsSome o) (sym node) there) in
    let e : slice_index g.widths p.0 ≡ w = sym (rest_width g p q x c lower inner) ∙ width_read g x w width in
    record {
      outer = sym (rest_width g a b m d pair outer) ∙ sym (node_wide g p q m node there) ∙ e;
      inner = e;
    }

pub plus_gather : (g : Graph) (n : Node) (a b m p q x : NodeId) (c d w k : ℕ) (ch : List (Option Node)) → n ≡ Plus a b → IsConstBeside g a b m d → Some (Plus p q) ≡ slice_get g.nodes m.0 → IsConstBeside g p q x c → Some w ≡ slice_get g.widths x.0 → k ≡ chop w ((c + d) % 2 ^ 64) → IsView g n ch → SameValue g n (with_constant (Plus x x) x w k)
plus_gather g n a b m p q x c d w k ch is outer child inner width sum view = at_node g n (Plus a b) (with_constant (Plus x x) x w k) ch is view (λ v0 input values h.
    let e = widths_of g a b m p q x c d w v0.view.fits (v0.graph m.0 (Plus p q) (sym child)) outer inner width in
    let node : slice_index values m.0 ≡ plus w (slice_index values p.0) (slice_index values q.0) = h.each m.0 (Plus p q) (sym child) ∙ ap (λ (u : ℕ). plus u (slice_index values p.0) (slice_index values q.0)) e.inner in
    let f = h.words x.0 w (sym width) in
    rw (width_read g x w width, e.outer, sum, plus_is w c d f.high) (sym (gathered (plus w) (laws.plus_comm w) (laws.plus_assoc w) g input values a b m p q x c d h outer node inner)))

pub times_gather : (g : Graph) (n : Node) (a b m p q x : NodeId) (c d w k : ℕ) (ch : List (Option Node)) → n ≡ Times a b → IsConstBeside g a b m d → Some (Times p q) ≡ slice_get g.nodes m.0 → IsConstBeside g p q x c → Some w ≡ slice_get g.widths x.0 → k ≡ chop w ((c * d) % 2 ^ 64) → IsView g n ch → SameValue g n (with_constant (Times x x) x w k)
times_gather g n a b m p q x c d w k ch is outer child inner width product view = at_node g n (Times a b) (with_constant (Times x x) x w k) ch is view (λ v0 input values h.
    let e = widths_of g a b m p q x c d w v0.view.fits (v0.graph m.0 (Times p q) (sym child)) outer inner width in
    let node : slice_index values m.0 ≡ times w (slice_index values p.0) (slice_index values q.0) = h.each m.0 (Times p q) (sym child) ∙ ap (λ (u : ℕ). times u (slice_index values p.0) (slice_index values q.0)) e.inner in
    let f = h.words x.0 w (sym width) in
    rw (width_read g x w width, e.outer, product, times_is w c d f.high) (sym (gathered (times w) (laws.times_comm w) (laws.times_assoc w) g input values a b m p q x c d h outer node inner)))

pub xor_gather : (g : Graph) (n : Node) (a b m p q x : NodeId) (c d w : ℕ) (ch : List (Option Node)) → n ≡ Xor a b → IsConstBeside g a b m d → Some (Xor p q) ≡ slice_get g.nodes m.0 → IsConstBeside g p q x c → IsView g n ch → SameValue g n (with_constant (Xor x x) x w (bit_xor c d))
xor_gather g n a b m p q x c d w ch is outer child inner view = at_node g n (Xor a b) (with_constant (Xor x x) x w (bit_xor c d)) ch is view (λ v0 input values h.
    sym (gathered bit_xor xor_comm xor_assoc g input values a b m p q x c d h outer (h.each m.0 (Xor p q) (sym child)) inner))

pub and_gather : (g : Graph) (n : Node) (a b m p q x : NodeId) (c d w : ℕ) (ch : List (Option Node)) → n ≡ And a b → IsConstBeside g a b m d → Some (And p q) ≡ slice_get g.nodes m.0 → IsConstBeside g p q x c → IsView g n ch → SameValue g n (with_constant (And x x) x w (bit_and c d))
and_gather g n a b m p q x c d w ch is outer child inner view = at_node g n (And a b) (with_constant (And x x) x w (bit_and c d)) ch is view (λ v0 input values h.
    sym (gathered bit_and and_comm (λ x y z. and_assoc z x y) g input values a b m p q x c d h outer (h.each m.0 (And p q) (sym child)) inner))
