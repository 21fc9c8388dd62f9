-- Masks and products with powers of two as cuts.
use Rattle.std.proofs.Common.{◌≡◌, ℕ, ◌+◌, ◌-◌, ◌<◌, ◌≤◌, ◌^◌, List, sym, ◌∙◌, ap, Option, Some, arith}
use Rattle.std.specs.Prelude.{slice_get, slice_index, bit_and}
use Rattle.std.proofs.lemmas.Nat.{and_comm}
use Rattle.bv_words.specs.Words.{times}
use Rattle.bv_words.proofs.Laws.{shl_as_cat}
use Rattle.dag.specs.declared.node.NodeId.{NodeId}
use Rattle.dag.specs.declared.node.Node.{Node}
use Rattle.dag.specs.declared.node.Node.TheVariants.{And, Times}
use Rattle.dag.specs.Node.{cut_width}
use Rattle.dag.specs.Graph.{Graph}
use Rattle.dag.proofs.Inverting.{cut_fits}
use Rattle.bv_rules.specs.Plans.{IsView, SameValue, IsConstBeside, lowest, moved_up}
use Rattle.bv_rules.proofs.Viewing.{at_node, pair_of, width_read, moved_value}
use Rattle.bv_rules.proofs.Found.{beside_const, rest_width, cat_any}
use Rattle.bv_words.proofs.WordLaws as laws
use Rattle.bv_words.proofs.PartLaws as parts

pub and_mask : (g : Graph) (n : Node) (a b x : NodeId) (c w k : ℕ) (ch : List (Option Node)) → n ≡ And a b → IsConstBeside g a b x c → Some w ≡ slice_get g.widths x.0 → c ≡ 2 ^ k - 1 → 1 ≤ k → k < w → IsView g n ch → SameValue g n (lowest (w - k) k x)
and_mask g n a b x c w k ch is const width mask some small view = at_node g n (And a b) (lowest (w - k) k x) ch is view (λ v0 input values h.
    let d : k - 1 - 0 + 1 ≡ k = omega arith in
    let s : cut_width (k - 1) 0 (slice_get g.widths x.0) ≡ Some (k - 1 - 0 + 1) = rw (← width) (cut_fits (k - 1) 0 w (omega arith) (omega arith)) in
    rw (s, d) (cat_any _ (w - k) 0 k _ ∙ sym (beside_const bit_and and_comm g input values a b x c h const ∙ ap (bit_and (slice_index values x.0)) mask ∙ parts.mask_low w k (slice_index values x.0) some)))

pub times_power : (g : Graph) (n : Node) (a b x : NodeId) (c w k : ℕ) (ch : List (Option Node)) → n ≡ Times a b → IsConstBeside g a b x c → Some w ≡ slice_get g.widths x.0 → c ≡ 2 ^ k → 0 < k → k < w → IsView g n ch → SameValue g n (moved_up w x k)
times_power g n a b x c w k ch is const width power some small view = at_node g n (Times a b) (moved_up w x k) ch is view (λ v0 input values h.
    let pair = pair_of g a b v0.view.fits in
    let e : slice_index g.widths a.0 ≡ w = sym (rest_width g a b x c pair const) ∙ width_read g x w width in
    let f = h.words x.0 w (sym width) in
    rw e (moved_value g input values x w k width some small f.high ∙ sym (beside_const (times w) (laws.times_comm w) g input values a b x c h const ∙ ap (times w (slice_index values x.0)) power ∙ parts.times_power w k (slice_index values x.0) small ∙ shl_as_cat w k (slice_index values x.0) small)))
