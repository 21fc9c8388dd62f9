-- Sign extension: bits of an extended word, and extension twice.
use Rattle.std.proofs.Common.{◌≡◌, ℕ, ◌+◌, ◌-◌, ◌<◌, ◌≤◌, List, refl, sym, ◌∙◌, ap, subst, Option, Some, None, arith}
use Rattle.std.specs.Prelude.{slice_get, slice_index, slice_index_or}
use Rattle.bv_words.specs.Words.{cat, sx}
use Rattle.dag.specs.declared.node.NodeId.{NodeId}
use Rattle.dag.specs.declared.node.Node.{Node}
use Rattle.dag.specs.declared.node.Node.TheVariants.{Slice, Sext, Cat}
use Rattle.dag.specs.Node.{cut_width, widened_width}
use Rattle.dag.specs.Graph.{Graph, AreValues}
use Rattle.dag.proofs.Growing.{some_of, some_same}
use Rattle.dag.proofs.Inverting.{cut_of, cut_fits, widened_of, joined_of}
use Rattle.bv_rules.specs.declared.plan.PlanId.TheVariants.{Old, New}
use Rattle.bv_rules.specs.Plans.{IsView, SameValue, IsConstAt, one_plan, step, extended_bits, widened}
use Rattle.bv_rules.proofs.Viewing.{at_node, first_child, width_read}
use Rattle.bv_rules.proofs.Found.{const_value, extended_of, width_found, cat_any}
use Rattle.bv_words.proofs.WordLaws as laws
use Rattle.bv_words.proofs.PartLaws as parts

-- what a slice of an extended word is made of
pub record Extension (g : Graph) (h l v o : ℕ) (a x : NodeId) : Type 0 where
  pub order : l ≤ h
  pub within : h < v
  pub wide : o ≤ v
  pub node : slice_get g.nodes a.0 ≡ Some (Sext v x)

pub extension_of : (g : Graph) (h l v o : ℕ) (a x : NodeId) (ch : List (Option Node)) → slice_index_or ch 0 None ≡ Some (Sext v x) → Some o ≡ slice_get g.widths x.0 → IsView g (Slice h l a) ch → Extension g h l v o a x
extension_of g h l v o a x ch child width view =
    let node : slice_get g.nodes a.0 ≡ Some (Sext v x) = first_child g (Slice h l a) (Sext v x) ch refl view child in
    let c = some_of (cut_width h l (slice_get g.widths a.0)) view.view.fits in
    let outer = cut_of h l (slice_get g.widths a.0) c.0 c.1 in
    let e = extended_of v o outer.whole (slice_get g.widths x.0) (view.graph a.0 (Sext v x) node ∙ outer.found) width in
    record { order = outer.order; within = subst (λ (k : ℕ). h < k) (sym e.width) outer.within; wide = e.order; node = node }

pub sext_value : (g : Graph) (input values : List ℕ) (v o : ℕ) (a x : NodeId) → AreValues g input values → slice_get g.nodes a.0 ≡ Some (Sext v x) → Some o ≡ slice_get g.widths x.0 → slice_index values a.0 ≡ sx v o (slice_index values x.0)
sext_value g input values v o a x h node width = h.each a.0 (Sext v x) node ∙ ap (λ (u : ℕ). sx v u (slice_index values x.0)) (width_read g x o width)

pub slice_sext_low : (g : Graph) (n : Node) (h l v o : ℕ) (a x : NodeId) (ch : List (Option Node)) → n ≡ Slice h l a → slice_index_or ch 0 None ≡ Some (Sext v x) → Some o ≡ slice_get g.widths x.0 → h < o → IsView g n ch → SameValue g n (one_plan (step (Slice h l x) (Old x) (New 0) (New 0)))
slice_sext_low g n h l v o a x ch is child width low view = at_node g n (Slice h l a) (one_plan (step (Slice h l x) (Old x) (New 0) (New 0))) ch is view (λ v0 input values hold.
    let e = extension_of g h l v o a x ch child width v0 in
    let f = hold.words x.0 o (sym width) in
    rw (sext_value g input values v o a x hold e.node width) (sym (parts.slice_sext_low h l v o (slice_index values x.0) f.low e.wide f.within e.order low)))

pub slice_sext_across : (g : Graph) (n : Node) (h l v o : ℕ) (a x : NodeId) (ch : List (Option Node)) → n ≡ Slice h l a → slice_index_or ch 0 None ≡ Some (Sext v x) → Some o ≡ slice_get g.widths x.0 → l < o → o ≤ h → IsView g n ch → SameValue g n (extended_bits (h - l + 1) (o - 1) l x)
slice_sext_across g n h l v o a x ch is child width low high view = at_node g n (Slice h l a) (extended_bits (h - l + 1) (o - 1) l x) ch is view (λ v0 input values hold.
    let e = extension_of g h l v o a x ch child width v0 in
    let f = hold.words x.0 o (sym width) in
    let d : o - 1 - l + 1 ≡ o - l = omega arith in
    let s : cut_width (o - 1) l (slice_get g.widths x.0) ≡ Some (o - 1 - l + 1) = rw (← width) (cut_fits (o - 1) l o (omega arith) (omega arith)) in
    rw (s, d, sext_value g input values v o a x hold e.node width) (sym (parts.slice_sext_across h l v o (slice_index values x.0) f.low high e.within low f.within)))

pub sext_sext : (g : Graph) (n : Node) (w v : ℕ) (a x : NodeId) (ch : List (Option Node)) → n ≡ Sext w a → slice_index_or ch 0 None ≡ Some (Sext v x) → IsView g n ch → SameValue g n (one_plan (step (Sext w x) (Old x) (New 0) (New 0)))
sext_sext g n w v a x ch is child view = at_node g n (Sext w a) (one_plan (step (Sext w x) (Old x) (New 0) (New 0))) ch is view (λ v0 input values hold.
    let node : slice_get g.nodes a.0 ≡ Some (Sext v x) = first_child g (Sext w a) (Sext v x) ch refl v0 child in
    let c = some_of (widened_width w (slice_get g.widths a.0)) v0.view.fits in
    let outer = widened_of w (slice_get g.widths a.0) c.0 c.1 in
    let inner = widened_of v (slice_get g.widths x.0) outer.old (v0.graph a.0 (Sext v x) node ∙ outer.found) in
    let f = hold.words x.0 inner.old inner.found in
    let wide : slice_index g.widths a.0 ≡ v = width_found g a outer.old outer.found ∙ sym inner.width in
    let order : v ≤ w = subst (λ (k : ℕ). k ≤ w) (sym inner.width) outer.order in
    rw (wide, width_found g x inner.old inner.found, sext_value g input values v inner.old a x hold node (sym inner.found)) (sym (parts.sext_sext w v inner.old (slice_index values x.0) f.low inner.order order f.within)))

pub sext_joint : (g : Graph) (n : Node) (w k : ℕ) (a z x : NodeId) (ch : List (Option Node)) → n ≡ Sext w a → slice_get g.nodes a.0 ≡ Some (Cat z x) → IsConstAt g z 0 → Some k ≡ slice_get g.widths x.0 → IsView g n ch → SameValue g n (widened (w - k) x)
sext_joint g n w k a z x ch is node zeros width view = at_node g n (Sext w a) (widened (w - k) x) ch is view (λ v0 input values hold.
    let c = some_of (widened_width w (slice_get g.widths a.0)) v0.view.fits in
    let outer = widened_of w (slice_get g.widths a.0) c.0 c.1 in
    let joint = joined_of (slice_get g.widths z.0) (slice_get g.widths x.0) outer.old (v0.graph a.0 (Cat z x) node ∙ outer.found) in
    let low : joint.low ≡ k = some_same joint.low k (sym joint.low_found ∙ sym width) in
    let some = hold.words z.0 joint.high joint.high_found in
    let f = hold.words x.0 k (sym width) in
    let whole : joint.high + k ≡ outer.old = subst (λ (j : ℕ). joint.high + j ≡ outer.old) low joint.width in
    let value : slice_index values a.0 ≡ cat joint.high 0 k (slice_index values x.0) = hold.each a.0 (Cat z x) node ∙ rw (const_value g input values z 0 hold zeros, width_read g x k width) (cat_any (slice_index g.widths z.0) joint.high 0 k (slice_index values x.0)) in
    rw (value, width_found g a outer.old outer.found) (laws.zeros_above _ (slice_index g.widths x.0) (slice_index values x.0) ∙ sym (parts.sext_joint w outer.old joint.high k (slice_index values x.0) some.low whole outer.order f.within)))
