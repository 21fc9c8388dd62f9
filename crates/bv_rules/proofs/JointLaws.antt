-- Joints of parts: regrouped, put together again, and cut across.
use Rattle.std.proofs.Common.{◌≡◌, ℕ, ◌+◌, ◌-◌, ◌<◌, ◌≤◌, List, refl, sym, ◌∙◌, ap, Option, Some, None, arith}
use Rattle.std.specs.Prelude.{slice_get, slice_index, slice_index_or}
use Rattle.bv_words.specs.Words.{cat, slice}
use Rattle.dag.specs.declared.node.NodeId.{NodeId}
use Rattle.dag.specs.declared.node.Node.{Node}
use Rattle.dag.specs.declared.node.Node.TheVariants.{Slice, Cat}
use Rattle.dag.specs.Node.{cut_width, joined_width}
use Rattle.dag.specs.Graph.{Graph}
use Rattle.dag.proofs.Growing.{some_of}
use Rattle.dag.proofs.Inverting.{cut_of, cut_fits, joined_of}
use Rattle.bv_rules.specs.declared.plan.PlanId.TheVariants.{Old, New}
use Rattle.bv_rules.specs.Plans.{IsView, SameValue, one_plan, step, regrouped, cut_parts}
use Rattle.bv_rules.proofs.Viewing.{at_node, first_child, second_child, width_read}
use Rattle.bv_rules.proofs.Found.{width_found, cat_any, joined_at}
use Rattle.bv_words.proofs.PartLaws as parts

pub cat_cat : (g : Graph) (n : Node) (m a b c : NodeId) (ch : List (Option Node)) → n ≡ Cat m c → slice_get g.nodes m.0 ≡ Some (Cat a b) → IsView g n ch → SameValue g n (regrouped a b c)
cat_cat g n m a b c ch is node view = at_node g n (Cat m c) (regrouped a b c) ch is view (λ v0 input values hold.
    let s = some_of (joined_width (slice_get g.widths m.0) (slice_get g.widths c.0)) v0.view.fits in
    let outer = joined_of (slice_get g.widths m.0) (slice_get g.widths c.0) s.0 s.1 in
    let inner = joined_of (slice_get g.widths a.0) (slice_get g.widths b.0) outer.high (v0.graph m.0 (Cat a b) node ∙ outer.high_found) in
    let narrow : inner.low + outer.low ≤ 64 = omega (arith, inner.width, outer.narrow) in
    let fits : joined_width (slice_get g.widths b.0) (slice_get g.widths c.0) ≡ Some (inner.low + outer.low) = joined_at (slice_get g.widths b.0) (slice_get g.widths c.0) inner.low outer.low inner.low_found outer.low_found narrow in
    let value : slice_index values m.0 ≡ cat inner.high (slice_index values a.0) inner.low (slice_index values b.0) = hold.each m.0 (Cat a b) node ∙ rw (width_found g a inner.high inner.high_found, width_found g b inner.low inner.low_found) refl in
    rw (fits, value, width_found g a inner.high inner.high_found, width_found g b inner.low inner.low_found, width_found g c outer.low outer.low_found)
    (sym (cat_any (slice_index g.widths m.0) (inner.high + inner.low) _ outer.low (slice_index values c.0) ∙ parts.joints inner.high (slice_index values a.0) inner.low (slice_index values b.0) outer.low (slice_index values c.0))))

pub cat_slices : (g : Graph) (n : Node) (h m k l : ℕ) (p q a b : NodeId) (ch : List (Option Node)) → n ≡ Cat p q → slice_index_or ch 0 None ≡ Some (Slice h m a) → slice_index_or ch 1 None ≡ Some (Slice k l b) → a ≡ b → m ≡ k + 1 → IsView g n ch → SameValue g n (one_plan (step (Slice h l a) (Old a) (New 0) (New 0)))
cat_slices g n h m k l p q a b ch is upper lower same next view = at_node g n (Cat p q) (one_plan (step (Slice h l a) (Old a) (New 0) (New 0))) ch is view (λ v0 input values hold.
    let above : slice_get g.nodes p.0 ≡ Some (Slice h m a) = first_child g (Cat p q) (Slice h m a) ch refl v0 upper in
    let below : slice_get g.nodes q.0 ≡ Some (Slice k l b) = second_child g (Cat p q) (Slice k l b) ch refl v0 lower in
    let s = some_of (joined_width (slice_get g.widths p.0) (slice_get g.widths q.0)) v0.view.fits in
    let outer = joined_of (slice_get g.widths p.0) (slice_get g.widths q.0) s.0 s.1 in
    let high = cut_of h m (slice_get g.widths a.0) outer.high (v0.graph p.0 (Slice h m a) above ∙ outer.high_found) in
    let low = cut_of k l (slice_get g.widths b.0) outer.low (v0.graph q.0 (Slice k l b) below ∙ outer.low_found) in
    let wide : slice_index g.widths q.0 ≡ k - l + 1 = width_found g q outer.low outer.low_found ∙ sym low.width in
    let x : slice_index values p.0 ≡ slice h (k + 1) (slice_index values a.0) = hold.each p.0 (Slice h m a) above ∙ ap (λ (j : ℕ). slice h j (slice_index values a.0)) next in
    let y : slice_index values q.0 ≡ slice k l (slice_index values a.0) = hold.each q.0 (Slice k l b) below ∙ ap (λ (j : NodeId). slice k l (slice_index values j.0)) (sym same) in
    rw (x, y, wide) (sym (cat_any (slice_index g.widths p.0) (h - (k + 1) + 1) _ (k - l + 1) _ ∙ parts.slices_joined h k l (slice_index values a.0) low.order (omega (arith, high.order, next)))))

pub slice_cat_across : (g : Graph) (n : Node) (h l w : ℕ) (a x y : NodeId) (ch : List (Option Node)) → n ≡ Slice h l a → slice_index_or ch 0 None ≡ Some (Cat x y) → Some w ≡ slice_get g.widths y.0 → l < w → w ≤ h → IsView g n ch → SameValue g n (cut_parts (h - w) x (w - 1) l y)
slice_cat_across g n h l w a x y ch is child width low high view = at_node g n (Slice h l a) (cut_parts (h - w) x (w - 1) l y) ch is view (λ v0 input values hold.
    let node : slice_get g.nodes a.0 ≡ Some (Cat x y) = first_child g (Slice h l a) (Cat x y) ch refl v0 child in
    let f = hold.words y.0 w (sym width) in
    let d : w - 1 - l + 1 ≡ w - l = omega arith in
    let s : cut_width (w - 1) l (slice_get g.widths y.0) ≡ Some (w - 1 - l + 1) = rw (← width) (cut_fits (w - 1) l w (omega arith) (omega arith)) in
    let value : slice_index values a.0 ≡ cat (slice_index g.widths x.0) (slice_index values x.0) w (slice_index values y.0) = hold.each a.0 (Cat x y) node ∙ ap (λ (u : ℕ). cat (slice_index g.widths x.0) (slice_index values x.0) u (slice_index values y.0)) (width_read g y w width) in
    rw (s, d, value) (cat_any _ (h - w + 1) _ (w - l) _ ∙ sym (parts.slice_joint h l (slice_index g.widths x.0) (slice_index values x.0) w (slice_index values y.0) low high f.within)))
