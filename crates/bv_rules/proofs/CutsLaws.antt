-- Slices, sign extension, and shifts by constants as slices and joints.
use Rattle.std.proofs.Common.{◌≡◌, ℕ, ◌+◌, ◌-◌, ◌<◌, ◌≤◌, ◌^◌, List, refl, sym, ◌∙◌, ap, subst, arith, Option, Some, None}
use Rattle.std.specs.Prelude.{slice_get, slice_index, slice_index_or}
use Rattle.bv_words.specs.Words.{slice, cat}
use Rattle.dag.specs.declared.node.NodeId.{NodeId}
use Rattle.dag.specs.declared.node.Node.{Node}
use Rattle.dag.specs.declared.node.Node.TheVariants.{Const, Plus, Slice, Cat, Sext, Shl, Shr}
use Rattle.dag.specs.Graph.{Graph}
use Rattle.bv_rules.specs.declared.plan.PlanId.TheVariants.{Old, New}
use Rattle.bv_rules.specs.Plans.{IsView, SameValue, IsConst, same_plan, one_plan, three_plan, step}
use Rattle.bv_rules.proofs.Viewing.{at_node, moved_value, first_child, second_const, width_read}
use Rattle.bv_words.proofs.WordLaws as laws
use Rattle.bv_words.proofs.Laws.{shl_as_cat, shr_as_cat, plus_as_shl, slice_slice as slice_slice_words, slice_cat_high as slice_cat_high_words, slice_cat_low as slice_cat_low_words}
use Rattle.std.proofs.lemmas.Nat.{pow_pos}
use Rattle.dag.specs.Node.{constant_width, cut_width}
use Rattle.dag.proofs.Inverting.{constant_fits, cut_fits, cut_of}
use Rattle.dag.proofs.Growing.{some_of}

pub shl_const : (g : Graph) (n : Node) (a b : NodeId) (w k : ℕ) (ch : List (Option Node)) → n ≡ Shl a b → IsConst (slice_index_or ch 1 None) k → Some w ≡ slice_get g.widths a.0 → 0 < k → k < w → IsView g n ch → SameValue g n (three_plan (step (Const k 0) (New 0) (New 0) (New 0)) (step (Slice (w - 1 - k) 0 a) (Old a) (New 0) (New 0)) (step (Cat a a) (New 1) (New 0) (New 0)))
shl_const g n a b w k ch is const width some small view = at_node g n (Shl a b) (three_plan (step (Const k 0) (New 0) (New 0) (New 0)) (step (Slice (w - 1 - k) 0 a) (Old a) (New 0) (New 0)) (step (Cat a a) (New 1) (New 0) (New 0))) ch is view (λ v0 input values h.
    let e : slice_index g.widths a.0 ≡ w = width_read g a w width in
    let y : slice_index values b.0 ≡ k = second_const g (Shl a b) ch k input values refl v0 const h in
    let f = h.words a.0 w (sym width) in
    rw (e, y) (moved_value g input values a w k width some small f.high ∙ sym (shl_as_cat w k (slice_index values a.0) small)))

pub shr_const : (g : Graph) (n : Node) (a b : NodeId) (w k : ℕ) (ch : List (Option Node)) → n ≡ Shr a b → IsConst (slice_index_or ch 1 None) k → Some w ≡ slice_get g.widths a.0 → 0 < k → k < w → IsView g n ch → SameValue g n (three_plan (step (Const k 0) (New 0) (New 0) (New 0)) (step (Slice (w - 1) k a) (Old a) (New 0) (New 0)) (step (Cat a a) (New 0) (New 1) (New 0)))
shr_const g n a b w k ch is const width some small view = at_node g n (Shr a b) (three_plan (step (Const k 0) (New 0) (New 0) (New 0)) (step (Slice (w - 1) k a) (Old a) (New 0) (New 0)) (step (Cat a a) (New 0) (New 1) (New 0))) ch is view (λ v0 input values h.
    let e : slice_index g.widths a.0 ≡ w = width_read g a w width in
    let y : slice_index values b.0 ≡ k = second_const g (Shr a b) ch k input values refl v0 const h in
    let f = h.words a.0 w (sym width) in
    let c : constant_width k 0 ≡ Some k = constant_fits k 0 (omega arith) (omega (arith, f.high)) (pow_pos k) in
    let d : w - 1 - k + 1 ≡ w - k = omega arith in
    let s : cut_width (w - 1) k (slice_get g.widths a.0) ≡ Some (w - 1 - k + 1) = rw (← width) (cut_fits (w - 1) k w (omega arith) (omega arith)) in
    rw (e, y, c, s, d) (sym (shr_as_cat w k (slice_index values a.0) small f.within)))

pub plus_self : (g : Graph) (n : Node) (a b : NodeId) (w : ℕ) (ch : List (Option Node)) → n ≡ Plus a b → a ≡ b → Some w ≡ slice_get g.widths a.0 → 1 < w → IsView g n ch → SameValue g n (three_plan (step (Const 1 0) (New 0) (New 0) (New 0)) (step (Slice (w - 1 - 1) 0 a) (Old a) (New 0) (New 0)) (step (Cat a a) (New 1) (New 0) (New 0)))
plus_self g n a b w ch is same width large view = at_node g n (Plus a a) (three_plan (step (Const 1 0) (New 0) (New 0) (New 0)) (step (Slice (w - 1 - 1) 0 a) (Old a) (New 0) (New 0)) (step (Cat a a) (New 1) (New 0) (New 0))) ch (is ∙ ap (λ (k : NodeId). Plus a k) (sym same)) view (λ v0 input values h.
    let e : slice_index g.widths a.0 ≡ w = width_read g a w width in
    let f = h.words a.0 w (sym width) in
    rw e (moved_value g input values a w 1 width (omega arith) large f.high ∙ sym (plus_as_shl w (slice_index values a.0) large ∙ shl_as_cat w 1 (slice_index values a.0) large)))

pub slice_whole : (g : Graph) (n : Node) (h l : ℕ) (a : NodeId) (w : ℕ) (ch : List (Option Node)) → n ≡ Slice h l a → l ≡ 0 → h + 1 ≡ w → Some w ≡ slice_get g.widths a.0 → IsView g n ch → SameValue g n (same_plan a)
slice_whole g n i l a w ch is low high width view = at_node g n (Slice i l a) (same_plan a) ch is view (λ v0 input values h.
    let f = h.words a.0 w (sym width) in
    rw low (sym (laws.slice_whole i (slice_index values a.0) (subst (λ (u : ℕ). slice_index values a.0 < 2 ^ u) (sym high) f.within))))

pub slice_slice : (g : Graph) (n : Node) (h l i k : ℕ) (a b : NodeId) (ch : List (Option Node)) → n ≡ Slice h l a → slice_index_or ch 0 None ≡ Some (Slice i k b) → IsView g n ch → SameValue g n (one_plan (step (Slice (k + h) (k + l) b) (Old b) (New 0) (New 0)))
slice_slice g n h l i k a b ch is child view = at_node g n (Slice h l a) (one_plan (step (Slice (k + h) (k + l) b) (Old b) (New 0) (New 0))) ch is view (λ v0 input values hold.
    let node : slice_get g.nodes a.0 ≡ Some (Slice i k b) = first_child g (Slice h l a) (Slice i k b) ch refl v0 child in
    let o = some_of (cut_width h l (slice_get g.widths a.0)) v0.view.fits in
    let outer = cut_of h l (slice_get g.widths a.0) o.0 o.1 in
    let inner = cut_of i k (slice_get g.widths b.0) outer.whole (v0.graph a.0 (Slice i k b) node ∙ outer.found) in
    let value : slice_index values a.0 ≡ slice i k (slice_index values b.0) = hold.each a.0 (Slice i k b) node in
    rw value (sym (slice_slice_words i k h l (slice_index values b.0) inner.order outer.order (omega (arith, outer.within, inner.width)))))

pub slice_cat_high : (g : Graph) (n : Node) (h l w : ℕ) (a x y : NodeId) (ch : List (Option Node)) → n ≡ Slice h l a → slice_index_or ch 0 None ≡ Some (Cat x y) → Some w ≡ slice_get g.widths y.0 → w ≤ l → IsView g n ch → SameValue g n (one_plan (step (Slice (h - w) (l - w) x) (Old x) (New 0) (New 0)))
slice_cat_high g n h l w a x y ch is child width past view = at_node g n (Slice h l a) (one_plan (step (Slice (h - w) (l - w) x) (Old x) (New 0) (New 0))) ch is view (λ v0 input values hold.
    let node : slice_get g.nodes a.0 ≡ Some (Cat x y) = first_child g (Slice h l a) (Cat x y) ch refl v0 child in
    let o = some_of (cut_width h l (slice_get g.widths a.0)) v0.view.fits in
    let outer = cut_of h l (slice_get g.widths a.0) o.0 o.1 in
    let f = hold.words y.0 w (sym width) in
    let value : slice_index values a.0 ≡ cat (slice_index g.widths x.0) (slice_index values x.0) w (slice_index values y.0) = hold.each a.0 (Cat x y) node ∙ ap (λ (u : ℕ). cat (slice_index g.widths x.0) (slice_index values x.0) u (slice_index values y.0)) (width_read g y w width) in
    rw value (sym (slice_cat_high_words h l (slice_index g.widths x.0) (slice_index values x.0) w (slice_index values y.0) past outer.order f.within)))

pub slice_cat_low : (g : Graph) (n : Node) (h l w : ℕ) (a x y : NodeId) (ch : List (Option Node)) → n ≡ Slice h l a → slice_index_or ch 0 None ≡ Some (Cat x y) → Some w ≡ slice_get g.widths y.0 → h < w → IsView g n ch → SameValue g n (one_plan (step (Slice h l y) (Old y) (New 0) (New 0)))
slice_cat_low g n h l w a x y ch is child width past view = at_node g n (Slice h l a) (one_plan (step (Slice h l y) (Old y) (New 0) (New 0))) ch is view (λ v0 input values hold.
    let node : slice_get g.nodes a.0 ≡ Some (Cat x y) = first_child g (Slice h l a) (Cat x y) ch refl v0 child in
    let o = some_of (cut_width h l (slice_get g.widths a.0)) v0.view.fits in
    let outer = cut_of h l (slice_get g.widths a.0) o.0 o.1 in
    let f = hold.words y.0 w (sym width) in
    let value : slice_index values a.0 ≡ cat (slice_index g.widths x.0) (slice_index values x.0) w (slice_index values y.0) = hold.each a.0 (Cat x y) node ∙ ap (λ (u : ℕ). cat (slice_index g.widths x.0) (slice_index values x.0) u (slice_index values y.0)) (width_read g y w width) in
    rw value (sym (slice_cat_low_words h l (slice_index g.widths x.0) (slice_index values x.0) w (slice_index values y.0) outer.order past f.within)))

pub sext_same : (g : Graph) (n : Node) (w : ℕ) (a : NodeId) (ch : List (Option Node)) → n ≡ Sext w a → Some w ≡ slice_get g.widths a.0 → IsView g n ch → SameValue g n (same_plan a)
sext_same g n w a ch is width view = at_node g n (Sext w a) (same_plan a) ch is view (λ v0 input values h.
    let e : slice_index g.widths a.0 ≡ w = width_read g a w width in
    let f = h.words a.0 w (sym width) in
    rw e (sym (laws.sx_same w (slice_index values a.0) f.low f.within)))
