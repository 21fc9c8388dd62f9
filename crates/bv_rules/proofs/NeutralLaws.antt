-- Neutral constants: what a constant leaves as it is.
use Rattle.std.proofs.Common.{◌≡◌, ℕ, ◌-◌, ◌<◌, ◌^◌, List, refl, sym, ◌∙◌, subst, Option, Some, None}
use Rattle.std.specs.Prelude.{slice_get, slice_index, slice_index_or}
use Rattle.std.specs.Int.Bits.{or_zero_l, xor_zero_l}
use Rattle.std.proofs.lemmas.Nat.{and_comm, or_comm, xor_comm}
use Rattle.dag.specs.declared.node.NodeId.{NodeId}
use Rattle.dag.specs.declared.node.Node.{Node}
use Rattle.dag.specs.declared.node.Node.TheVariants.{And, Or, Xor, Plus, Times, Shl, Shr}
use Rattle.dag.specs.Graph.{Graph}
use Rattle.bv_rules.specs.Plans.{IsView, SameValue, IsConst, same_plan}
use Rattle.bv_rules.proofs.Viewing.{at_node, word_in, pair_of, pair_bound, first_const, second_const, width_read}
use Rattle.bv_words.proofs.WordLaws as laws

pub plus_zero : (g : Graph) (n : Node) (a b : NodeId) (ch : List (Option Node)) → n ≡ Plus a b → IsConst (slice_index_or ch 1 None) 0 → IsView g n ch → SameValue g n (same_plan a)
plus_zero g n a b ch is const view = at_node g n (Plus a b) (same_plan a) ch is view (λ v0 input values h.
    let p = pair_of g a b v0.view.fits in
    let y : slice_index values b.0 ≡ 0 = second_const g (Plus a b) ch 0 input values refl v0 const h in
    rw y (sym (laws.plus_zero (slice_index g.widths a.0) (slice_index values a.0) (word_in g input values a.0 h p.left).within)))

pub zero_plus : (g : Graph) (n : Node) (a b : NodeId) (ch : List (Option Node)) → n ≡ Plus a b → IsConst (slice_index_or ch 0 None) 0 → IsView g n ch → SameValue g n (same_plan b)
zero_plus g n a b ch is const view = at_node g n (Plus a b) (same_plan b) ch is view (λ v0 input values h.
    let p = pair_of g a b v0.view.fits in
    let y : slice_index values a.0 ≡ 0 = first_const g (Plus a b) ch 0 input values refl v0 const h in
    rw y (sym (laws.plus_comm (slice_index g.widths a.0) 0 (slice_index values b.0) ∙ laws.plus_zero (slice_index g.widths a.0) (slice_index values b.0) (pair_bound g a b input values h p))))

pub or_zero : (g : Graph) (n : Node) (a b : NodeId) (ch : List (Option Node)) → n ≡ Or a b → IsConst (slice_index_or ch 1 None) 0 → IsView g n ch → SameValue g n (same_plan a)
or_zero g n a b ch is const view = at_node g n (Or a b) (same_plan a) ch is view (λ v0 input values h.
    let y : slice_index values b.0 ≡ 0 = second_const g (Or a b) ch 0 input values refl v0 const h in
    rw y (sym (or_comm (slice_index values a.0) 0 ∙ or_zero_l (slice_index values a.0))))

pub zero_or : (g : Graph) (n : Node) (a b : NodeId) (ch : List (Option Node)) → n ≡ Or a b → IsConst (slice_index_or ch 0 None) 0 → IsView g n ch → SameValue g n (same_plan b)
zero_or g n a b ch is const view = at_node g n (Or a b) (same_plan b) ch is view (λ v0 input values h.
    let y : slice_index values a.0 ≡ 0 = first_const g (Or a b) ch 0 input values refl v0 const h in
    rw y (sym (or_zero_l (slice_index values b.0))))

pub xor_zero : (g : Graph) (n : Node) (a b : NodeId) (ch : List (Option Node)) → n ≡ Xor a b → IsConst (slice_index_or ch 1 None) 0 → IsView g n ch → SameValue g n (same_plan a)
xor_zero g n a b ch is const view = at_node g n (Xor a b) (same_plan a) ch is view (λ v0 input values h.
    let y : slice_index values b.0 ≡ 0 = second_const g (Xor a b) ch 0 input values refl v0 const h in
    rw y (sym (xor_comm (slice_index values a.0) 0 ∙ xor_zero_l (slice_index values a.0))))

pub zero_xor : (g : Graph) (n : Node) (a b : NodeId) (ch : List (Option Node)) → n ≡ Xor a b → IsConst (slice_index_or ch 0 None) 0 → IsView g n ch → SameValue g n (same_plan b)
zero_xor g n a b ch is const view = at_node g n (Xor a b) (same_plan b) ch is view (λ v0 input values h.
    let y : slice_index values a.0 ≡ 0 = first_const g (Xor a b) ch 0 input values refl v0 const h in
    rw y (sym (xor_zero_l (slice_index values b.0))))

pub times_one : (g : Graph) (n : Node) (a b : NodeId) (ch : List (Option Node)) → n ≡ Times a b → IsConst (slice_index_or ch 1 None) 1 → IsView g n ch → SameValue g n (same_plan a)
times_one g n a b ch is const view = at_node g n (Times a b) (same_plan a) ch is view (λ v0 input values h.
    let p = pair_of g a b v0.view.fits in
    let y : slice_index values b.0 ≡ 1 = second_const g (Times a b) ch 1 input values refl v0 const h in
    rw y (sym (laws.times_one (slice_index g.widths a.0) (slice_index values a.0) (word_in g input values a.0 h p.left).within)))

pub one_times : (g : Graph) (n : Node) (a b : NodeId) (ch : List (Option Node)) → n ≡ Times a b → IsConst (slice_index_or ch 0 None) 1 → IsView g n ch → SameValue g n (same_plan b)
one_times g n a b ch is const view = at_node g n (Times a b) (same_plan b) ch is view (λ v0 input values h.
    let p = pair_of g a b v0.view.fits in
    let y : slice_index values a.0 ≡ 1 = first_const g (Times a b) ch 1 input values refl v0 const h in
    rw y (sym (laws.times_comm (slice_index g.widths a.0) 1 (slice_index values b.0) ∙ laws.times_one (slice_index g.widths a.0) (slice_index values b.0) (pair_bound g a b input values h p))))

pub and_ones : (g : Graph) (n : Node) (a b : NodeId) (w v : ℕ) (ch : List (Option Node)) → n ≡ And a b → IsConst (slice_index_or ch 1 None) v → Some w ≡ slice_get g.widths a.0 → v ≡ 2 ^ w - 1 → IsView g n ch → SameValue g n (same_plan a)
and_ones g n a b w v ch is const width mask view = at_node g n (And a b) (same_plan a) ch is view (λ v0 input values h.
    let p = pair_of g a b v0.view.fits in
    let e : slice_index g.widths a.0 ≡ w = width_read g a w width in
    let y : slice_index values b.0 ≡ 2 ^ w - 1 = second_const g (And a b) ch v input values refl v0 const h ∙ mask in
    rw y (sym (laws.and_ones w (slice_index values a.0) (subst (λ (u : ℕ). slice_index values a.0 < 2 ^ u) e (word_in g input values a.0 h p.left).within))))

pub ones_and : (g : Graph) (n : Node) (a b : NodeId) (w v : ℕ) (ch : List (Option Node)) → n ≡ And a b → IsConst (slice_index_or ch 0 None) v → Some w ≡ slice_get g.widths b.0 → v ≡ 2 ^ w - 1 → IsView g n ch → SameValue g n (same_plan b)
ones_and g n a b w v ch is const width mask view = at_node g n (And a b) (same_plan b) ch is view (λ v0 input values h.
    let p = pair_of g a b v0.view.fits in
    let e : slice_index g.widths b.0 ≡ w = width_read g b w width in
    let y : slice_index values a.0 ≡ 2 ^ w - 1 = first_const g (And a b) ch v input values refl v0 const h ∙ mask in
    rw y (sym (and_comm (2 ^ w - 1) (slice_index values b.0) ∙ laws.and_ones w (slice_index values b.0) (subst (λ (u : ℕ). slice_index values b.0 < 2 ^ u) e (word_in g input values b.0 h p.right).within))))

pub shl_zero : (g : Graph) (n : Node) (a b : NodeId) (w : ℕ) (ch : List (Option Node)) → n ≡ Shl a b → IsConst (slice_index_or ch 1 None) 0 → Some w ≡ slice_get g.widths a.0 → IsView g n ch → SameValue g n (same_plan a)
shl_zero g n a b w ch is const width view = at_node g n (Shl a b) (same_plan a) ch is view (λ v0 input values h.
    let y : slice_index values b.0 ≡ 0 = second_const g (Shl a b) ch 0 input values refl v0 const h in
    let f = h.words a.0 w (sym width) in
    let e : slice_index g.widths a.0 ≡ w = width_read g a w width in
    rw (y, e) (sym (laws.shl_zero w (slice_index values a.0) f.low f.within)))

pub shr_zero : (g : Graph) (n : Node) (a b : NodeId) (w : ℕ) (ch : List (Option Node)) → n ≡ Shr a b → IsConst (slice_index_or ch 1 None) 0 → Some w ≡ slice_get g.widths a.0 → IsView g n ch → SameValue g n (same_plan a)
shr_zero g n a b w ch is const width view = at_node g n (Shr a b) (same_plan a) ch is view (λ v0 input values h.
    let y : slice_index values b.0 ≡ 0 = second_const g (Shr a b) ch 0 input values refl v0 const h in
    let f = h.words a.0 w (sym width) in
    let e : slice_index g.widths a.0 ≡ w = width_read g a w width in
    rw (y, e) (sym (laws.shr_zero w (slice_index values a.0) f.low f.within)))
