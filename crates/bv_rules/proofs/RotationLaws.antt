-- Words that are put together from two parts.
use Rattle.std.proofs.Common.{◌≡◌, ℕ, ◌+◌, ◌*◌, ◌^◌, List, refl, sym, ◌∙◌, ap, subst, Option, Some, inl, inr}
use Rattle.std.specs.Prelude.{slice_get, slice_index, IsSome, bit_or, bit_xor}
use Rattle.std.specs.Int.Bits.{xor_shifted}
use Rattle.std.proofs.lemmas.Nat.{or_shifted, or_comm, xor_comm}
use Rattle.std.proofs.lemmas.Option.{get_or_from_slice_get}
use Rattle.bv_words.specs.Words.{cat, plus}
use Rattle.dag.specs.declared.node.NodeId.{NodeId}
use Rattle.dag.specs.declared.node.Node.{Node}
use Rattle.dag.specs.declared.node.Node.TheVariants.{Or, Xor, Plus, Cat}
use Rattle.dag.specs.Graph.{Graph, AreValues, fits_width}
use Rattle.dag.proofs.Growing.{some_of}
use Rattle.dag.proofs.Inverting.{joined_of}
use Rattle.bv_rules.specs.Plans.{IsView, SameValue, HasZerosBelow, HasZerosAbove, AreParts, joined}
use Rattle.bv_rules.proofs.Viewing.{at_node, pair_of, word_in}
use Rattle.bv_rules.proofs.Found.{const_value}
use Rattle.bv_words.proofs.WordLaws as laws

pub upper_value : (g : Graph) (input values : List ℕ) (a high : NodeId) (k : ℕ) → AreValues g input values → HasZerosBelow g a high k → slice_index values a.0 ≡ slice_index values high.0 * 2 ^ k
upper_value g input values a high k h p =
    let zeros : NodeId = p.0 in
    let wide : slice_index g.widths zeros.0 ≡ k = get_or_from_slice_get g.widths zeros.0 k 0 p.3 in
    let value : slice_index values a.0 ≡ cat (slice_index g.widths high.0) (slice_index values high.0) (slice_index g.widths zeros.0) (slice_index values zeros.0) = h.each a.0 (Cat high zeros) p.1 in
    value ∙ rw (const_value g input values zeros 0 h p.2, wide) (laws.zeros_below (slice_index g.widths high.0) (slice_index values high.0) k)

pub lower_value : (g : Graph) (input values : List ℕ) (b low : NodeId) (k : ℕ) → AreValues g input values → HasZerosAbove g b low k → slice_index values b.0 ≡ slice_index values low.0
lower_value g input values b low k h p =
    let zeros : NodeId = p.0 in
    let value : slice_index values b.0 ≡ cat (slice_index g.widths zeros.0) (slice_index values zeros.0) (slice_index g.widths low.0) (slice_index values low.0) = h.each b.0 (Cat zeros low) p.1 in
    value ∙ rw (const_value g input values zeros 0 h p.2) (laws.zeros_above (slice_index g.widths zeros.0) (slice_index g.widths low.0) (slice_index values low.0))

pub low_width : (g : Graph) (a b high low : NodeId) (p : AreParts g a b high low) → slice_get g.widths low.0 ≡ Some p.0
low_width g a b high low (k, inl p) = p.1.3
low_width g a b high low (k, inr p) = p.1.3

-- for every operation whose operands may be swapped, and that joins the parts
pub parts_value : (f : ℕ → ℕ → ℕ) → ((x y : ℕ) → f x y ≡ f y x) → (g : Graph) (input values : List ℕ) (a b high low : NodeId) (p : AreParts g a b high low) → AreValues g input values → f (slice_index values high.0 * 2 ^ p.0) (slice_index values low.0) ≡ slice_index values high.0 * 2 ^ p.0 + slice_index values low.0 → cat (slice_index g.widths high.0) (slice_index values high.0) (slice_index g.widths low.0) (slice_index values low.0) ≡ f (slice_index values a.0) (slice_index values b.0)
parts_value f comm g input values a b high low (k, inl p) h law =
    let wide : slice_index g.widths low.0 ≡ k = get_or_from_slice_get g.widths low.0 k 0 p.1.3 in
    rw (wide, upper_value g input values a high k h p.0, lower_value g input values b low k h p.1) (sym (law ∙ laws.joint (slice_index g.widths high.0) (slice_index values high.0) k (slice_index values low.0)))
parts_value f comm g input values a b high low (k, inr p) h law =
    let wide : slice_index g.widths low.0 ≡ k = get_or_from_slice_get g.widths low.0 k 0 p.1.3 in
    rw (wide, upper_value g input values b high k h p.0, lower_value g input values a low k h p.1) (sym (comm (slice_index values low.0) (slice_index values high.0 * 2 ^ k) ∙ law ∙ laws.joint (slice_index g.widths high.0) (slice_index values high.0) k (slice_index values low.0)))

pub or_parts : (g : Graph) (n : Node) (a b high low : NodeId) (ch : List (Option Node)) → n ≡ Or a b → AreParts g a b high low → IsView g n ch → SameValue g n (joined high low)
or_parts g n a b high low ch is p view = at_node g n (Or a b) (joined high low) ch is view (λ v0 input values h.
    let f = h.words low.0 p.0 (low_width g a b high low p) in
    parts_value bit_or or_comm g input values a b high low p h (or_shifted (slice_index values high.0) p.0 (slice_index values low.0) f.within))

pub xor_parts : (g : Graph) (n : Node) (a b high low : NodeId) (ch : List (Option Node)) → n ≡ Xor a b → AreParts g a b high low → IsView g n ch → SameValue g n (joined high low)
xor_parts g n a b high low ch is p view = at_node g n (Xor a b) (joined high low) ch is view (λ v0 input values h.
    let f = h.words low.0 p.0 (low_width g a b high low p) in
    parts_value bit_xor xor_comm g input values a b high low p h (xor_shifted (slice_index values high.0) p.0 (slice_index values low.0) f.within))

-- the width of a node that holds the upper part
pub record Upper (g : Graph) (a high : NodeId) (k : ℕ) : Type 0 where
  pub there : IsSome (slice_get g.widths high.0)
  pub width : slice_index g.widths high.0 + k ≡ slice_index g.widths a.0

pub upper_of : (g : Graph) (a high : NodeId) (k : ℕ) → ((j : ℕ) (m : Node) → slice_get g.nodes j ≡ Some m → fits_width g m ≡ slice_get g.widths j) → IsSome (slice_get g.widths a.0) → HasZerosBelow g a high k → Upper g a high k
upper_of g a high k graph there p =
    let zeros : NodeId = p.0 in
    let w = some_of (slice_get g.widths a.0) there in
    let o = joined_of (slice_get g.widths high.0) (slice_get g.widths zeros.0) w.0 (graph a.0 (Cat high zeros) p.1 ∙ w.1) in
    let low : o.low ≡ k = same_number o.low k (sym o.low_found ∙ p.3) in
    record {
      there = subst (λ (x : Option ℕ). IsSome x) (sym o.high_found) refl;
      width = ap (λ (x : ℕ). x + k) (get_or_from_slice_get g.widths high.0 o.high 0 o.high_found) ∙ ap (λ (x : ℕ). o.high + x) (sym low) ∙ o.width ∙ sym (get_or_from_slice_get g.widths a.0 w.0 0 w.1);
    }
  where
    same_number : (x y : ℕ) → Some x ≡ Some y → x ≡ y
    same_number x y e = cc

pub plus_parts : (g : Graph) (n : Node) (a b high low : NodeId) (ch : List (Option Node)) → n ≡ Plus a b → AreParts g a b high low → IsView g n ch → SameValue g n (joined high low)
plus_parts g n a b high low ch is p view = at_node g n (Plus a b) (joined high low) ch is view (λ v0 input values h.
    let pair = pair_of g a b v0.view.fits in
    let f = h.words low.0 p.0 (low_width g a b high low p) in
    let u = upper p v0.graph pair.left pair.right pair.same in
    parts_value (plus (slice_index g.widths a.0)) (laws.plus_comm (slice_index g.widths a.0)) g input values a b high low p h
    (laws.plus_joint (slice_index g.widths a.0) (slice_index g.widths high.0) (slice_index values high.0) p.0 (slice_index values low.0) u.width (word_in g input values high.0 h u.there).within f.within))
  where
    upper : (p : AreParts g a b high low) → ((j : ℕ) (m : Node) → slice_get g.nodes j ≡ Some m → fits_width g m ≡ slice_get g.widths j) → IsSome (slice_get g.widths a.0) → IsSome (slice_get g.widths b.0) → slice_index g.widths b.0 ≡ slice_index g.widths a.0 → Upper g a high p.0
    upper (k, inl p) graph left right same = upper_of g a high k graph left p.0
    upper (k, inr p) graph left right same = let u = upper_of g b high k graph right p.0 in record { there = u.there; width = u.width ∙ same }
