-- What it means that something was found below the children of a node.
use Rattle.std.proofs.Common.{◌≡◌, ℕ, ◌+◌, ◌≤◌, List, refl, sym, ◌∙◌, ap, subst, Option, Some, inl, inr}
use Rattle.std.specs.Prelude.{slice_get, slice_index, IsSome}
use Rattle.std.proofs.lemmas.Option.{get_or_from_slice_get}
use Rattle.bv_words.specs.Words.{cat}
use Rattle.dag.specs.declared.node.NodeId.{NodeId}
use Rattle.dag.specs.declared.node.Node.TheVariants.{Const}
use Rattle.dag.specs.Node.{same_width, joined_width, widened_width}
use Rattle.dag.specs.Graph.{Graph, AreValues}
use Rattle.dag.proofs.Growing.{some_of, some_same}
use Rattle.dag.proofs.Inverting.{same_of, joined_fits, widened_of}
use Rattle.bv_rules.specs.Plans.{IsConstAt, IsConstBeside, IsBeside}
use Rattle.bv_rules.proofs.Viewing.{Pair}

pub const_value : (g : Graph) (input values : List ℕ) (a : NodeId) (v : ℕ) → AreValues g input values → IsConstAt g a v → slice_index values a.0 ≡ v
const_value g input values a v h k = h.each a.0 (Const k.0 v) k.1

-- an operation whose operands may be swapped, where one of them is a constant
pub beside_const : (f : ℕ → ℕ → ℕ) → ((x y : ℕ) → f x y ≡ f y x) → (g : Graph) (input values : List ℕ) (a b rest : NodeId) (v : ℕ) → AreValues g input values → IsConstBeside g a b rest v → f (slice_index values a.0) (slice_index values b.0) ≡ f (slice_index values rest.0) v
beside_const f comm g input values a b rest v h (inl p) =
    let y : slice_index values b.0 ≡ v = const_value g input values b v h p.1 in
    let x : slice_index values rest.0 ≡ slice_index values a.0 = ap (λ (k : NodeId). slice_index values k.0) p.0 in
    rw (y, x) refl
beside_const f comm g input values a b rest v h (inr p) =
    let y : slice_index values a.0 ≡ v = const_value g input values a v h p.1 in
    let x : slice_index values rest.0 ≡ slice_index values b.0 = ap (λ (k : NodeId). slice_index values k.0) p.0 in
    rw (y, x) (comm v (slice_index values b.0))

-- and where one of them is x
pub beside_value : (f : ℕ → ℕ → ℕ) → ((x y : ℕ) → f x y ≡ f y x) → (values : List ℕ) (a b x rest : NodeId) → IsBeside a b x rest → f (slice_index values a.0) (slice_index values b.0) ≡ f (slice_index values x.0) (slice_index values rest.0)
beside_value f comm values a b x rest (inl p) =
    let y : slice_index values rest.0 ≡ slice_index values b.0 = ap (λ (k : NodeId). slice_index values k.0) p.1 in
    let z : slice_index values a.0 ≡ slice_index values x.0 = ap (λ (k : NodeId). slice_index values k.0) p.0 in
    rw (y, z) refl
beside_value f comm values a b x rest (inr p) =
    let y : slice_index values rest.0 ≡ slice_index values a.0 = ap (λ (k : NodeId). slice_index values k.0) p.1 in
    let z : slice_index values b.0 ≡ slice_index values x.0 = ap (λ (k : NodeId). slice_index values k.0) p.0 in
    rw (y, z) (comm (slice_index values a.0) (slice_index values x.0))

-- the one beside has the width that both have
pub rest_width : (g : Graph) (a b rest : NodeId) (v : ℕ) → Pair g a b → IsConstBeside g a b rest v → slice_index g.widths rest.0 ≡ slice_index g.widths a.0
rest_width g a b rest v pair (inl p) = ap (λ (k : NodeId). slice_index g.widths k.0) p.0
rest_width g a b rest v pair (inr p) = ap (λ (k : NodeId). slice_index g.widths k.0) p.0 ∙ pair.same

pub rest_there : (g : Graph) (a b rest : NodeId) (v : ℕ) → Pair g a b → IsConstBeside g a b rest v → IsSome (slice_get g.widths rest.0)
rest_there g a b rest v pair (inl p) = subst (λ (k : NodeId). IsSome (slice_get g.widths k.0)) (sym p.0) pair.left
rest_there g a b rest v pair (inr p) = subst (λ (k : NodeId). IsSome (slice_get g.widths k.0)) (sym p.0) pair.right

-- an extended word has the width that it was extended to, and wasn't wider
pub record IsExtended (v o w : ℕ) : Type 0 where
  pub order : o ≤ v
  pub width : v ≡ w

pub extended_of : (v o w : ℕ) (x : Option ℕ) → widened_width v x ≡ Some w → Some o ≡ x → IsExtended v o w
extended_of v o w x p e =
    let q = widened_of v x w p in
    let same : q.old ≡ o = some_same q.old o (sym q.found ∙ sym e) in
    record { order = subst (λ (k : ℕ). k ≤ v) same q.order; width = q.width }

-- the width at a place
pub width_found : (g : Graph) (a : NodeId) (w : ℕ) → slice_get g.widths a.0 ≡ Some w → slice_index g.widths a.0 ≡ w
width_found g a w e = get_or_from_slice_get g.widths a.0 w 0 e

-- the upper width of a joint doesn't matter to its value
pub cat_any : (u v h k l : ℕ) → cat u h k l ≡ cat v h k l
unfolding cat
cat_any u v h k l = refl

-- a node of two children has their width
pub node_wide : (g : Graph) (p q m : NodeId) → same_width (slice_get g.widths p.0) (slice_get g.widths q.0) ≡ slice_get g.widths m.0 → IsSome (slice_get g.widths m.0) → slice_index g.widths p.0 ≡ slice_index g.widths m.0
node_wide g p q m e s =
    let w = some_of (slice_get g.widths m.0) s in
    let o = same_of (slice_get g.widths p.0) (slice_get g.widths q.0) w.0 (e ∙ w.1) in
    get_or_from_slice_get g.widths p.0 w.0 0 o.0 ∙ sym (get_or_from_slice_get g.widths m.0 w.0 0 w.1)

pub joined_at : (x y : Option ℕ) (u v : ℕ) → x ≡ Some u → y ≡ Some v → u + v ≤ 64 → joined_width x y ≡ Some (u + v)
joined_at x y u v p q narrow = rw (p, q) (joined_fits u v narrow)
