-- Counting what a graph gained.
use Rattle.std.proofs.Common.{◌≡◌, ℕ, ◌+◌, ◌-◌, ◌<◌, ◌≤◌, ◌^◌, List, [], ◌∷◌, ◌++◌, length, sym, ◌∙◌, ap, subst, arith, Option, inl, inr, length-append}
use Rattle.std.specs.Prelude.{IsSome, unwrap_or, min}
use Rattle.dag.specs.declared.node.Node.{Node}
use Rattle.dag.specs.Graph.{Graph, IsGraph, Adds, fits_width, graph_charge, charge_in}
use Rattle.dag.specs.Node.{node_charge}
use Rattle.dag.proofs.Growing.{some_of, charge_more}
use Rattle.rewriter.specs.declared.building.Charge.{Charge}
use Rattle.rewriter.specs.Building.{IsCounted}

pub counted_none : (c : Charge) (g : Graph) → c.added < 2 ^ 64 → c.units < 2 ^ 64 → IsCounted c c g g
counted_none c g p q = record { added = omega arith; units = omega arith; more = omega arith; dearer = omega arith }

pub counted_same : (c : Charge) (g h : Graph) → c.added < 2 ^ 64 → c.units < 2 ^ 64 → h ≡ g → IsCounted c c g h
counted_same c g h p q e = subst (λ (k : Graph). IsCounted c c g k) (sym e) (counted_none c g p q)

pub counted_trans : (a b c : Charge) (g h k : Graph) → IsCounted a b g h → IsCounted b c h k → IsCounted a c g k
counted_trans a b c g h k p q = record {
  added = omega (arith, p.added, q.added, p.more, q.more);
  units = omega (arith, p.units, q.units, p.dearer, q.dearer);
  more = omega (arith, p.more, q.more);
  dearer = omega (arith, p.dearer, q.dearer);
}

-- a node that was new was counted
pub counted_new : (a b : Charge) (old new : Graph) (n : Node) (k : ℕ) → IsGraph old → IsSome (fits_width old n) → Adds old new n k → length old.nodes < length new.nodes → b.added ≡ min (a.added + 1) (2 ^ 64 - 1) → b.units ≡ min (a.units + charge_in old n) (2 ^ 64 - 1) → IsCounted a b old new
counted_new a b old new n k is fits (inl h) lt p q = absurd (stays old new h.same lt)
  where
    stays : (old new : Graph) → new ≡ old → length old.nodes < length new.nodes → ⊥
    stays old new e lt = let f : length new.nodes ≡ length old.nodes = ap (λ (g : Graph). length g.nodes) e in omega arith
counted_new a b old new n k is fits (inr h) lt p q =
    let w = some_of (fits_width old n) fits in
    let e : unwrap_or (fits_width old n) 0 ≡ w.0 = ap (λ (o : Option ℕ). unwrap_or o 0) w.1 in
    let size : length new.nodes ≡ length old.nodes + 1 = ap (λ (g : Graph). length g.nodes) h.grown ∙ omega (arith, length-append old.nodes (n ∷ [])) in
    let wide : new ≡ record old { nodes = old.nodes ++ n ∷ []; widths = old.widths ++ w.0 ∷ [] } = h.grown ∙ ap (λ (v : ℕ). more old (v ∷ [])) e in
    let cost : graph_charge new ≡ graph_charge old + charge_in old n = ap graph_charge wide ∙ charge_more old n w.0 is w.1 ∙ ap (λ (v : ℕ). graph_charge old + node_charge old.widths v n) (sym e) in
    record { added = omega arith; units = omega arith; more = omega arith; dearer = omega arith }
  where
    more : Graph → List ℕ → Graph
    more g ws = record g { nodes = g.nodes ++ n ∷ []; widths = g.widths ++ ws }

-- and one that was there adds nothing
pub counted_old : (a : Charge) (old new : Graph) (n : Node) (k : ℕ) → a.added < 2 ^ 64 → a.units < 2 ^ 64 → Adds old new n k → length new.nodes ≤ length old.nodes → IsCounted a a old new
counted_old a old new n k p q (inl h) le = counted_same a old new p q h.same
counted_old a old new n k p q (inr h) le =
    let size : length new.nodes ≡ length old.nodes + 1 = ap (λ (g : Graph). length g.nodes) h.grown ∙ omega (arith, length-append old.nodes (n ∷ [])) in
    absurd (omega arith)
