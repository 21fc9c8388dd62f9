-- How a graph grows: widths, values and charges of old nodes stay.
use Rattle.std.proofs.Common.{◌≡◌, ℕ, suc, ◌+◌, ◌<◌, ◌≤◌, List, [], ◌∷◌, ◌++◌, length, take, drop, refl, sym, ◌∙◌, ap, subst, arith, Option, Some, None, inl, inr, length-append}
use Rattle.std.specs.Prelude.{slice_get, slice_index, IsSome, unwrap_or}
use Rattle.std.proofs.lemmas.Option.{slice_get-get_or, slice_get_within, slice_get_past, get_or_from_slice_get}
use Rattle.std.proofs.lemmas.List.{take-append-le, get_or_append_left, take-append-drop}
use Rattle.std.proofs.Math.Seq.{get_or-append_seam, take-append_seam}
use Rattle.std.proofs.lemmas.Bool.{cases_lt}
use Rattle.dag.specs.declared.node.NodeId.{NodeId}
use Rattle.dag.specs.declared.node.Node.{Node}
use Rattle.dag.specs.declared.node.Node.TheVariants.{Const}
use Rattle.dag.specs.declared.value.Word.{Word}
use Rattle.dag.specs.Node.{form, node_width, node_value, node_charge, charges, word_at, first, second, third}
use Rattle.dag.specs.Graph.{Graph, IsGraph, AreValues, Extends, Makes, Adds, Costs, NoRepeats, Inserts, HasWidth, Tells, Grows, leaves_of, fits_width, graph_charge, charge_in}
use Rattle.dag.proofs.Reading.{reads_map, form_reads, width_reads, value_reads, charge_reads}
use Rattle.dag.proofs.Bounds.{AllWide, node_wide}
use Rattle.dag.proofs.Lists.{snoc_cases}

pub is_some : {X : Type 0} (o : Option X) (x : X) → o ≡ Some x → IsSome o
is_some o x e = subst (λ (p : Option _). IsSome p) (sym e) refl

pub some_of : {X : Type 0} (o : Option X) → IsSome o → (x : X) × (o ≡ Some x)
some_of (Some x) h = (x, refl)
some_of None h = cc

pub some_same : {X : Type 0} (x y : X) → Some x ≡ Some y → x ≡ y
some_same x y e = cc

pub get_within : (ws : List ℕ) (k : ℕ) → IsSome (slice_get ws k) → k < length ws
get_within ws k h = elim (cases_lt k (length ws)) [ inl lt ↦ lt | inr ge ↦ let e = slice_get_past ws k ge in cc (h, e) ]

pub get_more : {X : Type 0} (xs ys : List X) (k : ℕ) (x : X) → slice_get xs k ≡ Some x → slice_get (xs ++ ys) k ≡ Some x
get_more xs ys k x h =
    let lt : k < length xs = slice_get_within xs k x h in
    let more : k < length (xs ++ ys) = omega (arith, lt, length-append xs ys) in
    slice_get-get_or (xs ++ ys) k x more ∙ ap Some (get_or_append_left xs ys x k lt ∙ get_or_from_slice_get xs k x x h)

get_kept : (ws more : List ℕ) (k : ℕ) → IsSome (slice_get ws k) → slice_get (ws ++ more) k ≡ slice_get ws k
get_kept ws more k h = let p = some_of (slice_get ws k) h in get_more ws more k p.0 p.1 ∙ sym p.1

-- a node that fits a list of widths has the same width over a longer one
pub node_width_more : (ls ws more : List ℕ) (n : Node) → IsSome (node_width ls ws n) → node_width ls (ws ++ more) n ≡ node_width ls ws n
node_width_more ls ws more n h = width_reads ls (form n) _ _ _ _ _ _ (reads_map (form n) _ _ _ _ _ _ (get_kept ws more (first n)) (get_kept ws more (second n)) (get_kept ws more (third n)) (form_reads ls (form n) _ _ _ h))

pub node_width_whole : (ls ws : List ℕ) (k w : ℕ) (n : Node) → node_width ls (take k ws) n ≡ Some w → node_width ls ws n ≡ Some w
node_width_whole ls ws k w n h = subst (λ (us : List ℕ). node_width ls us n ≡ Some w) (take-append-drop k ws) (node_width_more ls (take k ws) (drop k ws) n (is_some _ w h) ∙ h)

-- and the same value, where the words of the front are the same
pub node_value_front : (ls input ws ws' vs vs' : List ℕ) (n : Node) → IsSome (node_width ls ws n) → ((k : ℕ) → k < length ws → word_at ws' vs' k ≡ word_at ws vs k) → node_value input ws' vs' n ≡ node_value input ws vs n
node_value_front ls input ws ws' vs vs' n h same =
    value_reads input n _ _ _ _ _ _ (reads_map (form n) _ _ _ _ _ _ (λ s. same (first n) (get_within ws (first n) s)) (λ s. same (second n) (get_within ws (second n) s)) (λ s. same (third n) (get_within ws (third n) s)) (form_reads ls (form n) _ _ _ h))

pub word_is : (ws ws' vs vs' : List ℕ) (k : ℕ) → slice_index ws' k ≡ slice_index ws k → slice_index vs' k ≡ slice_index vs k → word_at ws' vs' k ≡ word_at ws vs k
word_is ws ws' vs vs' k p q = ap (λ (w : ℕ). word w (slice_index vs' k)) p ∙ ap (λ (v : ℕ). word (slice_index ws k) v) q
  where
    word : ℕ → ℕ → Word
    word w v = record { width = w; value = v }

-- and the same charge
pub node_charge_more : (ls ws more : List ℕ) (w : ℕ) (n : Node) → IsSome (node_width ls ws n) → node_charge (ws ++ more) w n ≡ node_charge ws w n
node_charge_more ls ws more w n h =
    charge_reads n w _ _ _ _ _ _ (reads_map (form n) _ _ _ _ _ _ (kept ws more (first n)) (kept ws more (second n)) (kept ws more (third n)) (form_reads ls (form n) _ _ _ h))
  where
    kept : (ws more : List ℕ) (k : ℕ) → IsSome (slice_get ws k) → slice_index (ws ++ more) k ≡ slice_index ws k
    kept ws more k s = get_or_append_left ws more 0 k (get_within ws k s)

abbrev pub IsFitting : List ℕ → List ℕ → List Node → Type 0
IsFitting ls widths nodes = (k : ℕ) (n : Node) → slice_get nodes k ≡ Some n → node_width ls (take k widths) n ≡ Some (slice_index widths k)

fitting_more : (ls widths : List ℕ) (nodes : List Node) (n : Node) (w : ℕ) → length widths ≡ length nodes → IsFitting ls widths nodes → node_width ls widths n ≡ Some w → IsFitting ls (widths ++ w ∷ []) (nodes ++ n ∷ [])
fitting_more ls widths nodes n w size h fits i m at =
    elim (snoc_cases nodes n i m at) [
      | inl p ↦
          let lt : i < length widths = omega (arith, p.0) in
          let le : i ≤ length widths = omega (arith, p.0) in
          rw (take-append-le i widths (w ∷ []) le, get_or_append_left widths (w ∷ []) 0 i lt) (h i m p.1)
      | inr p ↦
          let e : i ≡ length widths = omega (arith, p.0) in
          rw (e, ← p.1, take-append_seam widths (w ∷ []), get_or-append_seam widths w [] 0) fits
    ]

all_wide_more : (ws : List ℕ) (v : ℕ) → AllWide ws → (1 ≤ v) × (v ≤ 64) → AllWide (ws ++ v ∷ [])
all_wide_more ws v h p k w at = elim (snoc_cases ws v k w at) [ inl q ↦ h k w q.1 | inr q ↦ subst (λ (x : ℕ). (1 ≤ x) × (x ≤ 64)) q.1 p ]

-- a graph with one node more, at fields that hold it
pub graph_more : (g : Graph) (n : Node) (w : ℕ) (nodes : List Node) (widths : List ℕ) → IsGraph g → nodes ≡ g.nodes ++ n ∷ [] → widths ≡ g.widths ++ w ∷ [] → fits_width g n ≡ Some w → length g.nodes < g.limit → NoRepeats nodes → IsGraph (record g { nodes = nodes; widths = widths })
graph_more g n w nodes widths h p q fits room once = record {
  fitting = subst (λ (ws : List ℕ). IsFitting (leaves_of g) ws nodes) (sym q) (subst (λ (ns : List Node). IsFitting (leaves_of g) (g.widths ++ w ∷ []) ns) (sym p) (fitting_more (leaves_of g) g.widths g.nodes n w h.size h.fitting fits));
  size = rw (p, q) (omega (arith, h.size, length-append g.widths (w ∷ []), length-append g.nodes (n ∷ [])));
  wide = subst (λ (ws : List ℕ). AllWide ws) (sym q) (all_wide_more g.widths w h.wide (node_wide (leaves_of g) g.widths n w h.wide fits));
  distinct = once;
  zero_is = rw p (get_more g.nodes (n ∷ []) 0 (Const 1 0) h.zero_is);
  one_is = rw p (get_more g.nodes (n ∷ []) 1 (Const 1 1) h.one_is);
  within = rw p (omega (arith, length-append g.nodes (n ∷ [])));
  small = h.small;
}

-- over the whole graph each node has its width
pub fits_whole : (g : Graph) → IsGraph g → (k : ℕ) (n : Node) → slice_get g.nodes k ≡ Some n → fits_width g n ≡ Some (slice_index g.widths k)
fits_whole g is k n at = node_width_whole (leaves_of g) g.widths k (slice_index g.widths k) n (is.fitting k n at)

pub fits_at : (g : Graph) → IsGraph g → (k : ℕ) (n : Node) → slice_get g.nodes k ≡ Some n → fits_width g n ≡ slice_get g.widths k
fits_at g is k n at = fits_whole g is k n at ∙ sym (slice_get-get_or g.widths k 0 (omega (arith, slice_get_within g.nodes k n at, is.size)))

abbrev grown : Graph → List Node → List ℕ → Graph
grown g ns ws = record g { nodes = g.nodes ++ ns; widths = g.widths ++ ws }

pub values_front : (g : Graph) (ns : List Node) (ws : List ℕ) → IsGraph g → (input values : List ℕ) → AreValues (grown g ns ws) input values → AreValues g input values
values_front g ns ws is input values h = record {
  inside = h.inside;
  words = λ k w at. h.words k w (get_more g.widths ws k w at);
  each = λ k n at. h.each k n (get_more g.nodes ns k n at) ∙ node_value_front (leaves_of g) input g.widths (g.widths ++ ws) values values n (is_some _ _ (fits_whole g is k n at)) (λ j lt. word_is g.widths (g.widths ++ ws) values values j (get_or_append_left g.widths ws 0 j lt) refl);
}

pub extends_more : (g : Graph) (ns : List Node) (ws : List ℕ) → IsGraph g → Extends g (grown g ns ws)
extends_more g ns ws is = record {
  values = values_front g ns ws is;
  widths = λ k w at. get_more g.widths ws k w at;
  nodes = λ k n at. get_more g.nodes ns k n at;
  fits = λ n w at. node_width_more (leaves_of g) g.widths ws n (is_some _ w at) ∙ at;
  shape = refl;
  limit = refl;
  size = omega (arith, length-append g.nodes ns);
}

pub extends_refl : (g : Graph) → Extends g g
extends_refl g = record { values = λ input values h. h; widths = λ k w at. at; nodes = λ k n at. at; fits = λ n w at. at; shape = refl; limit = refl; size = omega arith }

pub extends_trans : (a b c : Graph) → Extends a b → Extends b c → Extends a c
extends_trans a b c p q = record {
  values = λ input values h. p.values input values (q.values input values h);
  widths = λ k w at. q.widths k w (p.widths k w at);
  nodes = λ k n at. q.nodes k n (p.nodes k n at);
  fits = λ n w at. q.fits n w (p.fits n w at);
  shape = q.shape ∙ p.shape;
  limit = q.limit ∙ p.limit;
  size = omega (arith, p.size, q.size);
}

-- what adding a node makes
makes_present : (g : Graph) (n : Node) (k w : ℕ) → IsGraph g → slice_get g.nodes k ≡ Some n → Makes g g n k
makes_present g n k w is at = record {
  grows = extends_refl g;
  width = slice_get-get_or g.widths k 0 (omega (arith, slice_get_within g.nodes k n at, is.size)) ∙ sym (fits_whole g is k n at);
  value = λ input values h. h.each k n at;
}

get_end : {X : Type 0} (xs : List X) (x : X) → slice_get (xs ++ x ∷ []) (length xs) ≡ Some x
get_end xs x = let lt : length xs < length (xs ++ x ∷ []) = omega (arith, length-append xs (x ∷ [])) in slice_get-get_or (xs ++ x ∷ []) (length xs) x lt ∙ ap Some (get_or-append_seam xs x [] x)

makes_new : (g : Graph) (n : Node) (w : ℕ) → IsGraph g → fits_width g n ≡ Some w → Makes g (grown g (n ∷ []) (w ∷ [])) n (length g.nodes)
makes_new g n w is fits = record {
  grows = extends_more g (n ∷ []) (w ∷ []) is;
  width = ap (slice_get (g.widths ++ w ∷ [])) (sym is.size) ∙ get_end g.widths w ∙ sym fits;
  value = λ input values h. h.each (length g.nodes) n (get_end g.nodes n);
}

pub adds_makes : (old new : Graph) (n : Node) (k : ℕ) → IsGraph old → IsSome (fits_width old n) → Adds old new n k → Makes old new n k
adds_makes old new n k is fits (inl h) = subst (λ (g : Graph). Makes old g n k) (sym h.same) (makes_present old n k 0 is h.at)
adds_makes old new n k is fits (inr h) =
    let w = some_of (fits_width old n) fits in
    let e : unwrap_or (fits_width old n) 0 ≡ w.0 = ap (λ (o : Option ℕ). unwrap_or o 0) w.1 in
    subst (λ (j : ℕ). Makes old new n j) (sym h.at) (subst (λ (g : Graph). Makes old g n (length old.nodes)) (sym h.grown) (rw e (makes_new old n w.0 is w.1)))

-- the charges of a graph's nodes stay, and that of the new one is added
charges_kept : (ls all more : List ℕ) (ws : List ℕ) (ns : List Node) → ((k : ℕ) (n : Node) → slice_get ns k ≡ Some n → IsSome (node_width ls all n)) → charges (all ++ more) ws ns ≡ charges all ws ns
charges_kept ls all more [] ns h = refl
charges_kept ls all more (w ∷ ws) [] h = refl
charges_kept ls all more (w ∷ ws) (n ∷ ns) h =
    let a : node_charge (all ++ more) w n ≡ node_charge all w n = node_charge_more ls all more w n (h 0 n refl) in
    let b : charges (all ++ more) ws ns ≡ charges all ws ns = charges_kept ls all more ws ns (λ k m at. h (suc k) m at) in
    rw (a, b) refl

charges_end : (all ws : List ℕ) (ns : List Node) (w : ℕ) (n : Node) → length ws ≡ length ns → charges all (ws ++ w ∷ []) (ns ++ n ∷ []) ≡ charges all ws ns + node_charge all w n
charges_end all [] [] w n e = omega arith
charges_end all [] (m ∷ ns) w n e = absurd (omega arith)
charges_end all (v ∷ ws) [] w n e = absurd (omega arith)
charges_end all (v ∷ ws) (m ∷ ns) w n e =
    let p : length ws ≡ length ns = omega arith in
    let q : charges all (ws ++ w ∷ []) (ns ++ n ∷ []) ≡ charges all ws ns + node_charge all w n = charges_end all ws ns w n p in
    rw q (omega arith)

pub charge_more : (g : Graph) (n : Node) (w : ℕ) → IsGraph g → fits_width g n ≡ Some w → graph_charge (grown g (n ∷ []) (w ∷ [])) ≡ graph_charge g + node_charge g.widths w n
charge_more g n w is fits =
    charges_end (g.widths ++ w ∷ []) g.widths g.nodes w n is.size
    ∙ ap (λ (k : ℕ). k + node_charge (g.widths ++ w ∷ []) w n) (charges_kept (leaves_of g) g.widths (w ∷ []) g.widths g.nodes (λ k m at. is_some _ _ (fits_whole g is k m at)))
    ∙ ap (λ (k : ℕ). graph_charge g + k) (node_charge_more (leaves_of g) g.widths (w ∷ []) w n (is_some _ w fits))

pub costs_refl : (g : Graph) (count sum : ℕ) → Costs g g count sum
costs_refl g count sum = record { nodes = omega arith; units = omega arith }

pub costs_trans : (a b c : Graph) (m n k l : ℕ) → Costs a b m n → Costs b c k l → Costs a c (m + k) (n + l)
costs_trans a b c m n k l p q = record { nodes = omega (arith, p.nodes, q.nodes); units = omega (arith, p.units, q.units) }

pub grows_refl : (g : Graph) (count sum : ℕ) → Grows g g count sum
grows_refl g count sum = record { extends = extends_refl g; costs = costs_refl g count sum }

-- what grows by so much, and then by so much more
pub grows_trans : (a b c : Graph) (m n k l count sum : ℕ) → Grows a b m n → Grows b c k l → m + k ≤ count → n + l ≤ sum → Grows a c count sum
grows_trans a b c m n k l count sum p q few cheap = record {
  extends = extends_trans a b c p.extends q.extends;
  costs = record { nodes = omega (arith, p.costs.nodes, q.costs.nodes, few); units = omega (arith, p.costs.units, q.costs.units, cheap) };
}

-- what a node tells stays true in a longer graph
pub tells_more : (a b : Graph) (w : ℕ) (f : List ℕ → ℕ) (id : NodeId) → Extends a b → Tells a w f id → Tells b w f id
tells_more a b w f id e t = record { wide = e.widths id.0 w t.wide; is = λ input values are. t.is input values (e.values input values are) }

-- and what is the same on each input may be told in its place
pub tells_same : (g : Graph) (w : ℕ) (f h : List ℕ → ℕ) (id : NodeId) → Tells g w f id → ((input values : List ℕ) → AreValues g input values → f values ≡ h values) → Tells g w h id
tells_same g w f h id t e = record { wide = t.wide; is = λ input values are. t.is input values are ∙ e input values are }

-- a place with a width is one of a node
pub place_inside : (g : Graph) → IsGraph g → (k w : ℕ) → HasWidth g.widths k w → k < length g.nodes
place_inside g is k w at = omega (arith, slice_get_within g.widths k w at, is.size)

pub adds_costs : (old new : Graph) (n : Node) (k : ℕ) → IsGraph old → IsSome (fits_width old n) → Adds old new n k → Costs old new 1 (node_charge old.widths (unwrap_or (fits_width old n) 0) n)
adds_costs old new n k is fits (inl h) = subst (λ (g : Graph). Costs old g 1 (node_charge old.widths (unwrap_or (fits_width old n) 0) n)) (sym h.same) (costs_refl old 1 _)
adds_costs old new n k is fits (inr h) =
    let w = some_of (fits_width old n) fits in
    let e : unwrap_or (fits_width old n) 0 ≡ w.0 = ap (λ (o : Option ℕ). unwrap_or o 0) w.1 in
    subst (λ (g : Graph). Costs old g 1 (node_charge old.widths (unwrap_or (fits_width old n) 0) n)) (sym h.grown) (rw e (record {
      nodes = omega (arith, length-append old.nodes (n ∷ []));
      units = omega (arith, charge_more old n w.0 is w.1);
    }))

-- what inserting a node with its width makes of a graph
pub record IsAdded (old new : Graph) (n : Node) (k : ℕ) : Type 0 where
  pub place : Adds old new n k
  pub makes : Makes old new n k
  pub cost : Costs old new 1 (charge_in old n)

pub added : (g : Graph) (n : Node) (w k : ℕ) (nodes : List Node) (before after : List ℕ) → IsGraph g → fits_width g n ≡ Some w → before ≡ g.widths → Inserts g.nodes nodes before after n w k → IsAdded g (record g { nodes = nodes; widths = after }) n k
added g n w k nodes before after is fits e h =
    let p : Adds g (record g { nodes = nodes; widths = after }) n k = adds h in
    record { place = p; makes = adds_makes g _ n k is (is_some _ w fits) p; cost = adds_costs g _ n k is (is_some _ w fits) p }
  where
    graph : List Node → List ℕ → Graph
    graph ns ws = record g { nodes = ns; widths = ws }

    adds : Inserts g.nodes nodes before after n w k → Adds g (record g { nodes = nodes; widths = after }) n k
    adds (inl q) = inl (record { at = q.at; same = ap (λ (ns : List Node). graph ns after) q.nodes ∙ ap (graph g.nodes) (q.widths ∙ e) })
    adds (inr q) =
        let width : unwrap_or (fits_width g n) 0 ≡ w = ap (λ (o : Option ℕ). unwrap_or o 0) fits in
        inr (record { absent = q.absent; at = q.at; grown = ap (λ (ns : List Node). graph ns after) q.nodes ∙ ap (graph (g.nodes ++ n ∷ [])) (q.widths ∙ ap (λ (ws : List ℕ). ws ++ w ∷ []) e ∙ ap (λ (u : ℕ). g.widths ++ u ∷ []) (sym width)) })

-- and it stays a graph
pub added_graph : (g : Graph) (n : Node) (w k : ℕ) (nodes : List Node) (before after : List ℕ) → IsGraph g → fits_width g n ≡ Some w → before ≡ g.widths → length g.nodes < g.limit → NoRepeats nodes → Inserts g.nodes nodes before after n w k → IsGraph (record g { nodes = nodes; widths = after })
added_graph g n w k nodes before after is fits e room once (inl q) = subst (λ (ws : List ℕ). IsGraph (record g { nodes = nodes; widths = ws })) (sym (q.widths ∙ e)) (subst (λ (ns : List Node). IsGraph (record g { nodes = ns })) (sym q.nodes) is)
added_graph g n w k nodes before after is fits e room once (inr q) = graph_more g n w nodes after is q.nodes (q.widths ∙ ap (λ (ws : List ℕ). ws ++ w ∷ []) e) fits room once
