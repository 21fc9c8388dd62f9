-- Words at the places that a node reads.
use Rattle.std.proofs.Common.{◌≡◌, ℕ, ◌<◌, ◌≤◌, List, length, take, sym, ◌∙◌, ap, subst, arith, Option, Some, length-take, get_or-take}
use Rattle.std.specs.Prelude.{slice_get, slice_index, IsSome}
use Rattle.std.proofs.lemmas.Option.{slice_get-get_or}
use Rattle.dag.specs.declared.node.Node.{Node}
use Rattle.dag.specs.declared.value.Word.{Word}
use Rattle.dag.specs.Node.{form, width_by, node_width, kind_value, node_value, word_at, first, second, third, IsWord, InWords}
use Rattle.dag.proofs.Reading.{reads_map, form_reads, width_reads, value_reads}
use Rattle.dag.proofs.Growing.{get_within}

taken_at : (ws : List ℕ) (m k : ℕ) → k < m → m ≤ length ws → slice_get (take m ws) k ≡ Some (slice_index ws k)
taken_at ws m k lt le = slice_get-get_or (take m ws) k 0 (omega (arith, length-take m ws)) ∙ ap Some (get_or-take m ws k 0 lt)

pub word_there : (ws vs : List ℕ) (k : ℕ) → k < length vs → length vs ≤ length ws → InWords (take (length vs) ws) vs → IsWord (slice_index ws k) (slice_index vs k)
word_there ws vs k lt le h = h k (slice_index ws k) (taken_at ws (length vs) k lt le)

-- a word that stands for a place, where that is among the first
abbrev pub StandsFor : List ℕ → List ℕ → ℕ → Word → Type 0
StandsFor ws vs k x = k < length vs → x ≡ word_at ws vs k

below : (ws : List ℕ) (m k : ℕ) → IsSome (slice_get (take m ws) k) → k < m
below ws m k s = let lt = get_within (take m ws) k s in omega (arith, lt, length-take m ws)

width_is : (ws vs : List ℕ) (k : ℕ) (x : Word) → length vs ≤ length ws → StandsFor ws vs k x → IsSome (slice_get (take (length vs) ws) k) → slice_get (take (length vs) ws) k ≡ Some x.width
width_is ws vs k x le h s =
    let lt : k < length vs = below ws (length vs) k s in
    taken_at ws (length vs) k lt le ∙ ap (λ (y : Word). Some y.width) (sym (h lt))

-- a node that fits over the first places has the width and value of its kind at the words that stand for these
pub words_fit : (ls ws vs : List ℕ) (n : Node) (x y z : Word) → length vs ≤ length ws → StandsFor ws vs (first n) x → StandsFor ws vs (second n) y → StandsFor ws vs (third n) z → IsSome (node_width ls (take (length vs) ws) n) → IsSome (width_by ls (form n) (Some x.width) (Some y.width) (Some z.width))
words_fit ls ws vs n x y z le p q r s =
    subst (λ (o : Option ℕ). IsSome o) (width_reads ls (form n) _ _ _ _ _ _ (reads_map (form n) _ _ _ _ _ _ (width_is ws vs (first n) x le p) (width_is ws vs (second n) y le q) (width_is ws vs (third n) z le r) (form_reads ls (form n) _ _ _ s))) s

pub words_value : (ls input ws vs : List ℕ) (n : Node) (x y z : Word) → StandsFor ws vs (first n) x → StandsFor ws vs (second n) y → StandsFor ws vs (third n) z → IsSome (node_width ls (take (length vs) ws) n) → kind_value input n x y z ≡ node_value input ws vs n
words_value ls input ws vs n x y z p q r s =
    value_reads input n _ _ _ _ _ _ (reads_map (form n) _ _ _ _ _ _ (λ i. p (below ws (length vs) (first n) i)) (λ i. q (below ws (length vs) (second n) i)) (λ i. r (below ws (length vs) (third n) i)) (form_reads ls (form n) _ _ _ s))
