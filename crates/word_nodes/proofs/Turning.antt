-- Rotations from moved words and masked amounts.
use Rattle.std.proofs.Common.{◌≡◌, ◌⊎◌, inl, inr, ℕ, ◌-◌, ◌%◌, ◌<◌, ◌≤◌, ◌^◌, sym, ap, ◌∙◌, arith}
use Rattle.std.specs.Prelude.{slice_index, bit_and, bit_or}
use Rattle.std.proofs.Math.Nat.{mod-lt}
use Rattle.bv_words.specs.Words.{minus, shl, shr, rotate_left, rotate_right}
use Rattle.bv_words.proofs.WidthLaws.{mask_mod, minus_by_neg}
use Rattle.bv_words.proofs.ShiftLaws.{rotate_left_by_shifts, rotate_right_by_shifts, rest_by_neg}
use Rattle.dag.specs.declared.node.NodeId.{NodeId}
use Rattle.dag.specs.Graph.{Graph, HasWidth, Tells, Grows}
use Rattle.dag.proofs.Growing.{tells_same}
use Rattle.word_nodes.specs.Moves.{both_moved}

pub mask_of : (w x : ℕ) → (w ≡ 32) ⊎ (w ≡ 64) → bit_and x (w - 1) ≡ x % w
mask_of w x h = elim h [ inl e ↦ mask_mod w 5 x e | inr e ↦ mask_mod w 6 x e ]

pub some_bits : (w : ℕ) → (w ≡ 32) ⊎ (w ≡ 64) → 1 ≤ w
some_bits w h = elim h [ inl e ↦ omega arith | inr e ↦ omega arith ]

pub masked_tells : (g h : Graph) (v w : ℕ) (amount mask id : NodeId) → (w ≡ 32) ⊎ (w ≡ 64) → Tells g v (λ _. w - 1) mask → Grows g h 16 1024 → Tells h v (λ values. bit_and (slice_index values amount.0) (slice_index values mask.0)) id → Tells h v (λ values. slice_index values amount.0 % w) id
masked_tells g h v w amount mask id p t e u = tells_same h v _ _ id u (λ input values are.
    ap (bit_and (slice_index values amount.0)) (t.is input values (e.extends.values input values are)) ∙ mask_of w (slice_index values amount.0) p)

pub remaining_tells : (g h : Graph) (v w : ℕ) (by all id : NodeId) → Tells g v (λ _. w) all → Grows g h 32 2048 → Tells h v (λ values. minus v (slice_index values all.0) (slice_index values by.0)) id → Tells h v (λ values. minus v w (slice_index values by.0)) id
remaining_tells g h v w by all id t e u = tells_same h v _ _ id u (λ input values are. ap (λ (x : ℕ). minus v x (slice_index values by.0)) (t.is input values (e.extends.values input values are)))

pub parts_tell : (g h i : Graph) (w : ℕ) (a above below high low id : NodeId) → Tells g w (λ values. shl w (slice_index values a.0) (slice_index values above.0)) high → Grows g h 16 4096 → Tells h w (λ values. shr w (slice_index values a.0) (slice_index values below.0)) low → Grows h i 16 1024
    → Tells i w (λ values. bit_or (slice_index values high.0) (slice_index values low.0)) id → Tells i w (λ values. both_moved w (slice_index values a.0) (slice_index values above.0) (slice_index values below.0)) id
parts_tell g h i w a above below high low id s d t e u = tells_same i w _ _ id u (λ input values are.
    let vh = e.extends.values input values are in
    ap (λ (x : ℕ). bit_or x (slice_index values low.0)) (s.is input values (d.extends.values input values vh)) ∙ ap (bit_or (shl w (slice_index values a.0) (slice_index values above.0))) (t.is input values vh))

rest_of : (v w m : ℕ) → w < 2 ^ v → m < w → minus v w m ≡ w - m
rest_of v w m room lt = let below : m < 2 ^ v = omega arith in let le : m ≤ w = omega arith in minus_by_neg v w m room below ∙ rest_by_neg v w m room le

pub left_tells : (f g h i : Graph) (v w : ℕ) (a amount by rest id : NodeId) → (w ≡ 32) ⊎ (w ≡ 64) → w < 2 ^ v → HasWidth f.widths a.0 w → Grows f g 32 2048 → Tells g v (λ values. slice_index values amount.0 % w) by → Grows g h 48 3072 → Tells h v (λ values. minus v w (slice_index values by.0)) rest → Grows h i 48 9216
    → Tells i w (λ values. both_moved w (slice_index values a.0) (slice_index values by.0) (slice_index values rest.0)) id → Tells i w (λ values. rotate_left w (slice_index values amount.0) (slice_index values a.0)) id
left_tells f g h i v w a amount by rest id p room wide c s d t e u = tells_same i w _ _ id u (λ input values are.
    let vh = e.extends.values input values are in
    let vg = d.extends.values input values vh in
    let vf = c.extends.values input values vg in
    let b : slice_index values by.0 ≡ slice_index values amount.0 % w = s.is input values vg in
    let one : 1 ≤ w = some_bits w p in
    let lt : slice_index values amount.0 % w < w = mod-lt (slice_index values amount.0) one in
    let r : slice_index values rest.0 ≡ w - slice_index values amount.0 % w = t.is input values vh ∙ ap (minus v w) b ∙ rest_of v w (slice_index values amount.0 % w) room lt in
    ap (λ (x : ℕ). both_moved w (slice_index values a.0) x (slice_index values rest.0)) b ∙ ap (both_moved w (slice_index values a.0) (slice_index values amount.0 % w)) r
    ∙ sym (rotate_left_by_shifts w (slice_index values amount.0) (slice_index values a.0) one (vf.words a.0 w wide).within))

pub right_tells : (f g h i : Graph) (v w : ℕ) (a amount by rest id : NodeId) → (w ≡ 32) ⊎ (w ≡ 64) → w < 2 ^ v → HasWidth f.widths a.0 w → Grows f g 32 2048 → Tells g v (λ values. slice_index values amount.0 % w) by → Grows g h 48 3072 → Tells h v (λ values. minus v w (slice_index values by.0)) rest → Grows h i 48 9216
    → Tells i w (λ values. both_moved w (slice_index values a.0) (slice_index values rest.0) (slice_index values by.0)) id → Tells i w (λ values. rotate_right w (slice_index values amount.0) (slice_index values a.0)) id
right_tells f g h i v w a amount by rest id p room wide c s d t e u = tells_same i w _ _ id u (λ input values are.
    let vh = e.extends.values input values are in
    let vg = d.extends.values input values vh in
    let vf = c.extends.values input values vg in
    let b : slice_index values by.0 ≡ slice_index values amount.0 % w = s.is input values vg in
    let one : 1 ≤ w = some_bits w p in
    let lt : slice_index values amount.0 % w < w = mod-lt (slice_index values amount.0) one in
    let r : slice_index values rest.0 ≡ w - slice_index values amount.0 % w = t.is input values vh ∙ ap (minus v w) b ∙ rest_of v w (slice_index values amount.0 % w) room lt in
    ap (λ (x : ℕ). both_moved w (slice_index values a.0) (slice_index values rest.0) x) b ∙ ap (λ (x : ℕ). both_moved w (slice_index values a.0) x (slice_index values amount.0 % w)) r
    ∙ sym (rotate_right_by_shifts w (slice_index values amount.0) (slice_index values a.0) one (vf.words a.0 w wide).within))
