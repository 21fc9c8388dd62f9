use Rattle.std.proofs.Common.{◌≡◌, ◌+◌, ◌-◌, ◌^◌, ◌<◌, ℕ, length, ap, arith, subst, sym, drop, ◌∙◌}
use Rattle.std.specs.Prelude.{slice_index}
use Rattle.std.proofs.lemmas.Option.{get_or_from_slice_get}
use Rattle.axe_io.specs.Shapes.{leaf_widths}
use Rattle.axe_io.specs.Inputs.{IsLast}
use Rattle.axe_io.proofs.Leaves.{narrow}
use Rattle.axe_io.proofs.Counting.{IsLast-nothing, IsLast-more, IsInput-length, IsInput-below}
use Rattle.axe_io.proofs.input.last_to_rise.Goals as goal

pub loop-at-init : goal.loop-at-init
loop-at-init c =
    let ws = leaf_widths c.args.shape.now.params in let xs = c.args.leaves.now in
    let all : c.leaves-at.result ≡ length xs = omega (arith, c.leaves-at.ensures.count, IsInput-length ws xs c.requires) in
    record { within = omega (arith, all); last = subst (λ (n : ℕ). IsLast (drop n ws) (drop n xs)) (sym all) (IsLast-nothing ws xs c.requires) }

pub leaf_width-requires : goal.leaf_width-requires
leaf_width-requires c = omega (arith, c.loop-at.invariant.within, c.loop-at-test.true, IsInput-length (leaf_widths c.args.shape.now.params) c.args.leaves.now c.requires)

pub greatest-requires : goal.greatest-requires
greatest-requires c = record { narrow = narrow c.args.shape.now.params (c.loop-at.at - 1) c.leaf_width.result c.leaf_width.ensures }

pub returns-then-leaves-at : goal.returns-then-leaves-at
returns-then-leaves-at c =
    let ws = leaf_widths c.args.shape.now.params in let xs = c.args.leaves.now in
    let k = c.loop-at.at - 1 in
    let within : k < length xs = omega (arith, c.loop-at.invariant.within, c.loop-at-test.true) in
    let width : slice_index ws k ≡ c.leaf_width.result = get_or_from_slice_get ws k _ 0 c.leaf_width.ensures in
    let top : c.greatest.result + 1 ≡ 2 ^ slice_index ws k = c.greatest.ensures ∙ ap (λ (n : ℕ). 2 ^ n) (sym width) in
    let back : c.loop-at.at ≡ k + 1 = omega (arith, c.loop-at-test.true) in
    record {
      within = within;
      room = omega (arith, IsInput-below ws xs k c.requires within, top, c.if-leaves-at.true);
      rest = subst (λ (n : ℕ). IsLast (drop n ws) (drop n xs)) back c.loop-at.invariant.last;
    }

pub loop-at-preserved : goal.loop-at-preserved
loop-at-preserved c =
    let ws = leaf_widths c.args.shape.now.params in let xs = c.args.leaves.now in
    let k = c.loop-at.at - 1 in
    let within : k < length xs = omega (arith, c.loop-at.invariant.within, c.loop-at-test.true) in
    let width : slice_index ws k ≡ c.leaf_width.result = get_or_from_slice_get ws k _ 0 c.leaf_width.ensures in
    let top : slice_index xs k + 1 ≡ 2 ^ slice_index ws k = ap (λ n. n + 1) c.if-leaves-at.false ∙ (c.greatest.ensures ∙ ap (λ (n : ℕ). 2 ^ n) (sym width)) in
    let back : c.loop-at.at ≡ k + 1 = omega (arith, c.loop-at-test.true) in
    record {
      within = omega (arith, within);
      last = IsLast-more ws xs k c.requires within top (subst (λ (n : ℕ). IsLast (drop n ws) (drop n xs)) back c.loop-at.invariant.last);
    }
