use Rattle.std.proofs.Common.{◌≡◌, ◌*◌, ◌%◌, ◌^◌, ◌<◌, ◌≤◌, length, arith}
use Rattle.std.proofs.lemmas.Nat.{one_shl}
use Rattle.std.proofs.Math.Nat.{pow-le-pow_right}
use Rattle.bit_blaster.specs.Shifting.{IsMoved}
use Rattle.bit_blaster.proofs.ShiftLemmas.{stage_near, stage_far}
use Rattle.bit_blaster.proofs.shifts.stage.Goals as goal
use Rattle.bit_blaster.proofs.shifts.stage.Goals.{else-j-lt6-via-then-j-lt6+else-j-len, else-j-lt6-via-else-j-lt6}

pub chosen-requires-clause-xs_in : goal.chosen-requires-clause-xs_in
chosen-requires-clause-xs_in c = rw c.deref-then-j-len.ensures.value (c.in_ok-up.ensures.inside _ c.requires.zero_in (rw c.deref.ensures.value c.requires.xs_in))

pub returns-in_ok-next : goal.returns-in_ok-next
returns-in_ok-next c =
    let lt : c.args.j < 64 = omega arith in
    let up : IsMoved c.args.left c.args.zero c.args.xs.items c.in_ok-up.up.items (2 ^ c.args.j) = rw (c.deref.ensures.value, one_shl c.args.j 64 lt) at c.in_ok-up.ensures in
    stage_near _ _ _ _ _ _ _ _ _ _ c.requires.off c.requires.over_in c.if-j-lt6.true up (rw (c.deref-then-j-len.ensures.value, c.deref-then-j-len-2.ensures.value) at c.in_ok-next.ensures)

pub returns-in_ok-both : goal.returns-in_ok-both
returns-in_ok-both c =
    let le : length c.args.xs.items ≤ 2 ^ c.args.j = elim c.else-j-lt6.branch [
      | else-j-lt6-via-then-j-lt6+else-j-len w ↦ (let lt : c.args.j < 64 = omega arith in let e : (1 * 2 ^ c.args.j) % 2 ^ 64 ≡ 2 ^ c.args.j = one_shl c.args.j 64 lt in omega (arith, e))
      | else-j-lt6-via-else-j-lt6 w ↦ (let two : 0 < 2 = omega arith in let six : 6 ≤ c.args.j = w.if-j-lt6.false in let h : 2 ^ 6 ≤ 2 ^ c.args.j = pow-le-pow_right two six in omega arith)
    ] in
    stage_far _ _ _ _ _ _ _ _ _ _ _ le c.requires.xs_in c.opposite.ensures c.opposite-else-j-lt6.ensures c.opposite-else-j-lt6-2.ensures c.in_ok-both.ensures
