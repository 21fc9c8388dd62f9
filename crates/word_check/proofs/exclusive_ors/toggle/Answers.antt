use Rattle.std.proofs.Common.{arith, ◌<◌, length}
use Rattle.word_check.proofs.ExclusiveOrLaws.{toggled_total}
use Rattle.word_check.proofs.exclusive_ors.toggle.Goals as goal

pub returns-clause-toggles : goal.returns-clause-toggles
returns-clause-toggles c =
    let lt : c.args.place < length c.args.xors.now.members.items = omega (arith, c.if-place-len.false, c.len.ensures, c.args.xors.now.members.ok.0) in
    λ on vs. toggled_total c.args.xors.now.constant c.args.xors.now.members.items vs c.args.place _ lt c.index-member.ensures
