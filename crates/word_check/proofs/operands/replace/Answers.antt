use Rattle.std.proofs.Common.{arith, ◌<◌, length}
use Rattle.word_check.proofs.OperandLaws.{replaced_joined, read_member}
use Rattle.word_check.proofs.operands.replace.Goals as goal

pub returns-clause-joined : goal.returns-clause-joined
returns-clause-joined c =
    let a-in : c.in-Some.a < length c.args.members.now.items = omega (arith, c.if-a-len.false, c.len.ensures) in
    let b-in : c.in-Some.b < length c.args.members.now.items = omega (arith, c.if-b-len.false, c.len-else-a-len.ensures) in
    replaced_joined c.args.nodes.now c.args.joining c.args.members.now.items c.args.place c.in-Some.a c.in-Some.b c.requires (read_member _ _ _ c.requires c.index.ensures c.if-not-index.false) a-in b-in c.in-Some.ensures
