use Rattle.std.proofs.lemmas.Result.{IfOk-weaker}
use Rattle.cnf_clauses.specs.Literal.{value_of}
use Rattle.bit_blaster.specs.Gates.{choose, most}
use Rattle.bit_blaster.proofs.Folding.{gate_likewise, choose_first, choose_second}
use Rattle.bit_blaster.proofs.gates.choose.Goals as goal

pub returns-in-Some-known : goal.returns-in-Some-known
returns-in-Some-known c = IfOk-weaker c.most_with.result _ _ (λ l g. gate_likewise c.args.f.now c.most_with.new.f 1 l (λ v. most c.in-Some-known.on (value_of v c.pick-in-Some-known.result) (value_of v c.args.b)) (λ v. choose (value_of v c.args.c) (value_of v c.args.a) (value_of v c.args.b)) c.requires.room (λ v on. choose_first v c.in-Some-known.on c.args.c c.args.a c.args.b c.pick-in-Some-known.result c.opposite.result on c.in-Some-known.ensures c.opposite.ensures c.pick-in-Some-known.ensures) g) c.most_with.ensures

pub returns-in-Some-known-2 : goal.returns-in-Some-known-2
returns-in-Some-known-2 c = IfOk-weaker c.most_with-in-Some-known-2.result _ _ (λ l g. gate_likewise c.args.f.now c.most_with-in-Some-known-2.new.f 1 l (λ v. most c.in-Some-known-2.on (value_of v c.pick-in-Some-known-2.result) (value_of v c.args.a)) (λ v. choose (value_of v c.args.c) (value_of v c.args.a) (value_of v c.args.b)) c.requires.room (λ v on. choose_second v c.in-Some-known-2.on c.args.c c.args.a c.args.b c.pick-in-Some-known-2.result c.opposite-in-Some-known-2.result on c.in-Some-known-2.ensures c.opposite-in-Some-known-2.ensures c.pick-in-Some-known-2.ensures) g) c.most_with-in-Some-known-2.ensures
