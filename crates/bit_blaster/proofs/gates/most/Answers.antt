use Rattle.std.proofs.lemmas.Result.{IfOk-weaker}
use Rattle.cnf_clauses.specs.Literal.{value_of}
use Rattle.bit_blaster.specs.Gates.{most}
use Rattle.bit_blaster.proofs.Folding.{gate_likewise, most_third}
use Rattle.bit_blaster.proofs.gates.most.Goals as goal

pub returns-in-Some-known-3 : goal.returns-in-Some-known-3
returns-in-Some-known-3 c = IfOk-weaker c.most_with-in-Some-known-3.result _ _ (λ l g. gate_likewise c.args.f.now c.most_with-in-Some-known-3.new.f 1 l (λ v. most c.in-Some-known-3.on (value_of v c.args.a) (value_of v c.args.b)) (λ v. most (value_of v c.args.a) (value_of v c.args.b) (value_of v c.args.c)) c.requires.room (λ v on. most_third v c.in-Some-known-3.on c.args.a c.args.b c.args.c on c.in-Some-known-3.ensures) g) c.most_with-in-Some-known-3.ensures
