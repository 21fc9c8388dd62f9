use Rattle.std.proofs.lemmas.Result.{IfOk-weaker}
use Rattle.cnf_clauses.specs.Literal.{value_of}
use Rattle.bit_blaster.specs.Gates.{odd}
use Rattle.bit_blaster.proofs.Folding.{gate_likewise, odd_second, odd_third}
use Rattle.bit_blaster.proofs.gates.odd.Goals as goal

pub returns-in-Some-known-2 : goal.returns-in-Some-known-2
returns-in-Some-known-2 c = IfOk-weaker c.odd_with-in-Some-known-2.result _ _ (λ l g. gate_likewise c.args.f.now c.odd_with-in-Some-known-2.new.f 1 l (λ v. odd c.in-Some-known-2.on (value_of v c.args.a) (value_of v c.args.c)) (λ v. odd (value_of v c.args.a) (value_of v c.args.b) (value_of v c.args.c)) c.requires.room (λ v on. odd_second v c.in-Some-known-2.on c.args.a c.args.b c.args.c on c.in-Some-known-2.ensures) g) c.odd_with-in-Some-known-2.ensures

pub returns-in-Some-known-3 : goal.returns-in-Some-known-3
returns-in-Some-known-3 c = IfOk-weaker c.odd_with-in-Some-known-3.result _ _ (λ l g. gate_likewise c.args.f.now c.odd_with-in-Some-known-3.new.f 1 l (λ v. odd c.in-Some-known-3.on (value_of v c.args.a) (value_of v c.args.b)) (λ v. odd (value_of v c.args.a) (value_of v c.args.b) (value_of v c.args.c)) c.requires.room (λ v on. odd_third v c.in-Some-known-3.on c.args.a c.args.b c.args.c on c.in-Some-known-3.ensures) g) c.odd_with-in-Some-known-3.ensures
