use Rattle.std.proofs.Common.{arith, not, ◌&&◌, refl}
use Rattle.cnf_clauses.specs.Literal.{value_of}
use Rattle.bit_blaster.specs.Gates.{differ, most}
use Rattle.cnf_clauses.proofs.Meeting.{value_of-opposite}
use Rattle.bit_blaster.proofs.Growing.{one_wire, wire_one, gate_like, opposite_gate, two_gates, inner_gate}
use Rattle.bit_blaster.proofs.cells.one_bit.Goals as goal

pub returns-in_ok-o-in-Either : goal.returns-in_ok-o-in-Either
returns-in_ok-o-in-Either c = rw c.in-Either.is (
    one_wire c.args.f.now c.and-in-Either.new.f _ c.args.c c.args.x c.args.y c.opposite-in-Either-2.result c.args.c
    (gate_like _ _ _ (λ v. not (value_of v c.opposite.result && value_of v c.opposite-in-Either.result)) _ (λ v. rw (c.opposite.ensures, c.opposite-in-Either.ensures, value_of-opposite v c.args.x, value_of-opposite v c.args.y) refl)
    (opposite_gate _ _ c.in_ok-o-in-Either.o c.opposite-in-Either-2.result (λ v. value_of v c.opposite.result && value_of v c.opposite-in-Either.result) c.opposite-in-Either-2.ensures c.in_ok-o-in-Either.ensures))
    c.requires.c_in (λ v. refl) (omega arith))

pub returns-in_ok-o-in-Choose : goal.returns-in_ok-o-in-Choose
returns-in_ok-o-in-Choose c = rw c.in-Choose.is (one_wire c.args.f.now c.choose.new.f _ c.args.c c.args.x c.args.y c.in_ok-o-in-Choose.o c.args.c c.in_ok-o-in-Choose.ensures c.requires.c_in (λ v. refl) (omega arith))

pub returns-in_ok-n-in-Sum : goal.returns-in_ok-n-in-Sum
returns-in_ok-n-in-Sum c = rw c.in-Sum.is (two_gates c.args.f.now c.odd.new.f c.most.new.f _ c.args.c c.args.x c.args.y c.in_ok-o-in-Sum.o c.in_ok-n-in-Sum.n c.in_ok-o-in-Sum.ensures c.in_ok-n-in-Sum.ensures (omega arith))

pub returns-in_ok-n-in-Less : goal.returns-in_ok-n-in-Less
returns-in_ok-n-in-Less c = rw c.in-Less.is (
    wire_one c.args.f.now c.most-in-Less.new.f _ c.args.c c.args.x c.args.y c.args.x c.in_ok-n-in-Less.n c.requires.x_in (λ v. refl)
    (gate_like _ _ _ (λ v. most (value_of v c.opposite-in-Less.result) (value_of v c.args.y) (value_of v c.args.c)) _ (λ v. rw (c.opposite-in-Less.ensures, value_of-opposite v c.args.x) refl) c.in_ok-n-in-Less.ensures) (omega arith))

pub returns-in_ok-n-in-Same : goal.returns-in_ok-n-in-Same
returns-in_ok-n-in-Same c = rw c.in-Same.is (
    inner_gate c.args.f.now c.differ-in-Same.new.f c.and-in-Same.new.f _ c.args.c c.args.x c.args.y c.args.x c.in_ok-n-in-Same.n c.in_ok-d-in-Same.d (λ v. differ (value_of v c.args.x) (value_of v c.args.y))
    c.in_ok-d-in-Same.ensures c.requires.x_in (rw c.opposite-in-Same.ensures at c.in_ok-n-in-Same.ensures) (λ v. refl) (λ v. refl) (omega arith))
