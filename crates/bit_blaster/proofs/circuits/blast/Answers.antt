use Rattle.std.proofs.Common.{ap, sym}
use Rattle.std.proofs.lemmas.Bool.{eqb-true}
use Rattle.cnf_clauses.specs.Formula.{Cnf}
use Rattle.bit_blaster.proofs.Blasting.{blasted_nothing}
use Rattle.bit_blaster.proofs.circuits.blast.Goals as goal

pub returns-then-is_empty-clause-stands : goal.returns-then-is_empty-clause-stands
returns-then-is_empty-clause-stands c = blasted_nothing _ _ _ (ap (λ (f : Cnf). f.variables) c.begin.ensures) (ap (λ (f : Cnf). f.clauses) c.begin.ensures) c.new.ensures (eqb-true _ _ (sym c.if-is_empty.ensures))
