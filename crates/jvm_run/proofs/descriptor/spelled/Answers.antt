use Rattle.std.proofs.Common.{arith}
use Rattle.jvm_meaning.specs.Types.{types_seen}
use Rattle.jvm_run.proofs.ShapeLemmas.{few_types}
use Rattle.jvm_run.proofs.descriptor.spelled.Goals as goal

pub returns-in-Some-clause-few : goal.returns-in-Some-clause-few
returns-in-Some-clause-few c = omega (arith, few_types c.args.letters.now (types_seen c.in-Some.types) (rw c.in-Some.is at c.in_ok-types.ensures), c.requires)
