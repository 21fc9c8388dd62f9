use Rattle.jvm_meaning.proofs.BeginLemmas.{told_exactly}
use Rattle.jvm_meaning.proofs.beginning.begins.Goals as goal

pub returns-clause-exactly : goal.returns-clause-exactly
returns-clause-exactly c = told_exactly c.args.class.now c.args.method c.args.shape.now _ c.has_first.ensures
