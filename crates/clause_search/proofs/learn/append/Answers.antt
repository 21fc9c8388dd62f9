use Rattle.std.proofs.Common.{ℕ, length, sym, ap, subst, Err}
use Rattle.clause_log.specs.Resolution.{StepsAreIn}
use Rattle.clause_log.specs.Log.{clauses_of}
use Rattle.clause_search.proofs.Learning.{none_missing}
use Rattle.clause_search.proofs.learn.append.Goals as goal

pub unreachable-requires : goal.unreachable-requires
unreachable-requires c =
    let n : ℕ = length (clauses_of c.args.log.now) in
    let k : ℕ = c.in-Err-NoSuchClause.field-0-0 in
    none_missing n c.args.derivation.now.start c.deref.result.now k c.requires.start
    (subst (StepsAreIn n) (sym c.deref.ensures.value) c.requires.steps) ((c.in-Err-NoSuchClause.ensures.missing k).0 (ap Err c.in-Err-NoSuchClause.field-0-is))
