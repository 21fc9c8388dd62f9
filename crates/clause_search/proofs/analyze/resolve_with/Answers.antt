use Rattle.clause_search.proofs.analyze.resolve_with.Goals as goal

pub resolve-requires : goal.resolve-requires
resolve-requires c = rw c.clause.ensures.value c.requires.over
