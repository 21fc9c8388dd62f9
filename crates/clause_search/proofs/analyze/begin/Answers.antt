use Rattle.clause_search.proofs.analyze.begin.Goals as goal

pub begin-requires : goal.begin-requires
begin-requires c = rw c.clause.ensures.value c.requires.over
