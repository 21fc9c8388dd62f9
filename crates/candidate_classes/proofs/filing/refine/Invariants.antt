use Rattle.candidate_classes.specs.Filing.{AreFiled, of_places}
use Rattle.candidate_classes.proofs.filing.refine.Given as goal

abbrev pub invariant-loop-k : goal.invariant-loop-k
invariant-loop-k l = AreFiled (of_places l.leaders l.members) (of_places l.values l.members) l.finer l.heads l.nexts l.k
