use Rattle.dag.proofs.Words.{word_there}
use Rattle.dag.proofs.value.word_of.Goals as goal

pub returns-then-place-values-clause-word : goal.returns-then-place-values-clause-word
returns-then-place-values-clause-word c = word_there _ _ _ c.if-place-values.true c.requires.size c.requires.words
