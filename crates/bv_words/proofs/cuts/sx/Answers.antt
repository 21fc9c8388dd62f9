use Rattle.bv_words.proofs.Bounds.{sx_low_word, sx_high_word}
use Rattle.bv_words.proofs.cuts.sx.Goals as goal

pub returns-then-x-half-clause-word : goal.returns-then-x-half-clause-word
returns-then-x-half-clause-word c = sx_low_word _ _ _ c.requires.order c.requires.word

pub returns-else-x-half-clause-word : goal.returns-else-x-half-clause-word
returns-else-x-half-clause-word c = rw (c.mask.ensures, c.mask-else-x-half.ensures) (sx_high_word _ _ _ c.requires.order c.requires.word)
