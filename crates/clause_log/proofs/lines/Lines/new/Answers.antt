use Rattle.std.proofs.Common.{refl}
use Rattle.clause_log.specs.Line.{lines_of}
use Rattle.clause_log.proofs.lines.Lines.new.Goals as goal

pub returns : goal.returns
unfolding lines_of
returns c = rw c.new.ensures.items refl
