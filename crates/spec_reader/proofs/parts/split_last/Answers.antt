use Rattle.std.proofs.Common.{sym}
use Rattle.spec_reader.specs.Expressions.{reading}
use Rattle.spec_reader.proofs.LastPart.{split_last-map, last_depth-of}
use Rattle.spec_reader.proofs.parts.split_last.Goals as goal

pub returns-clause-parts : goal.returns-clause-parts
returns-clause-parts c = sym (split_last-map reading c.args.parts.now c.in_ok-last.before.now c.in_ok-last.last.now c.in_ok-last.ensures.cases.0)

pub returns-clause-depth : goal.returns-clause-depth
returns-clause-depth c = last_depth-of c.args.parts.now c.in_ok-last.before.now c.in_ok-last.last.now c.in_ok-last.ensures.cases.0
