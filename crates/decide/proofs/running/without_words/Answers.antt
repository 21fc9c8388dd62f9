use Rattle.std.proofs.Common.{subst}
use Rattle.decide.specs.Answers.{Answer}
use Rattle.decide.specs.Runs.{WroteAnswer}
use Rattle.decide.proofs.running.without_words.Goals as goal

pub returns-in-NotText : goal.returns-in-NotText
returns-in-NotText g c =
    let k = g.K.Sink in
    rw c.in-NotText.is (subst (λ (a : Answer). WroteAnswer a (k.written c.args.out.now) (k.written c.put.new.out) (k.faults c.args.out.now) (k.faults c.put.new.out) c.put.result) c.refused.ensures c.put.ensures)
