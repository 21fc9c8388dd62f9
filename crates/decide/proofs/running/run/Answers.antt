use Rattle.std.proofs.Common.{map, string_bytes, inl}
use Rattle.decide.proofs.Ending.{stopped}
use Rattle.decide.proofs.running.run.Goals as goal

pub returns-in-Err : goal.returns-in-Err
returns-in-Err g c =
    let s = g.S.Store in let k = g.K.Sink in
    rw c.without.ensures (inl (stopped (map string_bytes c.args.words.now) (s.holds c.args.store.now) (s.faults c.args.store.now) (s.faults c.answer_to.new.store) (k.written c.args.out.now) (k.faults c.args.out.now) c.in-Err.why c.in-Err.ensures))
