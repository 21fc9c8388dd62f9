use Rattle.std.proofs.Common.{map, string_bytes}
use Rattle.job_parts.specs.Parts.{meant}
use Rattle.decide.proofs.Ending.{right_for}
use Rattle.decide.proofs.answer.answer_to.Goals as goal

pub returns-in-Ok : goal.returns-in-Ok
returns-in-Ok g c =
    let s = g.S.Store in
    right_for (map string_bytes c.args.words.now) (s.holds c.args.store.now) (s.faults c.args.store.now) (s.faults c.answer_to_job.new.store) c.in-Ok.job (meant c.asked_of.result) c.answer_to_job.result c.in-Ok.ensures.job c.asked_of.ensures.asked c.answer_to_job.ensures
