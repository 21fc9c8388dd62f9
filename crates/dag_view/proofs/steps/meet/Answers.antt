use Rattle.dag_view.proofs.Stepping.{met_is, met_kept}
use Rattle.dag_view.proofs.steps.meet.Goals as goal

pub returns-clause-among : goal.returns-clause-among
returns-clause-among c = met_is c.args.met.now.keys c.insert.new.self.keys c.args.id c.in_ok-insert.ensures.keys

pub returns-clause-kept : goal.returns-clause-kept
returns-clause-kept c = met_kept c.args.met.now.keys c.insert.new.self.keys c.args.id c.in_ok-insert.ensures.keys
