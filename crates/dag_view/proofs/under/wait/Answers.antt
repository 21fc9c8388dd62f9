use Rattle.dag_view.proofs.Lists.{insert_is}
use Rattle.dag_view.proofs.under.wait.Goals as goal

pub returns : goal.returns
returns c = insert_is c.args.waiting.now.keys c.insert.new.self.keys c.args.id c.in_ok-insert.ensures.keys
