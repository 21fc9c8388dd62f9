use Rattle.std.proofs.Common.{subst, rules}
use Rattle.dag.specs.Graph.{Graph, leaves_of}
use Rattle.dag.proofs.Bounds.{AllWide, found_wide}
use Rattle.dag.proofs.graph.Dag.width_of.Goals as goal

pub returns-clause-wide : goal.returns-clause-wide
returns-clause-wide c =
    let wide : AllWide c.args.self.now.widths = subst (λ (g : Graph). AllWide g.widths) c.self.view_is c.self.invariant.wide in
    found_wide (leaves_of c.args.self.now) c.args.self.now.widths c.args.node c.width_by.result wide (search rules)
