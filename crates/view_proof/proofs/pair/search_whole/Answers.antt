use Rattle.std.proofs.Common.{◌∙◌}
use Rattle.view_proof.proofs.Asking.{apart_small}
use Rattle.view_proof.proofs.Spelling.{checked_from, model_apart, is_model, is_refuted, is_spent, spent_from}
use Rattle.view_proof.proofs.Graphs.{graph_apart, input_in_graph}
use Rattle.view_proof.proofs.pair.search_whole.Goals as goal

pub answer_of-requires-clause-clauses : goal.answer_of-requires-clause-clauses
answer_of-requires-clause-clauses c = apart_small c.args.view c.args.question.formula c.args.question.rows c.nodes.ensures.known c.requires.few c.requires.asks

pub invariant_of-result : goal.invariant_of-result
invariant_of-result c =
    let found = is_refuted _ c.args.question.rows _ _ c.args.lines _ c.in-Refuted.log c.in-Refuted.is c.in_ok-input.ensures in
    checked_from c.args.view c.args.question.formula c.args.question.rows c.args.lines c.in-Refuted.log c.requires.asks found.0 found.1

pub returns-in-Model-clause-end : goal.returns-in-Model-clause-end
returns-in-Model-clause-end c =
    let found = is_model _ c.args.question.rows _ c.args.view.nodes _ c.args.view.leaves c.args.lines _ c.in-Model.input c.in-Model.is c.nodes.ensures.nodes c.leaves.ensures c.in_ok-input.ensures in
    (c.requires.whole, model_apart c.args.view c.args.question.formula c.args.question.rows found.0 c.in-Model.input c.nodes.ensures.known c.requires.asks found.1 found.2)

pub returns-in-Model-clause-graphs : goal.returns-in-Model-clause-graphs
returns-in-Model-clause-graphs c =
    let found = is_model _ c.args.question.rows _ c.args.view.nodes _ c.args.view.leaves c.args.lines _ c.in-Model.input c.in-Model.is c.nodes.ensures.nodes c.leaves.ensures c.in_ok-input.ensures in
    let apart = model_apart c.args.view c.args.question.formula c.args.question.rows found.0 c.in-Model.input c.nodes.ensures.known c.requires.asks found.1 found.2 in
    λ g table graph embeds keeps leaves. (
      input_in_graph g table c.args.view c.in-Model.input graph c.requires.whole embeds (apart.size ∙ leaves) apart.fits found.2.rest,
      λ other inside agrees. graph_apart g table c.args.view c.in-Model.input other graph c.nodes.ensures.known c.requires.whole embeds keeps apart inside agrees,
    )

pub invariant_of-result-in-Spent : goal.invariant_of-result-in-Spent
invariant_of-result-in-Spent c =
    let found = is_spent _ c.args.question.rows _ _ c.args.lines _ c.in-Spent.log c.in-Spent.is c.in_ok-input.ensures in
    spent_from c.args.view c.args.question.formula c.args.question.rows c.args.lines c.in-Spent.log c.requires.asks found.0 found.1
