use Rattle.std.proofs.Common.{subst, inl}
use Rattle.cnf_clauses.proofs.Meeting.{all_met-from_Models}
use Rattle.clause_search.specs.Found.{IsFound, assigned}
use Rattle.clause_search.specs.declared.outcome.Found.{Found}
use Rattle.view_proof.proofs.Asking.{apart_small}
use Rattle.view_proof.proofs.Spelling.{checked_from, spent_from}
use Rattle.view_proof.proofs.pair.search_cut.Goals as goal

pub search-requires-clause-clauses : goal.search-requires-clause-clauses
search-requires-clause-clauses c = apart_small c.args.view c.args.question.formula c.args.question.rows c.nodes-nodes.ensures.known c.requires.few c.requires.asks

pub invariant_of-result : goal.invariant_of-result
invariant_of-result c =
    let found = subst (λ (f : Found). IsFound c.args.question.formula c.args.lines f) c.in-Refuted.is c.in_ok-search.ensures in
    checked_from c.args.view c.args.question.formula c.args.question.rows c.args.lines c.in-Refuted.log c.requires.asks found.0 found.1

pub invariant_of-result-in-Spent : goal.invariant_of-result-in-Spent
invariant_of-result-in-Spent c =
    let found = subst (λ (f : Found). IsFound c.args.question.formula c.args.lines f) c.in-Spent.is c.in_ok-search.ensures in
    spent_from c.args.view c.args.question.formula c.args.question.rows c.args.lines c.in-Spent.log c.requires.asks found.0 found.1

pub returns-in-Model-clause-end : goal.returns-in-Model-clause-end
returns-in-Model-clause-end c =
    let found = subst (λ (f : Found). IsFound c.args.question.formula c.args.lines f) c.in-Model.is c.in_ok-search.ensures in (
      c.requires.free,
      record {
        formula = c.args.question.formula;
        question = (c.args.question.rows, inl c.requires.asks);
        model = assigned c.in-Model.field-0.items;
        meets = all_met-from_Models (assigned c.in-Model.field-0.items) c.args.question.formula.clauses found.1;
      },
    )
