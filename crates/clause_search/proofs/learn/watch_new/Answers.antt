use Rattle.std.proofs.Common.{ℕ, List, subst, sym, Option}
use Rattle.clause_search.specs.declared.watch.Pair.{Pair}
use Rattle.cnf_clauses.specs.Literal.{code_of}
use Rattle.clause_search.specs.Lists.{IsAdded}
use Rattle.clause_search.specs.Pass.{IsListed}
use Rattle.clause_search.proofs.Renewed.{listed_new}
use Rattle.clause_search.proofs.learn.watch_new.Goals as goal

pub returns-in_ok-push-in-Some-clause-listed : goal.returns-in_ok-push-in-Some-clause-listed
returns-in_ok-push-in-Some-clause-listed c =
    let w = c.args.watches.now in
    let id = c.args.id in
    let add1 : IsAdded w.lists.items c.add_to.new.lists.items (code_of c.args.first) id = subst (λ (k : ℕ). IsAdded w.lists.items c.add_to.new.lists.items k id) c.code.ensures c.in_ok-add_to-in-Some.ensures.added in
    let add2 : IsAdded c.add_to.new.lists.items c.add_to-in-Some.new.lists.items (code_of c.in-Some.second) id = subst (λ (k : ℕ). IsAdded c.add_to.new.lists.items c.add_to-in-Some.new.lists.items k id) c.code-in-Some.ensures c.in_ok-add_to-in-Some-2.ensures.added in
    subst (λ (ps : List (Option Pair)). IsListed ps c.add_to-in-Some.new.lists.items) (sym c.in_ok-push-in-Some.ensures.items)
    (listed_new w.pairs.items w.lists.items c.add_to.new.lists.items c.add_to-in-Some.new.lists.items id c.args.first c.in-Some.second c.requires.id add1 add2 c.requires.listed)
