-- The argument that was built is the one that was added.
use Rattle.std.proofs.Common.{rules}
use Rattle.std.proofs.lemmas.Result.{IfOk-weaker}
use Rattle.axe_words.proofs.command.positional.Goals as goal

pub returns-clause-adds : goal.returns-clause-adds
returns-clause-adds c = IfOk-weaker c.arg.result _ _ (λ new added. record {
  arg = c.action-arg.result;
  adds = added;
  named = search rules;
  plain = search rules;
  local = search rules;
  value = λ marked. (search rules, search rules, search rules, search rules);
}) c.arg.ensures
