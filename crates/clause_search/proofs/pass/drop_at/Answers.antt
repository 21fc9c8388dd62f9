use Rattle.std.proofs.Common.{◌≡◌, ◌<◌, ◌+◌, List, [], length, get_or, set, sym, ◌∙◌, ap, subst}
use Rattle.std.proofs.lemmas.List.{get_or-set_same, get_or-set_other, length-set, get_or_read}
use Rattle.cnf_clauses.specs.declared.lit.ClauseId.{ClauseId}
use Rattle.clause_search.proofs.pass.drop_at.Goals as goal

pub returns : goal.returns
returns c =
    let ls : List (List ClauseId) = c.args.lists.now.items in
    let new : List ClauseId = c.remove.new.self in
    let was : c.index_mut-bucket.result.now ≡ get_or ls c.args.at [] = get_or_read ls c.args.at c.index_mut-bucket.result.now c.requires.at c.index_mut-bucket.ensures.value [] in
    let is : get_or (set ls c.args.at new) c.args.at [] ≡ new = get_or-set_same ls c.args.at new [] c.requires.at in
    record {
      removed = record {
        lists = length-set ls c.args.at new;
        others = λ k ne. get_or-set_other ls c.args.at k new [] ne;
        shorter = ap (λ (x : List ClauseId). length x + 1) is ∙ (c.remove.ensures.len ∙ ap length was);
        before = λ j d low. ap (λ (x : List ClauseId). get_or x j d) is ∙ (c.remove.ensures.before j d low ∙ ap (λ (x : List ClauseId). get_or x j d) was);
        later = λ j d after j-in. let e = c.remove.ensures.later j d after (subst (λ (x : List ClauseId). j < length x) (sym was) j-in) in
            (e.0, e.1, subst (λ (x : List ClauseId). e.0 < length x) (sym is) e.2, ap (λ (x : List ClauseId). get_or x e.0 d) is ∙ (e.3 ∙ ap (λ (x : List ClauseId). get_or x j d) was));
      };
    }
