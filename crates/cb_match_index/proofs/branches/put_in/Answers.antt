use Rattle.std.proofs.Common.{◌∙◌, ap, length, refl}
use Rattle.std.proofs.lemmas.Option.{slice_get_read}
use Rattle.std.proofs.lemmas.Result.{on_err_weaker}
use Rattle.cb_match_index.proofs.RuleValues.{kept_set}
use Rattle.cb_match_index.specs.Internal.{value_at}
use Rattle.cb_match_index.proofs.branches.put_in.Goals as goal

pub returns-clause-err : goal.returns-clause-err
returns-clause-err c =
    let reached = c.reach_branch.new.branches.items in
    let there = slice_get_read reached (length reached) c.args.branch c.index_mut.result.now refl c.in_ok-reach_branch.ensures.long c.index_mut.ensures.value in
    on_err_weaker c.put_at.result
    (λ same place. kept_set reached c.args.branch c.index_mut.result.now c.put_at.new.values there same place ∙ ap (λ vs. value_at vs place.1) (c.reach_branch.ensures.same place.0))
    c.put_at.ensures.err
