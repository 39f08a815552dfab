use Rattle.std.proofs.Common.{◌≡◌, ap, rules, subst, sym, ◌∙◌}
use Rattle.std.specs.BTreeMap.{insert_entry}
use Rattle.cb_agenda.proofs.CurrentLaws.{put}
use Rattle.cb_agenda.proofs.DueLaws.{filed_more, older_all, stamped_more}
use Rattle.cb_agenda.proofs.LaneCalls.{ok_of, on_ok}
use Rattle.cb_agenda.specs.Internal.{IsFiled, IsStampedUpTo, current, active_at}
use Rattle.cb_agenda.specs.Ranks.{rank_cmp}
use Rattle.std.specs.Prelude.{List}
use Rattle.cb_agenda.specs.Internal.{Placed}
use Rattle.cb_agenda.proofs.due.push_place.Goals as goal

pub returns-else-is_err-clause-filed : goal.returns-else-is_err-clause-filed
returns-else-is_err-clause-filed c = λ find key was free change.
    let es = c.args.lanes.now in
    let found = active_at c.args.activations.now in
    let t = c.args.rank in
    let n = c.args.place in
    let older = older_all c.requires.above.0 t es c.requires.above.2 c.requires.above.1 in
    let is : c.push-pushed.new.self ≡ insert_entry rank_cmp es t n = ok_of _ c.push-pushed.result (search rules) c.push-pushed.ensures.ok in
    subst (λ (xs : List Placed). IsFiled xs found) (sym is) (filed_more es find found n (record { key = key; rank = t }) change older was)

pub returns-else-is_err-clause-due : goal.returns-else-is_err-clause-due
returns-else-is_err-clause-due c =
    let es = c.args.lanes.now in
    let found = active_at c.args.activations.now in
    let t = c.args.rank in
    let n = c.args.place in
    let older = older_all c.requires.above.0 t es c.requires.above.2 c.requires.above.1 in
    on_ok _ _ c.push-pushed.result
    (λ is find key was free change. ap (current found) is ∙ put find found n key t free change es older was.rising)
    c.push-pushed.ensures.ok

pub returns-else-is_err-clause-stamped : goal.returns-else-is_err-clause-stamped
returns-else-is_err-clause-stamped c =
    on_ok _ _ c.push-pushed.result
    (λ is. subst (IsStampedUpTo c.args.rank.stamp) (sym is)
    (stamped_more c.requires.above.0 c.args.rank c.args.place c.args.lanes.now c.requires.above.2 c.requires.above.1))
    c.push-pushed.ensures.ok
