use Rattle.std.proofs.Common.{◌∙◌}
use Rattle.cb_agenda.proofs.DueLaws.{filed_thinned}
use Rattle.cb_agenda.specs.Internal.{active_at}
use Rattle.cb_agenda.proofs.due.remove_from.Goals as goal

pub returns-in-Some-clause-filed : goal.returns-in-Some-clause-filed
returns-in-Some-clause-filed c =
    filed_thinned c.args.lanes.now c.thin.new.self (active_at c.remove_key.new.activations) (c.remove_key.ensures.filed c.args.lanes.now c.requires.filed) c.thin.ensures.thinned c.thin.ensures.rising

pub returns-in-Some-clause-due : goal.returns-in-Some-clause-due
returns-in-Some-clause-due c = c.thin.ensures.thinned.same ∙ c.remove_key.ensures.due c.args.lanes.now

pub returns-in_default-clause-filed : goal.returns-in_default-clause-filed
returns-in_default-clause-filed c = c.remove_key.ensures.filed c.args.lanes.now c.requires.filed

pub returns-in_default-clause-due : goal.returns-in_default-clause-due
returns-in_default-clause-due c = c.remove_key.ensures.due c.args.lanes.now
