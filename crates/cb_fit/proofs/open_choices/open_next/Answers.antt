use Rattle.std.proofs.Common.{◌∙◌, ap, subst, sym}
use Rattle.cb_fit.proofs.Choices.{last-first, next-opened, tries-last}
use Rattle.cb_fit.specs.Internal.Choices.{AreOpen, tries_left, ways_left}
use Rattle.cb_fit.proofs.open_choices.open_next.Goals as goal

pub returns-in_ok-push-clause-ways : goal.returns-in_ok-push-clause-ways
returns-in_ok-push-clause-ways c = λ s cuts. ap (ways_left s cuts) c.in_ok-push.ensures.ok ∙ last-first s cuts c.args.choices.now.items c.args.next

pub returns-in_ok-push-clause-tries : goal.returns-in_ok-push-clause-tries
returns-in_ok-push-clause-tries c = ap tries_left c.in_ok-push.ensures.ok ∙ tries-last c.args.choices.now.items c.args.next

pub returns-in_ok-push-clause-open : goal.returns-in_ok-push-clause-open
returns-in_ok-push-clause-open c = λ s cuts is order were. subst (AreOpen s cuts) (sym c.in_ok-push.ensures.ok) (next-opened s cuts c.args.choices.now.items c.args.next (sym c.is_some.ensures ∙ c.if-is_some.true) is order were)
