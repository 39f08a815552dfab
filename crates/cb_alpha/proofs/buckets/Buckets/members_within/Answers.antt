use Rattle.std.proofs.Common.{subst}
use Rattle.std.proofs.lemmas.Result.{IfOk-weaker}
use Rattle.cb_alpha.proofs.NumberedBuckets.{in_order}
use Rattle.cb_alpha.specs.Buckets.{AreWithin, Filing}
use Rattle.cb_alpha.proofs.buckets.Buckets.members_within.Goals as goal

pub returns-then-self : goal.returns-then-self
returns-then-self c =
    let b = c.self.inside in
    IfOk-weaker c.members_between.result _ _
    (λ all are. subst (λ (it : Filing). AreWithin it c.args.low.now c.args.high.now all.items) c.self.view_is
    (are b.buckets.slots (in_order b.numbers b.buckets.slots c.self.invariant.numbered c.if-self.true)))
    c.members_between.ensures

pub returns-else-self : goal.returns-else-self
returns-else-self c =
    IfOk-weaker c.members_of_all.result _ _
    (λ all are. subst (λ (it : Filing). AreWithin it c.args.low.now c.args.high.now all.items) c.self.view_is are)
    c.members_of_all.ensures
