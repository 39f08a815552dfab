use Rattle.std.proofs.Common.{subst}
use Rattle.cb_alpha.proofs.Filings.{with_values}
use Rattle.cb_alpha.proofs.NumberedBuckets.{found_as}
use Rattle.cb_alpha.specs.Buckets.{AreWithValues, Filing}
use Rattle.cb_alpha.proofs.buckets.Buckets.members_with.Goals as goal

pub returns : goal.returns
returns c =
    let b = c.self.inside in
    subst (λ (it : Filing). AreWithValues it c.args.values.now c.members_in.result.now) c.self.view_is
    (with_values b.numbers b.buckets.slots c.self.invariant.numbered b.members c.members_in.result.now c.args.values.now c.find.result
    (found_as b.numbers b.buckets.slots c.self.invariant.numbered c.args.values.now c.find.result c.find.ensures) c.members_in.ensures.some c.members_in.ensures.none)
