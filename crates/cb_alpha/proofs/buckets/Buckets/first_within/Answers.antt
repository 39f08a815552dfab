use Rattle.std.proofs.Common.{option_copied, subst}
use Rattle.cb_alpha.proofs.AllBuckets.{best_first}
use Rattle.cb_alpha.proofs.NumberedBuckets.{in_order}
use Rattle.cb_alpha.proofs.Ranges.{first_here, from_member, to_member}
use Rattle.cb_alpha.specs.Buckets.{AreFirstWithin, Filing, IsFiledWith}
use Rattle.cb_alpha.specs.Internal.Numbered.{filing}
use Rattle.cb_alpha.proofs.buckets.Buckets.first_within.Goals as goal

pub returns-then-self : goal.returns-then-self
returns-then-self c =
    let b = c.self.inside in
    let vs = b.buckets.slots in
    let found = option_copied c.first_between.result in
    subst (λ (it : Filing). AreFirstWithin it c.args.low.now c.args.high.now found) c.self.view_is
    (first_here (IsFiledWith vs) c.args.low.now c.args.high.now (IsFiledWith (filing vs b.members)) (to_member vs b.members c.self.invariant.used) (from_member vs b.members)
    found (c.first_between.ensures vs (in_order b.numbers vs c.self.invariant.numbered c.if-self.true)))

pub returns-else-self : goal.returns-else-self
returns-else-self c =
    let b = c.self.inside in
    let vs = b.buckets.slots in
    let found = option_copied c.best_of_all.result in
    subst (λ (it : Filing). AreFirstWithin it c.args.low.now c.args.high.now found) c.self.view_is
    (first_here (IsFiledWith vs) c.args.low.now c.args.high.now (IsFiledWith (filing vs b.members)) (to_member vs b.members c.self.invariant.used) (from_member vs b.members)
    found (best_first (IsFiledWith vs) c.args.low.now c.args.high.now found c.best_of_all.ensures))
