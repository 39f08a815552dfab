use Rattle.std.proofs.Common.{◌∙◌, Some, ap, subst}
use Rattle.cb_alpha.proofs.Filings.{buckets_more, failed, filed_more, keeps, same_filing, same_groups, same_then, then_refiled}
use Rattle.cb_alpha.specs.Buckets.{AreSameFilings, Filing, Refiles, values_at}
use Rattle.cb_alpha.specs.Internal.Numbered.{filing}
use Rattle.cb_alpha.proofs.buckets.Buckets.add.Goals as goal

pub invariant_of-self-in-Ok : goal.invariant_of-self-in-Ok
invariant_of-self-in-Ok c =
    let b = c.self.inside in
    let vs' = c.find_or_add.new.buckets.slots in
    buckets_more b.numbers c.find_or_add.new.self b.buckets.slots vs' b.members c.add.new.self c.self.invariant c.args.member c.in_ok-bucket.bucket
    (ap (λ it. values_at it c.args.member) c.self.view_is ∙ c.requires) c.in_ok-bucket.ensures.others c.find_or_add.ensures.is c.args.values c.in_ok-bucket.ensures.ok c.find_or_add.ensures.kept c.in-Ok.ensures.ok

pub returns-in_err-bucket-clause-err : goal.returns-in_err-bucket-clause-err
returns-in_err-bucket-clause-err c =
    let b = c.self.inside in
    let vs' = c.find_or_add.new.buckets.slots in
    failed c.from_residual.result (subst (λ (it : Filing). AreSameFilings it (filing vs' b.members)) c.self.view_is
    (same_filing b.buckets.slots vs' b.members (keeps b.buckets.slots vs' b.members c.self.invariant.have c.find_or_add.ensures.kept)))

pub returns-in-Err-clause-err : goal.returns-in-Err-clause-err
returns-in-Err-clause-err c =
    let b = c.self.inside in
    let vs = b.buckets.slots in
    let vs' = c.find_or_add.new.buckets.slots in
    let vs'' = c.drop_empty.new.buckets.slots in
    let ms' = c.add.new.self in
    subst (λ (it : Filing). AreSameFilings it (filing vs'' ms')) c.self.view_is
    (same_then (filing vs b.members) (filing vs' b.members) (filing vs'' ms') (same_filing vs vs' b.members (keeps vs vs' b.members c.self.invariant.have c.find_or_add.ensures.kept))
    (same_then (filing vs' b.members) (filing vs' ms') (filing vs'' ms') (same_groups vs' b.members ms' c.in-Err.ensures.err) (same_filing vs' vs'' ms' c.drop_empty.ensures.members)))

pub returns-in-Ok-clause-ok : goal.returns-in-Ok-clause-ok
returns-in-Ok-clause-ok c =
    let b = c.self.inside in
    let vs' = c.find_or_add.new.buckets.slots in
    subst (λ (it : Filing). Refiles it (filing vs' c.add.new.self) c.args.member (Some c.args.values)) c.self.view_is
    (then_refiled (filing b.buckets.slots b.members) (filing vs' b.members) (filing vs' c.add.new.self) c.args.member (Some c.args.values)
    (same_filing b.buckets.slots vs' b.members (keeps b.buckets.slots vs' b.members c.self.invariant.have c.find_or_add.ensures.kept))
    (filed_more vs' b.members c.add.new.self c.args.member c.in_ok-bucket.bucket c.args.values c.in_ok-bucket.ensures.ok c.in-Ok.ensures.ok))
