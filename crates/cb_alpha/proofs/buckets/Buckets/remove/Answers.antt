use Rattle.std.proofs.Common.{None, subst}
use Rattle.cb_alpha.proofs.Filings.{filed_less, refiled_then, same_filing}
use Rattle.cb_alpha.specs.Buckets.{Filing, Refiles}
use Rattle.cb_alpha.specs.Internal.Numbered.{filing}
use Rattle.cb_alpha.proofs.buckets.Buckets.remove.Goals as goal

pub returns : goal.returns
returns c =
    let b = c.self.inside in
    let vs = b.buckets.slots in
    let vs' = c.drop_empty.new.buckets.slots in
    let ms' = c.remove.new.self in
    subst (λ (it : Filing). Refiles it (filing vs' ms') c.args.member None) c.self.view_is
    (refiled_then (filing vs b.members) (filing vs ms') (filing vs' ms') c.args.member None (filed_less vs b.members ms' c.args.member c.remove.ensures) (same_filing vs vs' ms' c.drop_empty.ensures.members))
