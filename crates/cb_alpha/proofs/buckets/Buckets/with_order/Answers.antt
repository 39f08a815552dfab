use Rattle.cb_alpha.proofs.Filings.{filed_nowhere, no_buckets}
use Rattle.cb_alpha.proofs.buckets.Buckets.with_order.Goals as goal

pub invariant_of-result : goal.invariant_of-result
invariant_of-result c = no_buckets c.new.result c.new-2.result.slots c.new-3.result c.new-2.ensures.empty c.new.ensures c.new-3.ensures

pub returns : goal.returns
returns c m = filed_nowhere c.new-2.result.slots c.new-3.result m (c.new-3.ensures m)
