use Rattle.std.proofs.Common.{rules}
use Rattle.cb_fit.proofs.LengthsAt.{one_at}
use Rattle.cb_fit.proofs.cuts.Lengths.get.Goals as goal

pub returns-then-at-count-clause-length : goal.returns-then-at-count-clause-length
returns-then-at-count-clause-length c = search (rules, one_at)
