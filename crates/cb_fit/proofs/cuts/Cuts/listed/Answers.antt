use Rattle.std.proofs.Common.{rules}
use Rattle.cb_fit.proofs.Ones.{ones_are}
use Rattle.cb_fit.proofs.cuts.Cuts.listed.Goals as goal

pub returns-then-are_ones : goal.returns-then-are_ones
returns-then-are_ones c = search (rules, ones_are)
