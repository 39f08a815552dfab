use Rattle.std.proofs.Common.{rules}
use Rattle.cb_fit.proofs.Ones.{ones_by_number}
use Rattle.cb_fit.proofs.cuts.CutsOrd.cmp.Goals as goal

pub returns-in-Ones-Ones : goal.returns-in-Ones-Ones
returns-in-Ones-Ones c = search (rules, ones_by_number)
