use Rattle.std.proofs.Common.{rules}
use Rattle.cb_alpha_network.proofs.network.AlphaNetwork.new.Goals as goal

pub invariant_of-result : goal.invariant_of-result
invariant_of-result g c = (search rules, c.new-7.ensures c.new-4.result.keys)
