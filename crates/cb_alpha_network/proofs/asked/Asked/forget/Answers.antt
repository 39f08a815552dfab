use Rattle.std.proofs.Common.{sym}
use Rattle.cb_alpha_network.proofs.asked.Asked.forget.Goals as goal

pub returns-then-not-is_used-clause-stay : goal.returns-then-not-is_used-clause-stay
returns-then-not-is_used-clause-stay c = λ r places entry i is. c.remove_spot.ensures r places entry.sought.spot (c.is_used.ensures c.if-not-is_used.true entry i) is
