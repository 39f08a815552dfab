use Rattle.std.proofs.Common.{◌∙◌, sym}
use Rattle.cb_alpha_network.proofs.Users.{first_uses, none_uses}
use Rattle.cb_alpha_network.proofs.user.is_used.Goals as goal

pub returns-in-Some : goal.returns-in-Some
returns-in-Some c =
    first_uses c.args.users.now.keys c.range.ensures.ordered c.args.alpha c.first_user-first.result c.first_user-first.ensures c.in-Some.user.now c.next.new.self
    (sym (c.range.ensures.between tt) ∙ c.in-Some.ensures.steps)

pub returns-in-None : goal.returns-in-None
returns-in-None c =
    none_uses c.args.users.now.keys c.range.ensures.ordered c.args.alpha c.first_user-first.result c.first_user-first.ensures (sym (c.range.ensures.between tt) ∙ c.in-None.ensures.steps.0)
