use Rattle.std.proofs.Common.{◌≡◌, true, false, subst}
use Rattle.cb_beta.proofs.Losses.{alike, on_ok}
use Rattle.cb_group_node.proofs.passing.retract_one.Goals as goal
use Rattle.cb_group_node.specs.Internal.{GroupHolds}

pub returns : goal.returns
returns c =
    on_ok c.remove_children.result
    (alike c.args.own.now c.remove_children.new.self (λ t. t.parent ≡ c.args.number) (λ t. (t.parent ≡ c.args.number) × (GroupHolds c.args.positive c.args.inside.now t.parent → ⊥))
    (λ t e. (e, λ h. absurd (let no : false ≡ true = c.if-holds.ensures.1 (subst (GroupHolds c.args.positive c.args.inside.now) e h) in cc))) (λ t h. h.0))
    c.remove_children.ensures.ok
