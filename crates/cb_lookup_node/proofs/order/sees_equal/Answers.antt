use Rattle.std.proofs.Common.{◌≡◌, ◌∙◌, None, Some, sym}
use Rattle.cb_alpha.proofs.ReadFacts.{not_both}
use Rattle.cb_lookup_node.proofs.order.sees_equal.Goals as goal

pub returns-then-not-takes_equal : goal.returns-then-not-takes_equal
returns-then-not-takes_equal c fields has = (λ t. absurd (cc), λ h. absurd (not_both c.takes_equal.result (c.takes_equal.ensures ∙ h.0) c.if-not-takes_equal.true))

pub returns : goal.returns
returns c fields has =
    let d = c.has_another.ensures fields has (λ n e. absurd (let d : None ≡ Some n = e in cc)) in
    (λ t. (sym c.takes_equal.ensures ∙ c.if-not-takes_equal.false, d.0 t), λ h. d.1 h.1)
