use Rattle.std.proofs.Common.{◌≡◌, None, Some, ap, option_copied, refl, rules, subst}
use Rattle.cb_alpha.proofs.ReadFacts.{some_none}
use Rattle.cb_alpha.specs.AlphaMemories.{live}
use Rattle.cb_lookup_node.proofs.order.has_beyond.Goals as goal
use Rattle.cb_lookup_node.specs.LookupNodes.{HasOne}

pub returns-in-Some : goal.returns-in-Some
returns-in-Some c fields known w has are many =
    let near = c.in_ok-found.ensures fields known w has are many in
    let is : c.in_ok-found.found ≡ Some c.in-Some.field-0 = search rules in
    let k = near.is _ (ap option_copied is) in
    (λ t. (k.0, subst (HasOne fields (live c.args.alpha.now)) k.1 k.2, k.3), λ h. refl)

pub returns-in-None : goal.returns-in-None
returns-in-None c fields known w has are many =
    let near = c.in_ok-found.ensures fields known w has are many in
    let is : c.in_ok-found.found ≡ None = search rules in
    (λ t. absurd (cc), λ h. let z = near.nearest h.0 h.1 h.2 in some_none (option_copied c.in_ok-found.found) z.1 (ap option_copied is))
