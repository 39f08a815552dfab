use Rattle.std.proofs.Common.{◌≡◌, ◌∙◌, ◌↔◌, ℕ, List, Option, None, Some, rules, subst, sym}
use Rattle.cb_lookup_node.proofs.Alone.{filed_by_so, none_filed_by}
use Rattle.cb_lookup_node.proofs.Turns.{alone_gained, come_has, gained_alone, if_ok, no_gone, none_gained, under_many}
use Rattle.cb_lookup_node.proofs.turned.gaining_in_order.Goals as goal
use Rattle.cb_lookup_node.specs.Internal.{IsFiledBy, IsGained, values_under}
use Rattle.cb_lookup_node.specs.Order.{IsSeenAlone}
use Rattle.cb_matches.specs.Chains.{In}

pub returns-in-Some-clause-are : goal.returns-in-Some-clause-are
returns-in-Some-clause-are c = if_ok c.seeing_alone.result _ _ (λ all are fields went asks.
    let alpha = c.args.alpha.now in
    let me = c.args.comparison in
    let ws = c.in-Some.values in
    let given : c.args.came.now ≡ Some ws = search rules in
    let is : values_under fields alpha alpha.come ≡ Some ws = sym asks.came ∙ given in
    let gone_none = no_gone fields alpha ws is asks.single in
    let number = c.come-number.ensures in
    filed_by_so (IsSeenAlone me fields alpha c.come-number.result ws) (IsGained (Some me) fields alpha) c.args.partials.now all.items
    (are fields asks.has_join asks.ordered (under_many fields alpha alpha.come ws is) (λ n d. come_has me fields alpha asks.apart ws is n (sym number ∙ d)) asks.filed)
    (λ vs h. alone_gained me fields alpha asks.apart ws is gone_none vs (subst (λ (it : Option ℕ). IsSeenAlone me fields alpha it ws vs) number h))
    (λ vs h. subst (λ (it : Option ℕ). IsSeenAlone me fields alpha it ws vs) (sym number) (gained_alone me fields alpha asks.apart ws is vs h)))
    c.seeing_alone.ensures.are

pub returns-in-None-clause-are : goal.returns-in-None-clause-are
returns-in-None-clause-are c fields went asks n =
    let alpha = c.args.alpha.now in
    let given : c.args.came.now ≡ None = search rules in
    let Such = IsGained (Some c.args.comparison) fields alpha in
    subst (λ (it : List ℕ). In n it ↔ IsFiledBy Such c.args.partials.now n) (sym c.new.ensures.items)
    (none_filed_by Such c.args.partials.now (none_gained c.args.comparison fields alpha asks.apart (sym asks.came ∙ given)) n)
