use Rattle.std.proofs.Common.{◌≡◌, ◌∙◌, ◌↔◌, ℕ, List, None, Some, rules, subst, sym}
use Rattle.cb_lookup_node.proofs.Alone.{filed_by_so, none_filed_by}
use Rattle.cb_lookup_node.proofs.Turns.{alone_lost, if_ok, lost_alone, none_lost, under_many}
use Rattle.cb_lookup_node.proofs.turned.losing_in_order.Goals as goal
use Rattle.cb_lookup_node.specs.Internal.{IsFiledBy, IsLost, values_under}
use Rattle.cb_lookup_node.specs.Order.{IsSeenAlone}
use Rattle.cb_matches.specs.Chains.{In}

pub returns-in-Some-clause-are : goal.returns-in-Some-clause-are
returns-in-Some-clause-are c = if_ok c.seeing_alone.result _ _ (λ all are fields came asks.
    let alpha = c.args.alpha.now in
    let me = c.args.comparison in
    let ws = c.in-Some.values in
    let given : c.args.went.now ≡ Some ws = search rules in
    let is : values_under fields alpha alpha.gone ≡ Some ws = sym asks.went ∙ given in
    filed_by_so (IsSeenAlone me fields alpha None ws) (IsLost (Some me) fields alpha) c.args.partials.now all.items
    (are fields asks.has_join asks.ordered (under_many fields alpha alpha.gone ws is) (λ n d. absurd (cc)) asks.filed)
    (alone_lost me fields alpha asks.apart ws is) (lost_alone me fields alpha asks.apart ws is))
    c.seeing_alone.ensures.are

pub returns-in-None-clause-are : goal.returns-in-None-clause-are
returns-in-None-clause-are c fields came asks n =
    let alpha = c.args.alpha.now in
    let given : c.args.went.now ≡ None = search rules in
    let Such = IsLost (Some c.args.comparison) fields alpha in
    subst (λ (it : List ℕ). In n it ↔ IsFiledBy Such c.args.partials.now n) (sym c.new.ensures.items)
    (none_filed_by Such c.args.partials.now (none_lost c.args.comparison fields alpha asks.apart (sym asks.went ∙ given)) n)
