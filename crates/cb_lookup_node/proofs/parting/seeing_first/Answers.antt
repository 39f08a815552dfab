use Rattle.std.proofs.Common.{◌≡◌, ◌∙◌, List, ap, option_copied, subst, sym}
use Rattle.cb_alpha.specs.Buckets.{AreWithin}
use Rattle.cb_beta.proofs.Members.{apart_of}
use Rattle.cb_facts.specs.declared.value.Value.{Value}
use Rattle.cb_lookup_node.proofs.Between.{lower_are, upper_are}
use Rattle.cb_lookup_node.proofs.Turns.{if_ok}
use Rattle.cb_lookup_node.proofs.parting.seeing_first.Goals as goal
use Rattle.cb_lookup_node.specs.Order.{is_parted_behind, parting, place_among}

pub returns-then-is_lower-clause-are : goal.returns-then-is_lower-clause-are
returns-then-is_lower-clause-are c = if_ok c.members_within.result _ _ (λ all within fields known w order are many more filed.
    let filing = c.args.partials.now in
    let me = c.args.comparison in
    let others = option_copied c.args.others in
    let near : c.in_ok-near.near ≡ place_among known (parting (is_parted_behind me) w) = c.in_ok-near.ensures known w are ∙ ap (λ b. place_among known (parting b w)) c.is_parted_behind.ensures in
    lower_are me order known w c.args.values.now are others more c.in_ok-far.far (c.in_ok-far.ensures known w are) fields many filing filed all.items (sym c.is_lower.ensures ∙ c.if-is_lower.true)
    (subst (λ (it : List Value). AreWithin filing it c.in_ok-far.far all.items) near within))
    c.members_within.ensures

pub returns-clause-are : goal.returns-clause-are
returns-clause-are c = if_ok c.members_within-2.result _ _ (λ all within fields known w order are many more filed.
    let filing = c.args.partials.now in
    let me = c.args.comparison in
    let others = option_copied c.args.others in
    let near : c.in_ok-near.near ≡ place_among known (parting (is_parted_behind me) w) = c.in_ok-near.ensures known w are ∙ ap (λ b. place_among known (parting b w)) c.is_parted_behind.ensures in
    upper_are me order known w c.args.values.now are others more c.in_ok-far.far (c.in_ok-far.ensures known w are) fields many filing filed all.items (sym c.is_lower.ensures ∙ c.if-is_lower.false)
    (subst (λ (it : List Value). AreWithin filing c.in_ok-far.far it all.items) near within))
    c.members_within-2.ensures

pub returns-then-is_lower-clause-once : goal.returns-then-is_lower-clause-once
returns-then-is_lower-clause-once c = if_ok c.members_within.result _ _ (λ all within. apart_of all.items within.once) c.members_within.ensures

pub returns-clause-once : goal.returns-clause-once
returns-clause-once c = if_ok c.members_within-2.result _ _ (λ all within. apart_of all.items within.once) c.members_within-2.ensures
