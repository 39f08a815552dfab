use Rattle.std.proofs.Common.{rules, ◌≡◌, ◌∙◌, None, Some, sym}
use Rattle.cb_beta.proofs.Members.{apart_of}
use Rattle.cb_lookup_node.proofs.Looked.{is_lost, lost_is, members_such, none_found, none_left, not_such, some_found, some_left}
use Rattle.cb_lookup_node.proofs.turned.losing.Goals as goal
use Rattle.cb_lookup_node.specs.Internal.{IsLost}

pub returns-then-not-is_empty-clause-are : goal.returns-then-not-is_empty-clause-are
returns-then-not-is_empty-clause-are c fields has apart went n =
    let alpha = c.args.alpha.now in
    let vs = c.in-Some.values in
    let xs = c.facts_with.result.now in
    let these = c.facts_with.ensures has.0 has.1 in
    let is : c.args.went.now ≡ Some vs = search rules in
    not_such c.args.partials.now (IsLost None fields alpha) c.args.went.now (λ us h. went ∙ is_lost fields alpha apart us h) vs is
    (λ h. h.1 (some_found alpha c.args.join fields has vs xs these (some_left xs c.is_empty.result c.is_empty.ensures c.if-not-is_empty.true))) n

pub returns-clause-are : goal.returns-clause-are
returns-clause-are c fields has apart went n =
    let alpha = c.args.alpha.now in
    let vs = c.in-Some.values in
    let xs = c.facts_with.result.now in
    let these = c.facts_with.ensures has.0 has.1 in
    let is : c.args.went.now ≡ Some vs = search rules in
    members_such c.args.partials.now (IsLost None fields alpha) c.args.went.now (λ us h. went ∙ is_lost fields alpha apart us h) vs is
    (lost_is fields alpha apart vs (sym went ∙ is) (none_found alpha c.args.join fields has vs xs these (none_left xs c.is_empty.result c.is_empty.ensures c.if-not-is_empty.false)))
    c.members_with.result.now c.members_with.ensures n

pub returns-clause-once : goal.returns-clause-once
returns-clause-once c = apart_of c.members_with.result.now c.members_with.ensures.once
