use Rattle.std.proofs.Common.{rules, ◌≡◌, ◌∙◌, ◌<◌, None, Some, ap, arith, length, sym}
use Rattle.cb_alpha.proofs.ReadFacts.{not_both, same_some}
use Rattle.cb_beta.proofs.Members.{apart_of}
use Rattle.cb_lookup_node.proofs.Looked.{another_found, come_live, gained_is, is_gained, members_such, not_such, only_found}
use Rattle.cb_lookup_node.proofs.turned.gaining.Goals as goal
use Rattle.cb_lookup_node.specs.Internal.{IsGained}

pub returns-then-are_given-clause-are : goal.returns-then-are_given-clause-are
returns-then-are_given-clause-are c fields has apart went came n =
    let alpha = c.args.alpha.now in
    let vs = c.in-Some.values in
    let is : c.args.came.now ≡ Some vs = search rules in
    not_such c.args.partials.now (IsGained None fields alpha) c.args.came.now (λ us h. came ∙ (is_gained fields alpha apart us h).0) vs is
    (λ h. (is_gained fields alpha apart vs h).1 (sym went ∙ c.are_given.ensures.0 c.if-are_given.true)) n

pub returns-then-facts_with-gt1-clause-are : goal.returns-then-facts_with-gt1-clause-are
returns-then-facts_with-gt1-clause-are c fields has apart went came n =
    let alpha = c.args.alpha.now in
    let vs = c.in-Some.values in
    let xs = c.facts_with.result.now in
    let these = c.facts_with.ensures has.0 has.1 in
    let is : c.args.came.now ≡ Some vs = search rules in
    let many : 1 < length xs = omega (arith, c.if-facts_with-gt1.true) in
    not_such c.args.partials.now (IsGained None fields alpha) c.args.came.now (λ us h. came ∙ (is_gained fields alpha apart us h).0) vs is
    (λ h.
    let only = (is_gained fields alpha apart vs h).2 in
    let k = h.1.0 in
    let other = another_found alpha c.args.join fields has vs xs these many k in
    other.2 (same_some alpha.come (only other.0 other.1) (only k h.1.1))) n

pub returns-clause-are : goal.returns-clause-are
returns-clause-are c fields has apart went came n =
    let alpha = c.args.alpha.now in
    let vs = c.in-Some.values in
    let xs = c.facts_with.result.now in
    let these = c.facts_with.ensures has.0 has.1 in
    let is : c.args.came.now ≡ Some vs = search rules in
    let one = come_live fields alpha apart vs (sym came ∙ is) in
    members_such c.args.partials.now (IsGained None fields alpha) c.args.came.now (λ us h. came ∙ (is_gained fields alpha apart us h).0) vs is
    (gained_is fields alpha apart vs (sym came ∙ is) (λ g. not_both c.are_given.result (c.are_given.ensures.1 (went ∙ g)) c.if-are_given.false)
    (λ k e. one.1 ∙ ap Some (sym (only_found alpha c.args.join fields has vs xs these (λ l. absurd (omega (arith, l, c.if-facts_with-gt1.false))) one.0 one.2 k e))))
    c.members_with.result.now c.members_with.ensures n

pub returns-clause-once : goal.returns-clause-once
returns-clause-once c = apart_of c.members_with.result.now c.members_with.ensures.once
