use Rattle.std.proofs.Common.{◌∙◌, ◌↔◌, ℕ, Bool, List, not, option_copied, subst, sym}
use Rattle.cb_alpha.proofs.ReadFacts.{not_both}
use Rattle.cb_lookup_node.proofs.Alone.{alone_first, another_alone, better_alone, filed_by_so, first_alone, none_filed_by, not_ordered, one_more}
use Rattle.cb_lookup_node.proofs.InOrder.{parted}
use Rattle.cb_lookup_node.proofs.Turns.{if_ok}
use Rattle.cb_lookup_node.proofs.order.seeing_alone.Goals as goal
use Rattle.cb_lookup_node.specs.Internal.{IsFiledBy}
use Rattle.cb_lookup_node.specs.Order.{HasBeyond, IsNearest, IsSeenAlone, OtherHas, SeesFirst, is_lower}
use Rattle.cb_matches.specs.Chains.{In}

pub returns-then-not-ends_in_integer-clause-are : goal.returns-then-not-ends_in_integer-clause-are
returns-then-not-ends_in_integer-clause-are c fields has order many its filed n =
    let alpha = c.args.alpha.now in
    let ws = c.args.values.now in
    let Such = IsSeenAlone c.args.comparison fields alpha c.args.number ws in
    subst (λ (it : List ℕ). In n it ↔ IsFiledBy Such c.args.partials.now n) (sym c.new.ensures.items)
    (none_filed_by Such c.args.partials.now (λ vs h. not_ordered c.args.comparison order fields alpha ws (sym c.ends_in_integer.ensures ∙ c.if-not-ends_in_integer.true) vs h.0) n)

pub returns-then-has_another-clause-are : goal.returns-then-has_another-clause-are
returns-then-has_another-clause-are c fields has order many its filed n =
    let alpha = c.args.alpha.now in
    let ws = c.args.values.now in
    let Such = IsSeenAlone c.args.comparison fields alpha c.args.number ws in
    let p = parted ws (sym c.ends_in_integer.ensures ∙ c.if-not-ends_in_integer.false) in
    let other = (c.has_another.ensures fields has its).0 c.if-has_another.true in
    subst (λ (it : List ℕ). In n it ↔ IsFiledBy Such c.args.partials.now n) (sym c.new-then-has_another.ensures.items)
    (none_filed_by Such c.args.partials.now (λ vs h. another_alone c.args.comparison order fields alpha ws p.0 p.1 p.2 c.args.number its other vs h) n)

pub returns-then-better-clause-are : goal.returns-then-better-clause-are
returns-then-better-clause-are c fields has order many its filed n =
    let alpha = c.args.alpha.now in
    let ws = c.args.values.now in
    let Such = IsSeenAlone c.args.comparison fields alpha c.args.number ws in
    let p = parted ws (sym c.ends_in_integer.ensures ∙ c.if-not-ends_in_integer.false) in
    let better = subst (λ (b : Bool). HasBeyond b fields alpha p.0 p.1) c.is_lower-lower.ensures ((c.in_ok-better.ensures fields p.0 p.1 has p.2 many).0 c.if-better.true) in
    subst (λ (it : List ℕ). In n it ↔ IsFiledBy Such c.args.partials.now n) (sym c.new-then-better.ensures.items)
    (none_filed_by Such c.args.partials.now (λ vs h. better_alone c.args.comparison order fields alpha ws p.0 p.1 p.2 c.args.number its better vs h) n)

pub returns-clause-are : goal.returns-clause-are
returns-clause-are c = if_ok c.seeing_first.result _ _ (λ all are fields has order many its filed.
    let alpha = c.args.alpha.now in
    let ws = c.args.values.now in
    let me = c.args.comparison in
    let p = parted ws (sym c.ends_in_integer.ensures ∙ c.if-not-ends_in_integer.false) in
    let next = option_copied c.in_ok-next.next in
    let near = subst (λ (b : Bool). IsNearest (not b) fields alpha p.0 p.1 next) c.is_lower-lower.ensures (c.in_ok-next.ensures fields p.0 p.1 has p.2 many) in
    let no_other : OtherHas fields alpha c.args.number ws → ⊥ = λ k. not_both c.has_another.result ((c.has_another.ensures fields has its).1 k) c.if-has_another.false in
    let no_better : HasBeyond (is_lower me) fields alpha p.0 p.1 → ⊥ = λ k. not_both c.in_ok-better.better
    ((c.in_ok-better.ensures fields p.0 p.1 has p.2 many).1 (subst (λ (b : Bool). HasBeyond b fields alpha p.0 p.1) (sym c.is_lower-lower.ensures) k)) c.if-better.false in
    filed_by_so (SeesFirst me ws next) (IsSeenAlone me fields alpha c.args.number ws) c.args.partials.now all.items
    (are fields p.0 p.1 order p.2 many (one_more me order fields alpha ws p.0 p.1 p.2 c.args.number its next near) filed)
    (first_alone me order fields alpha ws p.0 p.1 p.2 c.args.number its next near no_better no_other)
    (alone_first me order fields alpha ws p.0 p.1 p.2 c.args.number its next near))
    c.seeing_first.ensures.are
