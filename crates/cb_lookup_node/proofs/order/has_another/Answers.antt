use Rattle.std.proofs.Common.{◌≡◌, ◌∙◌, Some, ap, rules, sym}
use Rattle.cb_alpha.proofs.ReadFacts.{same_some}
use Rattle.cb_lookup_node.proofs.Looked.{another_found, has_found, none_found, some_found, some_tested, tested_some, two}
use Rattle.cb_lookup_node.proofs.order.has_another.Goals as goal

pub returns-in-Some : goal.returns-in-Some
returns-in-Some c fields has its =
    let alpha = c.args.alpha.now in
    let ws = c.args.values.now in
    let xs = c.facts_with-facts.result.now in
    let these = c.facts_with-facts.ensures has.0 has.1 in
    let k = c.in-Some.field-0 in
    let is : c.args.number ≡ Some k = search rules in (
      λ t.
          let other = another_found alpha c.args.join fields has ws xs these (c.is_several.ensures.0 t) k in
          (other.0, other.1, λ e. other.2 (same_some c.args.number e is)),
      λ h.
          c.is_several.ensures.1 (two xs k h.0 (has_found alpha c.args.join fields has ws xs these k (its k is)) (has_found alpha c.args.join fields has ws xs these h.0 h.1)
          (λ e. h.2 (is ∙ ap Some (sym e)))),
    )

pub returns-in-None : goal.returns-in-None
returns-in-None c fields has its =
    let alpha = c.args.alpha.now in
    let ws = c.args.values.now in
    let xs = c.facts_with-facts.result.now in
    let these = c.facts_with-facts.ensures has.0 has.1 in (
      λ t. let one = some_found alpha c.args.join fields has ws xs these (some_tested xs c.is_empty.result c.is_empty.ensures t) in (one.0, one.1, λ e. absurd (cc)),
      λ h. tested_some xs c.is_empty.result c.is_empty.ensures (λ none. none_found alpha c.args.join fields has ws xs these none (h.0, h.1)),
    )
