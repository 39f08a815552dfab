use Rattle.std.proofs.Common.{◌≡◌, None, Some, rules, subst, sym, true}
use Rattle.cb_alpha.specs.AlphaMemories.{live}
use Rattle.cb_lookup_node.proofs.Looked.{none_found, some_found, some_tested, tested_some}
use Rattle.cb_lookup_node.proofs.Seen.{one_value}
use Rattle.cb_lookup_node.proofs.Turns.{if_ok}
use Rattle.cb_lookup_node.proofs.turned.sees.Goals as goal
use Rattle.cb_lookup_node.specs.Internal.{is_ordered}
use Rattle.cb_lookup_node.specs.LookupNodes.{HasOne, HasSeen}

pub returns-in-None : goal.returns-in-None
returns-in-None c fields has order many =
    let alpha = c.args.alpha.now in
    let vs = c.in-Some.values in
    let xs = c.facts_with.result.now in
    let these = c.facts_with.ensures has.0 has.1 in
    let plain : c.args.comparison ≡ None = search rules in
    let is : c.args.values.now ≡ Some vs = search rules in (
      λ t. (
        vs,
        is,
        subst (λ it. HasSeen it fields (live alpha) vs) (sym plain) (some_found alpha c.args.join fields has vs xs these (some_tested xs c.is_empty.result c.is_empty.ensures t)),
      ),
      λ h. tested_some xs c.is_empty.result c.is_empty.ensures
          (λ none.
          none_found alpha c.args.join fields has vs xs these none
          (subst (HasOne fields (live alpha)) (one_value c.args.values.now h.1 is) (subst (λ it. HasSeen it fields (live alpha) h.0) plain h.2))),
    )

pub returns-in-Some-comparison : goal.returns-in-Some-comparison
returns-in-Some-comparison c = if_ok c.sees_in_order.result _ _ (λ sees decides fields has order many.
    let alpha = c.args.alpha.now in
    let vs = c.in-Some.values in
    let compare : c.args.comparison ≡ Some c.in-Some-comparison.comparison = search rules in
    let is : c.args.values.now ≡ Some vs = search rules in
    let d = decides fields has (subst (λ it. is_ordered it ≡ true) compare order) (many vs is) in (
      λ t. (vs, is, subst (λ it. HasSeen it fields (live alpha) vs) (sym compare) (d.0 t)),
      λ h. d.1 (subst (HasSeen (Some c.in-Some-comparison.comparison) fields (live alpha)) (one_value c.args.values.now h.1 is) (subst (λ it. HasSeen it fields (live alpha) h.0) compare h.2)),
    ))
    c.sees_in_order.ensures
