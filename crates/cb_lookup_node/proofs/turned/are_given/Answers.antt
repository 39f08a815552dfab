use Rattle.std.proofs.Common.{rules, ◌≡◌, ◌∙◌, Some, ap, sym}
use Rattle.cb_alpha.proofs.ValuesOrder.{are_same, same_are}
use Rattle.cb_lookup_node.proofs.Seen.{one_value}
use Rattle.cb_lookup_node.proofs.turned.are_given.Goals as goal

pub returns-in-Some : goal.returns-in-Some
returns-in-Some c =
    let others = c.in-Some.others in
    let values = c.args.values.now in
    let is : c.args.given.now ≡ Some others = search rules in (
      λ t. is ∙ ap Some (are_same others values (sym c.eq.ensures ∙ t)),
      λ e. c.eq.ensures ∙ same_are others values (one_value c.args.given.now is e),
    )
