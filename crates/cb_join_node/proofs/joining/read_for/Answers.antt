use Rattle.std.proofs.Common.{◌∙◌, ap}
use Rattle.cb_alpha.proofs.ReadFacts.{same_some}
use Rattle.cb_join_node.proofs.joining.read_for.Goals as goal
use Rattle.cb_join_node.specs.KnownValues.{compared_values}
use Rattle.cb_join_node.specs.declared.by_values.ByValues.{ByValues}
use Rattle.cb_token_lists.specs.Partials.{partial_at}

pub returns-in_ok-values-in-Some : goal.returns-in_ok-values-in-Some
returns-in_ok-values-in-Some g c by is =
    let seen = c.reading-known.result in
    let env = (partial_at c.args.lists.now.sources.now c.args.lists.now.lists.now c.args.from c.args.number).env in
    c.in_ok-values-in-Some.ensures
    ∙ (ap (λ it. compared_values it (partial_at seen.lists.sources.now seen.lists.lists.now seen.list seen.number).env) c.as_slice.ensures.value
    ∙ (ap (λ it. compared_values c.in-Some.by.compared.items (partial_at it.lists.sources.now it.lists.lists.now it.list it.number).env) c.reading-known.ensures
    ∙ ap (λ (it : ByValues). compared_values it.compared.items env) (same_some c.args.asked.now.by_values c.in-Some.is is)))
