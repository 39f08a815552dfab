use Rattle.std.proofs.Common.{◌∙◌, ap}
use Rattle.cb_lookup_node.proofs.Turns.{if_ok}
use Rattle.cb_lookup_node.proofs.seeing.compares.Goals as goal
use Rattle.cb_lookup_node.specs.LookupNodes.{compares_with}
use Rattle.cb_token_lists.specs.Partials.{partial_at}

pub returns-in-Some : goal.returns-in-Some
returns-in-Some c =
    let m = partial_at c.args.lists.now.sources.now c.args.lists.now.lists.now c.args.from c.args.number in
    if_ok c.compares_one.result _ _ (λ so e. e ∙ ap (λ it. compares_with c.args.compared.now it m) c.in-Some.ensures) c.compares_one.ensures
