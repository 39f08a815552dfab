use Rattle.std.proofs.Common.{◌≡◌, ◌∙◌, List, Some, rules, sym}
use Rattle.std.specs.Bool.{Decides}
use Rattle.cb_alpha.specs.AlphaMemories.{live}
use Rattle.cb_alpha.specs.JoinValues.{variable_values}
use Rattle.cb_alpha.specs.Turning.{HasJoin}
use Rattle.cb_beta.proofs.Losses.{on_ok}
use Rattle.cb_fit.specs.declared.join_fields.JoinField.{JoinField}
use Rattle.cb_lookup_node.proofs.Looked.{found_by_fields}
use Rattle.cb_lookup_node.proofs.Turns.{if_ok}
use Rattle.cb_lookup_node.proofs.witnesses.Witnesses.place.Goals as goal
use Rattle.cb_lookup_node.specs.Internal.{HasItsFacts}
use Rattle.cb_lookup_node.specs.LookupNodes.{SeesSome}
use Rattle.cb_token_lists.specs.Partials.{partial_at}

pub returns-clause-placed : goal.returns-clause-placed
returns-clause-placed c =
    let js = c.args.fields.now in
    let alpha = c.args.alpha.now in
    let at = partial_at c.args.lists.now.sources.now c.args.lists.now.lists.now c.args.from in
    let n = c.args.number in
    let vs = c.in-Some.values in
    let ys = c.facts_with-facts.result.now in
    let given : c.in_ok-found.found ≡ variable_values js (at n).env = search (rules, c.in_ok-found.ensures) in
    let got : c.in_ok-found.found ≡ Some vs = search rules in
    on_ok c.place_among.result
    (λ placed has. placed js (sym given ∙ got, found_by_fields alpha c.args.join js has vs ys (c.facts_with-facts.ensures has.0 has.1)))
    c.place_among.ensures.placed

pub returns-clause-sees : goal.returns-clause-sees
returns-clause-sees c =
    let cs = c.args.compared.now in
    let js = c.args.fields.now in
    let alpha = c.args.alpha.now in
    let at = partial_at c.args.lists.now.sources.now c.args.lists.now.lists.now c.args.from in
    let n = c.args.number in
    let vs = c.in-Some.values in
    let ys = c.facts_with-facts.result.now in
    let given : c.in_ok-found.found ≡ variable_values js (at n).env = search (rules, c.in_ok-found.ensures) in
    let got : c.in_ok-found.found ≡ Some vs = search rules in
    if_ok c.place_among.result
    (λ sees. (fields : List JoinField) → HasItsFacts fields alpha vs ys (at n) → Decides sees (SeesSome cs fields (live alpha) (at n)))
    (λ sees. HasJoin alpha c.args.join js → Decides sees (SeesSome cs js (live alpha) (at n)))
    (λ sees decides has. decides js (sym given ∙ got, found_by_fields alpha c.args.join js has vs ys (c.facts_with-facts.ensures has.0 has.1)))
    c.place_among.ensures.sees
