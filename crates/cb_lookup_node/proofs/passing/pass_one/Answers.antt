use Rattle.std.proofs.Common.{rules, ◌≡◌, ◌∙◌, true, sym}
use Rattle.cb_alpha.specs.AlphaMemories.{live}
use Rattle.cb_alpha.specs.JoinValues.{variable_values}
use Rattle.cb_beta.proofs.Losses.{on_ok}
use Rattle.cb_beta.specs.Tokens.{TokenValue}
use Rattle.cb_lookup_node.proofs.Passed.{by_given, passes_come, passes_where}
use Rattle.cb_lookup_node.proofs.Seen.{as_many_variables}
use Rattle.cb_lookup_node.proofs.passing.pass_one.Goals as goal
use Rattle.cb_lookup_node.specs.LookupNodes.{SeesOne, passed_on}
use Rattle.cb_token_lists.proofs.Keeping.{come_keeps}
use Rattle.cb_token_lists.specs.Partials.{partial_at}

pub returns-clause-come : goal.returns-clause-come
returns-clause-come c =
    let js = c.args.fields.now in
    let facts = live c.args.alpha.now in
    let m = partial_at c.args.lists.now.sources.now c.args.lists.now.lists.now c.args.from c.args.number in
    let compare = c.args.comparison in
    let given : c.in_ok-values.values ≡ variable_values js m.env = search (rules, c.in_ok-values.ensures) in
    on_ok c.pass_if.result
    (λ came has order.
    passes_come c.args.positive (SeesOne compare js facts m) c.passes_by.result c.args.number
    (passes_where c.args.positive (SeesOne compare js facts m) c.in_ok-one.one c.passes_by.result
    (by_given compare js facts m c.in_ok-values.values given c.in_ok-one.one (c.in_ok-one.ensures js has order (λ vs e. as_many_variables m.env js vs (sym given ∙ e)))) c.passes_by.ensures)
    c.args.own.now c.pass_if.new.own came)
    c.pass_if.ensures

pub returns-clause-keeps : goal.returns-clause-keeps
returns-clause-keeps c =
    on_ok c.pass_if.result (come_keeps c.args.own.now c.pass_if.new.own (λ (t : TokenValue). (c.passes_by.result ≡ true) × (t ≡ passed_on c.args.number))) c.pass_if.ensures
