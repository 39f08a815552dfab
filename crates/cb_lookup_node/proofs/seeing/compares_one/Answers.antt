use Rattle.std.proofs.Common.{◌≡◌, ◌∙◌, ℕ, ap}
use Rattle.cb_facts.specs.Facts.{FactValue}
use Rattle.cb_lookup_node.proofs.Turns.{if_ok}
use Rattle.cb_lookup_node.proofs.seeing.compares_one.Goals as goal
use Rattle.cb_scopes.specs.Compared.{all_compare}
use Rattle.cb_token_lists.specs.Partials.{partial_at}

pub returns : goal.returns
returns c =
    let m = partial_at c.args.lists.now.sources.now c.args.lists.now.lists.now c.args.from c.args.number in
    let cs = c.args.compared.now in
    let f = c.args.one.now in
    let seen = c.reading-known.result in
    let same : all_compare cs (partial_at seen.lists.sources.now seen.lists.lists.now seen.list seen.number).env c.one.inside.fact.content ≡ all_compare cs m.env f.1.content =
    ap (λ it. all_compare cs (partial_at it.lists.sources.now it.lists.lists.now it.list it.number).env c.one.inside.fact.content) c.reading-known.ensures
    ∙ ap (λ (it : ℕ × FactValue). all_compare cs m.env it.1.content) c.one.view_is in
    if_ok c.compare_all.result _ _ (λ so e. e ∙ same) c.compare_all.ensures
