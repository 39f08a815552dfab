use Rattle.std.proofs.Common.{◌∙◌, ap, refl, sym}
use Rattle.std.proofs.lemmas.Result.{IfOk-weaker}
use Rattle.std.specs.Option.{option_map, option_map_or}
use Rattle.cb_branch.proofs.AtEnd.{looked_up}
use Rattle.cb_branch.proofs.branch.Branch.env.Goals as goal
use Rattle.cb_branch.specs.Internal.{IsEndOf}
use Rattle.cb_branch_end.specs.TellingKeys.{at_end}
use Rattle.cb_exprs.specs.Bindings.{Bindings, no_bindings}
use Rattle.cb_nodes.proofs.Grown.{ways_rise}

pub returns-in_default : goal.returns-in_default
returns-in_default g c facts fs rising over =
    let rise = ways_rise c.the_ways_rise_by_their_cuts.ensures in
    let b = c.args.self.now in
    let key = c.args.key.now in
    let is = c.end-end.ensures in
    let of : IsEndOf key.rule key.branch b c.end-end.result = record { sources = is.sources; lists = is.lists; last = is.last; rule_is = is.rule_is ∙ c.rule.ensures; branch_is = is.branch_is ∙ c.branch-key.ensures } in
    let found = looked_up key.rule key.branch b c.end-end.result of rise facts fs rising over key c.in_ok-number.field-0 refl refl c.in_ok-number.ensures in
    c.new.ensures ∙ ap (λ o. option_map_or (λ (env : Bindings). env) o no_bindings) (ap (option_map (λ n. (at_end c.end-end.result n).env)) (sym c.in_default.is) ∙ found)

pub returns : goal.returns
returns g c =
    let rise = ways_rise c.the_ways_rise_by_their_cuts.ensures in
    let b = c.args.self.now in
    let key = c.args.key.now in
    let is = c.end-end.ensures in
    let of : IsEndOf key.rule key.branch b c.end-end.result = record { sources = is.sources; lists = is.lists; last = is.last; rule_is = is.rule_is ∙ c.rule.ensures; branch_is = is.branch_is ∙ c.branch-key.ensures } in
    IfOk-weaker c.env.result _ _
    (λ env e facts fs rising over.
    let found = looked_up key.rule key.branch b c.end-end.result of rise facts fs rising over key c.in_ok-number.field-0 refl refl c.in_ok-number.ensures in
    e ∙ ap (λ o. option_map_or (λ (env : Bindings). env) o no_bindings) (ap (option_map (λ n. (at_end c.end-end.result n).env)) (sym c.in-Some.is) ∙ found))
    c.env.ensures
