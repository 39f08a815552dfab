use Rattle.std.proofs.Common.{◌≡◌, ◌∙◌, ◌++◌, Option, ap, rules, sym}
use Rattle.std.specs.Option.{option_map}
use Rattle.cb_beta.proofs.Losses.{on_ok}
use Rattle.cb_beta.specs.GivenValues.{values_read}
use Rattle.cb_beta.specs.Tokens.{taken_value, with_taken}
use Rattle.cb_beta.specs.declared.token.Taken.{Taken}
use Rattle.cb_exprs.specs.Bindings.{Bindings, with_variables}
use Rattle.cb_matches.specs.Matches.{with_address}
use Rattle.cb_token_lists.proofs.Values.{step_binds}
use Rattle.cb_token_lists.proofs.binding.bind_taken.Goals as goal

pub returns-in_ok-bind_address-in-Some : goal.returns-in_ok-bind_address-in-Some
returns-in_ok-bind_address-in-Some c =
    let x = c.args.address.now in
    let t = c.in-Some.taken in
    let old = c.args.bindings.now.items in
    let middle = c.bind_address.new.bindings.items in
    let address : (env : Bindings) → with_variables middle env ≡ with_address x t.index (with_variables old env) = search rules in
    on_ok c.add_to.result
    (λ added m is.
    let more : c.add_to.new.bindings.items ≡ middle ++ values_read t.given = search rules in
    step_binds x (taken_value t) m old middle c.add_to.new.bindings.items is address more
    ∙ ap (λ (o : Option Taken). (with_taken x (option_map taken_value o) m).env) (sym c.in-Some.is))
    c.add_to.ensures
