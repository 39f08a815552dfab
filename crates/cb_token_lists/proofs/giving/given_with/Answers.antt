use Rattle.std.proofs.Common.{◌≡◌, Option, None, Bor, ap, option_copied, rules, sym}
use Rattle.std.specs.Option.{option_map}
use Rattle.cb_beta.specs.GivenValues.{values_given}
use Rattle.cb_exprs.specs.Bindings.{no_bindings, value_at, with_variables}
use Rattle.cb_matches.specs.Matches.{with_address}
use Rattle.cb_fit.specs.Ways.{WayValue}
use Rattle.cb_token_lists.proofs.Values.{address_gives}
use Rattle.cb_token_lists.specs.Internal.{giver_value}
use Rattle.cb_token_lists.proofs.giving.given_with.Goals as goal

pub returns-in-None : goal.returns-in-None
returns-in-None c =
    let name = c.args.name.now in
    let gives : option_map giver_value c.given_by_address-in-None.result ≡ value_at name (with_address c.args.address.now c.args.index no_bindings).variables = search rules in
    address_gives name (values_given (option_copied c.args.way)) c.args.address.now c.args.index (option_map giver_value c.given_by_address-in-None.result)
    (sym (ap (λ (way : Option (Bor WayValue)). value_at name (with_variables (values_given (option_copied way)) no_bindings).variables) c.in-None.is))
    gives

pub returns-then-not-may_give : goal.returns-then-not-may_give
returns-then-not-may_give c =
    let name = c.args.name.now in
    let bound = values_given (option_copied c.args.way) in
    let none : value_at name (with_variables bound no_bindings).variables ≡ None = search rules in
    let gives : option_map giver_value c.given_by_address.result ≡ value_at name (with_address c.args.address.now c.args.index no_bindings).variables = search rules in
    address_gives name bound c.args.address.now c.args.index (option_map giver_value c.given_by_address.result) (sym none) gives
