use Rattle.std.proofs.Common.{◌≡◌, ap, rules}
use Rattle.std.specs.Option.{option_map}
use Rattle.cb_beta.specs.GivenValues.{values_read}
use Rattle.cb_constraints.specs.Holding.{tested_value}
use Rattle.cb_exprs.specs.Bindings.{no_bindings, value_at}
use Rattle.cb_matches.specs.Matches.{with_address}
use Rattle.cb_token_lists.proofs.Values.{address_gives, way_gives}
use Rattle.cb_token_lists.specs.Internal.{giver_value}
use Rattle.cb_token_lists.proofs.giving.given.Goals as goal

pub returns-in-Some : goal.returns-in-Some
returns-in-Some c = way_gives c.args.name.now (values_read c.args.way) c.args.address.now c.args.index (tested_value c.in-Some.field) (search rules)

pub returns-in-None : goal.returns-in-None
returns-in-None c =
    let name = c.args.name.now in
    let gives : option_map giver_value c.given_by_address.result ≡ value_at name (with_address c.args.address.now c.args.index no_bindings).variables = search rules in
    address_gives name (values_read c.args.way) c.args.address.now c.args.index (option_map giver_value c.given_by_address.result) (search rules) gives
