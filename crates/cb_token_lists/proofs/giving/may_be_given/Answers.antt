use Rattle.std.proofs.Common.{◌≡◌, ◌∙◌, false, true, Option, Some, None, ap, refl, rules, sym}
use Rattle.std.specs.Option.{is_some, option_map}
use Rattle.cb_beta.specs.Tokens.{TakenValue, taken_value, with_taken}
use Rattle.cb_exprs.specs.Bindings.{no_bindings, value_at, with_variables}
use Rattle.cb_matches.specs.Matches.{with_address}
use Rattle.cb_token_lists.proofs.Values.{address_gives}
use Rattle.cb_token_lists.specs.Internal.{giver_value}
use Rattle.cb_token_lists.specs.declared.giving.Giver.{Giver}
use Rattle.cb_token_lists.proofs.giving.may_be_given.Goals as goal

none_of : (o : Option Giver) → is_some o ≡ false → None ≡ option_map giver_value o
none_of None e = refl
none_of (Some v) e = absurd (let no : true ≡ false = e in cc)

pub returns : goal.returns
returns c = λ no m.
    let name = c.args.name.now in
    let address = c.args.source.now.address in
    let taken = taken_value c.in-Some.taken in
    let took : c.args.token.now.taken ≡ Some taken = search rules in
    let none : value_at name (with_variables taken.way.bound no_bindings).variables ≡ None = search rules in
    let gives : option_map giver_value c.given_by_address.result ≡ value_at name (with_address address taken.index no_bindings).variables = search rules in
    ap (λ (t : Option TakenValue). value_at name (with_taken address t m).env.variables) took
    ∙ address_gives name taken.way.bound address taken.index None (sym none) (none_of c.given_by_address.result (sym c.is_some.ensures ∙ no) ∙ gives) m.env
