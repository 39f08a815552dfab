use Rattle.std.proofs.Common.{◌∙◌, ap, option_copied, sym}
use Rattle.cb_beta.specs.GivenValues.{values_given}
use Rattle.cb_exprs.specs.Bindings.{value_at}
use Rattle.cb_token_lists.proofs.Values.{grown_globals, no_global}
use Rattle.cb_token_lists.specs.Partials.{partial_at}
use Rattle.cb_token_lists.proofs.known.GrownLookup.global_variable.Goals as goal

pub returns : goal.returns
returns c =
    let self = c.args.self.now in
    let before = self.before in
    let ss = before.lists.sources.now in
    let ls = before.lists.lists.now in
    sym
    (ap (value_at c.args._name.now) (grown_globals (values_given (option_copied self.given)) self.address.now self.index (partial_at ss ls before.list before.number).env)
    ∙ no_global ss ls before.list before.number c.args._name.now)
