use Rattle.std.proofs.Common.{sym}
use Rattle.cb_token_lists.proofs.Values.{no_global}
use Rattle.cb_token_lists.proofs.known.ReadingLookup.global_variable.Goals as goal

pub returns : goal.returns
returns c =
    let self = c.args.self.now in
    sym (no_global self.lists.sources.now self.lists.lists.now self.list self.number c.args._name.now)
