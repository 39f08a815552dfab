use Rattle.std.proofs.Common.{◌≡◌, ◌∙◌, ap, subst, sym}
use Rattle.cb_alpha_network.proofs.Found.{entry_stays}
use Rattle.cb_alpha_network.proofs.asked.Asked.remove.Goals as goal
use Rattle.cb_alpha_network.specs.Wanted.{sought_in, wanted_of}
use Rattle.cb_alpha_network.specs.declared.wanted.Entry.{Entry}
use Rattle.cb_matches.specs.Chains.{In}
use Rattle.std.specs.BTreeSet.{BTreeSet}

pub returns : goal.returns
returns g c =
    λ p n apart was.
    let table = c.args.self.now in
    let spot = was.0 in
    let lost : Entry = record { sought = c.new-sought.result; number = c.args.number } in
    let other : Entry = record { sought = sought_in spot (wanted_of p).values; number = n } in
    let left : In other c.remove.new.self.keys = subst (In other) (sym c.remove.ensures.keys) (entry_stays table.entries.keys lost other apart was.2) in (
      spot,
      c.forget.ensures.stay (wanted_of p).relation (wanted_of p).places other left was.1,
      subst (λ (it : BTreeSet Entry). In other it.keys) (sym c.forget.ensures.entries) left,
    )
