use Rattle.std.proofs.Common.{◌≡◌, ◌∙◌, ℕ, List, ap, subst, sym}
use Rattle.std.specs.BTreeSet.{BTreeSet}
use Rattle.cb_alpha_network.proofs.Order.{entry_cmp, entry_exact}
use Rattle.cb_alpha_network.proofs.Pieces.{key_kept, key_there}
use Rattle.cb_alpha_network.proofs.asked.Asked.add.Goals as goal
use Rattle.cb_alpha_network.specs.Asked.{IsSpot, Spots}
use Rattle.cb_alpha_network.specs.Wanted.{sought_in, wanted_of}
use Rattle.cb_alpha_network.specs.declared.wanted.Entry.{Entry}
use Rattle.cb_alpha_network.specs.declared.wanted.Sought.{Sought}
use Rattle.cb_alpha_network.specs.declared.wanted.Wanted.{Wanted}
use Rattle.cb_matches.specs.Chains.{In}

entry_with : Sought → ℕ → Entry
entry_with s n = record { sought = s; number = n }

pub returns-clause-entered : goal.returns-clause-entered
unfolding entry_with
returns-clause-entered g c =
    let table = c.args.self.now in
    let spots : Spots = c.spot.new.self.spots in
    let spot = c.in_ok-spot.spot in
    let wanted : Wanted = c.in_ok-relation.field-0 in
    let added : Entry = record { sought = c.new-sought.result; number = c.args.number } in
    let keys : In added c.insert.new.self.keys = subst (In added) (sym c.in_ok-insert.ensures.keys) (key_there entry_cmp added entry_exact c.spot.new.self.entries.keys) in
    let is : IsSpot spots wanted.relation wanted.places spot × In (entry_with (sought_in spot wanted.values) c.args.number) c.insert.new.self.keys = (
      c.in_ok-spot.ensures.there,
      subst (λ (it : Sought). In (entry_with it c.args.number) c.insert.new.self.keys) c.new-sought.ensures keys,
    ) in
    let both = subst (λ (w : Wanted). IsSpot spots w.relation w.places spot × In (entry_with (sought_in spot w.values) c.args.number) c.insert.new.self.keys) c.in_ok-relation.ensures is in
    (spot, both.0, both.1)

pub returns-clause-stay : goal.returns-clause-stay
returns-clause-stay g c =
    λ p n was.
    let table = c.args.self.now in
    let spot = was.0 in
    let added : Entry = record { sought = c.new-sought.result; number = c.args.number } in
    let other : Entry = record { sought = sought_in spot (wanted_of p).values; number = n } in
    let before : In other c.spot.new.self.entries.keys = subst (λ (it : BTreeSet Entry). In other it.keys) (sym c.in_ok-spot.ensures.entries) was.2 in
    (spot, c.in_ok-spot.ensures.stay (wanted_of p).relation (wanted_of p).places spot was.1, subst (In other) (sym c.in_ok-insert.ensures.keys) (key_kept entry_cmp added c.spot.new.self.entries.keys other before))
