use Rattle.std.proofs.Common.{◌≡◌, ◌∙◌, None, Some, ap, sym}
use Rattle.cb_match_table.proofs.FilingLaws.{changes_at, names_change}
use Rattle.cb_match_table.specs.MatchTables.{name_at, name_in}
use Rattle.cb_match_table.proofs.match_table.MatchTable.remove.Goals as goal

pub invariant_of-self-2 : goal.invariant_of-self-2
invariant_of-self-2 g c =
    let old = c.self.inside.entries.slots in
    let new = c.try_remove.new.self.slots in
    let there : name_at old c.args.place ≡ Some (c.in_ok-entry.entry.key, c.in_ok-entry.entry.number) = ap name_in (sym c.try_remove.ensures.value ∙ c.in_ok-entry.was) in
    let change = changes_at old new c.args.place None c.try_remove.ensures.updates.changed c.try_remove.ensures.updates.others in
    c.unfile.ensures (name_at old) (name_at new) c.self.invariant there (names_change old new c.args.place None change)
