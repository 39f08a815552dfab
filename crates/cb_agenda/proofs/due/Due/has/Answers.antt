use Rattle.std.proofs.Common.{◌∙◌, ap, sym}
use Rattle.std.specs.List.{list_any}
use Rattle.cb_agenda.proofs.DueLaws.{has_is}
use Rattle.cb_agenda.proofs.NumberLaws.{key_named, known_names}
use Rattle.cb_agenda.specs.Internal.{NumberedDue, active_at}
use Rattle.cb_match_table.specs.MatchTables.{entry_at}
use Rattle.cb_matches.specs.Keys.{key_eq}
use Rattle.cb_agenda.proofs.due.Due.has.Goals as goal

pub place_of-requires : goal.place_of-requires
place_of-requires c = λ by_number. known_names c.self.inside.activations c.args.self.now.numbers (ap (λ (d : NumberedDue). d.numbers) c.self.view_is) c.args.key.now c.args.number (c.requires by_number)

pub returns : goal.returns
returns c =
    let held = c.self.inside.activations in
    c.is_some.ensures ∙ (has_is c.place_of.result c.self.inside.lanes (active_at held) c.args.key.now c.self.invariant.0
    (λ i. (λ h. key_named (entry_at held i) ∙ (c.place_of.ensures i).0 h, λ h. (c.place_of.ensures i).1 (sym (key_named (entry_at held i)) ∙ h)))
    ∙ ap (λ (d : NumberedDue). list_any (λ e. key_eq c.args.key.now e.1) d.due.entries) c.self.view_is)
