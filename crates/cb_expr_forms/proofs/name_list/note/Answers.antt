use Rattle.std.proofs.Common.{◌≡◌, false, is_some, rules}
use Rattle.cb_facts.specs.Internal.NamePlaces.{place_at}
use Rattle.cb_expr_forms.proofs.PlaceLaws.{notes_new}
use Rattle.cb_expr_forms.proofs.name_list.note.Goals as goal

pub returns-clause-ok : goal.returns-clause-ok
returns-clause-ok c =
    let same : c.in_ok-shared.shared ≡ c.args.name.now = search rules in
    let absent : is_some (place_at c.args.firsts.now c.args.name.now) ≡ false = search rules in
    notes_new c.args.firsts.now c.insert.new.self c.args.name.now c.in_ok-shared.shared c.args.place same absent c.in_ok-insert.ensures.updates
