use Rattle.std.proofs.Common.{◌∙◌, Some, ap, sym}
use Rattle.std.specs.BTreeMap.{get}
use Rattle.std.specs.Option.{option_or}
use Rattle.cb_match_index.specs.MatchIndices.{kept_at}
use Rattle.cb_match_table.proofs.FilingLaws.{found_here}
use Rattle.cb_matches.specs.Keys.{key_cmp}
use Rattle.cb_match_table.proofs.match_table.MatchTable.find.Goals as goal

pub returns-in-Some : goal.returns-in-Some
returns-in-Some g c =
    let own = c.self.inside in
    let k = c.args.key.now in
    found_here (kept_at own.filed) (get key_cmp own.aside) own.entries.slots c.args.self.now c.self.view_is c.self.invariant k c.args.number (Some c.in-Some.place) c.requires
    (ap (λ o. option_or o (get key_cmp own.aside k)) (sym c.filed_with.ensures ∙ c.in-Some.is))

pub returns-in-None : goal.returns-in-None
returns-in-None g c =
    let own = c.self.inside in
    let k = c.args.key.now in
    found_here (kept_at own.filed) (get key_cmp own.aside) own.entries.slots c.args.self.now c.self.view_is c.self.invariant k c.args.number c.aside_at.result c.requires
    (ap (λ o. option_or o (get key_cmp own.aside k)) (sym c.filed_with.ensures ∙ c.in-None.is) ∙ sym c.aside_at.ensures)
