use Rattle.std.proofs.Common.{◌≡◌, ◌≢◌, ◌∙◌, ℕ, None, Some, ap, sym}
use Rattle.std.specs.BTreeMap.{get}
use Rattle.cb_match_index.specs.MatchIndices.{kept_at}
use Rattle.cb_match_table.proofs.FilingLaws.{added_at, moved, names_change}
use Rattle.cb_match_table.specs.MatchTables.{key_at, name_at, name_in}
use Rattle.cb_matches.specs.Keys.{key_cmp}
use Rattle.cb_match_table.proofs.match_table.MatchTable.add.Goals as goal

pub invariant_of-self-in_err-file : goal.invariant_of-self-in_err-file
invariant_of-self-in_err-file g c =
    let old = c.self.inside.entries.slots in
    moved (kept_at c.file.new.filed) (get key_cmp c.file.new.aside) old c.reserve.new.self.slots (sym (ap (λ s. s.slots) c.reserve.ensures.rest_kept)) (c.in_err-file.ensures.err (name_at old) c.self.invariant)

pub invariant_of-self-2 : goal.invariant_of-self-2
invariant_of-self-2 g c =
    let old = c.self.inside.entries.slots in
    let new = c.insert_reserved.new.self.slots in
    let place = c.vacant_key-place.result in
    let same : c.reserve.new.self.slots ≡ old = ap (λ s. s.slots) c.reserve.ensures.rest_kept in
    let absent : (i : ℕ) → key_at old i ≢ Some c.args.key = λ i h. c.requires i (ap (λ hs. key_at hs i) (sym c.self.view_is) ∙ h) in
    let free : name_at old place ≡ None = ap (λ hs. name_at hs place) (sym same) ∙ ap name_in c.vacant_key-place.ensures.vacant in
    let change = added_at old c.reserve.new.self.slots new place c.insert_reserved.result (record { key = c.args.key; number = c.args.number; value = c.args.value }) same
    (c.insert_reserved.ensures.key ∙ sym c.vacant_key-place.ensures.value) c.insert_reserved.ensures.updates.changed c.insert_reserved.ensures.updates.others in
    c.in_ok-file.ensures.ok (name_at old) (name_at new) c.self.invariant absent free (names_change old new place (Some (record { key = c.args.key; number = c.args.number; value = c.args.value })) change)
