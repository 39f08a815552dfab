use Rattle.std.proofs.Common.{◌≡◌, ◌∙◌, None, Some, rules, sym}
use Rattle.cb_agenda.proofs.CurrentLaws.{removed, without_absent}
use Rattle.cb_agenda.proofs.DueLaws.{filed_less}
use Rattle.cb_agenda.proofs.NumberLaws.{changes_active, key_lost, key_named, names_absent, names_gone}
use Rattle.cb_agenda.specs.Internal.{active_at}
use Rattle.cb_match_table.specs.MatchTables.{entry_at}
use Rattle.cb_number_map.proofs.Filed.{same_some, some_none}
use Rattle.cb_agenda.proofs.activations.remove_key.Goals as goal

pub returns-in_err-place-clause-due : goal.returns-in_err-place-clause-due
returns-in_err-place-clause-due c = λ xs.
    let held = c.args.activations.now in
    let none : c.place_of.result ≡ None = search rules in
    without_absent (active_at held) c.args.key.now (λ i h. some_none c.place_of.result ((c.place_of.ensures i).1 (sym (key_named (entry_at held i)) ∙ h)) none) xs

pub returns-in_err-place-clause-names : goal.returns-in_err-place-clause-names
returns-in_err-place-clause-names c =
    let held = c.args.activations.now in
    let none : c.place_of.result ≡ None = search rules in
    names_absent held c.args.key.now (λ i h. some_none c.place_of.result ((c.place_of.ensures i).1 h) none)

pub returns-clause-due : goal.returns-clause-due
returns-clause-due c = λ xs.
    let old = c.args.activations.now in
    let new = c.remove.new.self in
    let place = c.in_ok-place.place in
    let k = c.args.key.now in
    let is : c.place_of.result ≡ Some place = search rules in
    removed (active_at old) (active_at new) place k (key_named (entry_at old place) ∙ (c.place_of.ensures place).0 is)
    (λ i h. same_some c.place_of.result is ((c.place_of.ensures i).1 (sym (key_named (entry_at old i)) ∙ h))) (changes_active old new place None c.remove.ensures.after) xs

pub returns-clause-none : goal.returns-clause-none
returns-clause-none c =
    let is : c.place_of.result ≡ Some c.in_ok-place.place = search rules in
    key_lost c.args.activations.now c.remove.new.self c.args.key.now
    (names_gone c.args.activations.now c.remove.new.self c.in_ok-place.place c.args.key.now (λ i h. same_some c.place_of.result is ((c.place_of.ensures i).1 h)) c.remove.ensures.after)

pub returns-clause-filed : goal.returns-clause-filed
returns-clause-filed c = λ xs was.
    filed_less xs (active_at c.args.activations.now) (active_at c.remove.new.self) c.in_ok-place.place (changes_active c.args.activations.now c.remove.new.self c.in_ok-place.place None c.remove.ensures.after) was

pub returns-clause-names : goal.returns-clause-names
returns-clause-names c =
    let is : c.place_of.result ≡ Some c.in_ok-place.place = search rules in
    names_gone c.args.activations.now c.remove.new.self c.in_ok-place.place c.args.key.now (λ i h. same_some c.place_of.result is ((c.place_of.ensures i).1 h)) c.remove.ensures.after
