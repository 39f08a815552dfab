use Rattle.std.proofs.Common.{◌≡◌, ◌∙◌, None, Some, ap, rules, subst, sym}
use Rattle.std.proofs.lemmas.Result.{on_err_weaker, on_ok_weaker}
use Rattle.std.specs.BTreeMap.{insert_entry}
use Rattle.cb_agenda.proofs.NumberLaws.{changes_active, gets_after, names_more}
use Rattle.cb_agenda.specs.Agendas.{Entries}
use Rattle.cb_agenda.specs.Internal.{GetsName, active_at, active_in}
use Rattle.cb_agenda.specs.Ranks.{rank_cmp}
use Rattle.cb_agenda.specs.declared.rank.Rank.{Rank}
use Rattle.cb_match_table.specs.MatchTables.{Held, entry_at}
use Rattle.cb_matches.specs.Keys.{KeyValue}
use Rattle.cb_number_map.specs.Filed.{ChangesAt}
use Rattle.cb_agenda.proofs.due.put_in.Goals as goal

pub push_place-requires : goal.push_place-requires
push_place-requires c = record { above = (c.requires.above.0, c.remove_from.ensures.stamped c.requires.above.0 c.requires.above.1, c.requires.above.2) }

pub returns-clause-filed : goal.returns-clause-filed
returns-clause-filed c =
    let mid = c.remove_from.new.activations in
    let place = c.in_ok-place.place in
    let k = c.args.key.now in
    let own : c.in_ok-own.own ≡ k = search rules in
    let change : ChangesAt (active_at mid) (active_at c.add.new.self) place (Some (record { key = k; rank = c.args.rank })) =
    subst (λ (l : KeyValue). ChangesAt (active_at mid) (active_at c.add.new.self) place (Some (record { key = l; rank = c.args.rank }))) own (changes_active mid c.add.new.self place _ c.in_ok-place.ensures.ok) in
    c.push_place.ensures.filed (active_at mid) k c.remove_from.ensures.filed (ap active_in c.in_ok-place.ensures.free) change

pub returns-clause-due : goal.returns-clause-due
returns-clause-due c =
    let mid = c.remove_from.new.activations in
    let place = c.in_ok-place.place in
    let k = c.args.key.now in
    let own : c.in_ok-own.own ≡ k = search rules in
    let change : ChangesAt (active_at mid) (active_at c.add.new.self) place (Some (record { key = k; rank = c.args.rank })) =
    subst (λ (l : KeyValue). ChangesAt (active_at mid) (active_at c.add.new.self) place (Some (record { key = l; rank = c.args.rank }))) own (changes_active mid c.add.new.self place _ c.in_ok-place.ensures.ok) in
    on_ok_weaker c.push_place.result
    (λ due. due (active_at mid) k c.remove_from.ensures.filed (ap active_in c.in_ok-place.ensures.free) change
    ∙ ap (λ (fs : Entries). insert_entry rank_cmp fs c.args.rank k) c.remove_from.ensures.due)
    c.push_place.ensures.due

pub returns-clause-names : goal.returns-clause-names
returns-clause-names c =
    let old = c.args.activations.now in
    let mid = c.remove_from.new.activations in
    let k = c.args.key.now in
    let n = c.args.number in
    let own : c.in_ok-own.own ≡ k = search rules in
    let gets : GetsName mid c.add.new.self k n = subst (λ (l : KeyValue). GetsName mid c.add.new.self l n) own (names_more mid c.add.new.self c.in_ok-place.place c.in_ok-own.own n c.args.rank c.in_ok-place.ensures.ok) in
    on_ok_weaker c.push_place.result
    (λ same. gets_after old mid c.push_place.new.activations k n c.remove_from.ensures.names (subst (λ (held : Held Rank). GetsName mid held k n) (sym same) gets))
    c.push_place.ensures.same

pub returns-clause-err : goal.returns-clause-err
returns-clause-err c = on_err_weaker c.push_place.result (λ more n h. more n (c.remove_from.ensures.stamped n h)) c.push_place.ensures.err
