use Rattle.std.proofs.Common.{◌≡◌, Some, refl, rules}
use Rattle.std.proofs.lemmas.Result.{on_ok_weaker}
use Rattle.std.specs.BTreeMap as tree
use Rattle.std.specs.BTreeMap.{get}
use Rattle.cb_match_index.specs.MatchIndices.{Place, kept_at}
use Rattle.cb_match_table.proofs.FilingLaws.{aside_more, changes_as, noted_aside, noted_filed, place_same}
use Rattle.cb_match_table.specs.Internal.{place_of}
use Rattle.cb_matches.specs.Keys.{key_cmp}
use Rattle.cb_match_table.proofs.filing.file.Goals as goal

pub returns-in-Ok-clause-ok : goal.returns-in-Ok-clause-ok
returns-in-Ok-clause-ok c =
    let old = kept_at c.args.filed.now in
    let new = kept_at c.put.new.self in
    let p : Place = (c.rule.result, (c.branch-key.result, c.args.number)) in
    let q = place_of (c.args.key.now, c.args.number) in
    let short : c.in-Ok.short ≡ c.args.place = search rules in
    on_ok_weaker c.put.result
    (λ put names more was absent free change.
    noted_filed old (get key_cmp c.args.aside.now) names more was c.args.key.now c.args.number c.args.place absent free change new (c.is_free.ensures.free c.if-is_free.true)
    (changes_as old new p q c.in-Ok.short c.args.place (place_same p q c.rule.ensures c.branch-key.ensures refl) short put))
    c.put.ensures.ok

pub returns-in_ok-insert-in_default-clause-ok : goal.returns-in_ok-insert-in_default-clause-ok
returns-in_ok-insert-in_default-clause-ok c = λ names more was absent free change.
    let updates : tree.Updates key_cmp c.args.aside.now c.insert.new.self c.args.key.now (Some c.args.place) = search rules in
    noted_aside (kept_at c.args.filed.now) (get key_cmp c.args.aside.now) names more was c.args.key.now c.args.number c.args.place absent free change (get key_cmp c.insert.new.self)
    (aside_more c.args.aside.now c.insert.new.self c.args.key.now (Some c.args.place) updates)
