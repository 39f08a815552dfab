use Rattle.std.proofs.Common.{◌≡◌, ◌||◌, ◌+◌, ◌∙◌, ap, drop, rules, sym}
use Rattle.std.specs.BTreeSet.{contains}
use Rattle.std.specs.List.{list_any}
use Rattle.std.specs.Map.{keys_of}
use Rattle.cb_matches.specs.Keys.{key_cmp, key_eq}
use Rattle.cb_rematch.proofs.Known.{next_key, one_more}
use Rattle.cb_rematch.proofs.come.key_set.Goals as goal

pub loop-found-preserved : goal.loop-found-preserved
loop-found-preserved c = λ k.
    let key = c.in_ok-clone.field-0 in
    let same : key ≡ c.found-item.result.0 = search rules in
    let rest = next_key c.args.matches.now c.loop-found.found-index c.found-item.result c.found-item.is c.loop-found-test.true key same in
    let before = contains key_cmp c.loop-found.set k in
    one_more k key before (contains key_cmp c.insert.new.self k) (list_any (key_eq k) (keys_of (drop (c.loop-found.found-index + 1) c.args.matches.now))) (c.in_ok-insert.ensures.updates.0 k)
    ∙ (ap (λ ks. before || list_any (key_eq k) ks) (sym rest) ∙ c.loop-found.invariant k)
