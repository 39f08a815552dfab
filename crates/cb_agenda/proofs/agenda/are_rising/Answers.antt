use Rattle.std.proofs.Common.{◌≡◌, ◌∙◌, ◌+◌, ◌∷◌, List, Less, ap, drop, get_or, rules, subst, sym}
use Rattle.std.proofs.lemmas.List.{at_drop_more, drop_all}
use Rattle.cb_agenda.proofs.NumberLaws.{less_of, rises_once}
use Rattle.cb_agenda.specs.Internal.{RisesFrom, TellsOnce}
use Rattle.cb_matches.specs.Keys.{KeyValue, key_cmp}
use Rattle.cb_agenda.proofs.agenda.are_rising.Goals as goal

pub loop-key-preserved : goal.loop-key-preserved
loop-key-preserved c = λ up.
    let all = c.in-Some.more.now in
    let i = c.loop-key.key-index in
    let key = c.key-item.result in
    let same : get_or all i key ≡ key = search rules in
    let whole : drop i all ≡ key ∷ drop (i + 1) all = at_drop_more (λ (ks : List KeyValue). ks) all i key c.loop-key-test.true ∙ ap (λ (k : KeyValue). k ∷ drop (i + 1) all) same in
    let below : key_cmp c.loop-key.last.now key ≡ Less = less_of (key_cmp c.loop-key.last.now key) (search rules) in
    c.loop-key.invariant (subst (RisesFrom c.loop-key.last.now) (sym whole) (below, up))

pub returns : goal.returns
returns c = λ _.
    let first = c.in-Some.first.now in
    let more = c.in-Some.more.now in
    let whole : c.args.keys.now ≡ first ∷ more = c.in-Some.ensures.cases.0 in
    let up : RisesFrom first more = c.loop-key.invariant (subst (RisesFrom c.loop-key.last.now) (sym (drop_all c.loop-key.key-index more c.loop-key-test.false)) tt) in
    subst (λ (ks : List KeyValue). TellsOnce ks) (sym whole) (rises_once first more up)
