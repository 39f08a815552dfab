use Rattle.std.proofs.Common.{◌≡◌, ◌≤◌, ◌∙◌, ◌+◌, ◌++◌, [], ◌∷◌, OnOk, ap, drop, get_or, length, map, rules, subst, sym}
use Rattle.std.proofs.lemmas.List.{at_drop_more, drop_all, map-append}
use Rattle.cb_rule_forms.specs.Branches.{combined, ways_through, ways_through_all, ways_through_one}
use Rattle.cb_rule_forms.specs.Internal.{way_seen, ways_seen, writtens, written_seen}
use Rattle.cb_rule_forms.proofs.WayLaws.{branch_end, branch_more, combined_assoc, led_by, one_last, then_none}
use Rattle.cb_rule_forms.proofs.ways.+following.Goals as goal

pub follow_all-loop-element-preserved : goal.follow_all-loop-element-preserved
follow_all-loop-element-preserved t c =
    let all = c.args.elements.now in
    let i = c.loop-element.element-index in
    let item = c.element-item.result in
    let old = ways_seen c.loop-element.all.items in
    let here = ways_through (written_seen item) in
    let rest = ways_through_all (writtens (map written_seen (drop (i + 1) all))) in
    let same : get_or all i item ≡ item = search rules in
    let is : ways_through_all (writtens (map written_seen (drop i all))) ≡ combined here rest =
    at_drop_more (λ es. ways_through_all (writtens (map written_seen es))) all i item c.loop-element-test.true
    ∙ ap (λ it. combined (ways_through (written_seen it)) rest) same
    in
    ap (λ ways. combined ways rest) c.in_ok-all.ensures ∙ (combined_assoc old here rest ∙ (ap (combined old) (sym is) ∙ c.loop-element.invariant))

pub follow_all-returns : goal.follow_all-returns
follow_all-returns t c =
    let old = ways_seen c.loop-element.all.items in
    let beyond : length c.args.elements.now ≤ c.loop-element.element-index = search rules in
    let done = drop_all c.loop-element.element-index c.args.elements.now beyond in
    sym (then_none old) ∙ (ap (λ es. combined old (ways_through_all (writtens (map written_seen es)))) (sym done) ∙ c.loop-element.invariant)

pub branch_off-loop-element-preserved : goal.branch_off-loop-element-preserved
branch_off-loop-element-preserved t c =
    let all = c.in-Some.others.now in
    let i = c.loop-element.element-index in
    let item = c.element-item.result in
    let w = way_seen c.args.way in
    let old = ways_seen c.loop-element.all.items in
    let here = ways_through (written_seen item) in
    let rest = ways_through_one (writtens (map written_seen (drop (i + 1) all))) in
    let same : get_or all i item ≡ item = search rules in
    let is : ways_through_one (writtens (map written_seen (drop i all))) ≡ here ++ rest =
    at_drop_more (λ es. ways_through_one (writtens (map written_seen es))) all i item c.loop-element-test.true
    ∙ ap (λ it. ways_through (written_seen it) ++ rest) same
    in
    let gone = ways_seen c.in_ok-ways.ways.items in
    let from : gone ≡ combined (w ∷ []) here =
    c.in_ok-ways.ensures ∙ ap (λ ways. combined ways here) (c.in_ok-only.ensures ∙ ap (λ way. way ∷ []) (c.in_ok-copy.ensures.0 ∙ c.loop-element.invariant.1))
    in (
      branch_more w old (ways_seen c.add_ways.new.all.items) gone here rest c.in_ok-add_ways.ensures from
          ∙ (ap (λ ways. old ++ led_by w ways) (sym is) ∙ c.loop-element.invariant.0),
      c.in_ok-copy.ensures.1 ∙ c.loop-element.invariant.1,
    )

pub branch_off-returns : goal.branch_off-returns
branch_off-returns t c =
    let others = map written_seen c.in-Some.others.now in
    let last = written_seen c.in-Some.last.now in
    let w = way_seen c.args.way in
    let old = ways_seen c.loop-element.all.items in
    let first = ways_seen c.args.all.now.items in
    let here = ways_through last in
    let gone = ways_seen c.in_ok-ways-2.ways.items in
    let beyond : length c.in-Some.others.now ≤ c.loop-element.element-index = search rules in
    let done = drop_all c.loop-element.element-index c.in-Some.others.now beyond in
    let so_far : old ++ [] ≡ first ++ led_by w (ways_through_one (writtens others)) =
    ap (λ es. old ++ led_by w (ways_through_one (writtens (map written_seen es)))) (sym done) ∙ c.loop-element.invariant.0
    in
    let from : gone ≡ combined (w ∷ []) here =
    c.in_ok-ways-2.ensures ∙ ap (λ ways. combined ways here) (c.in_ok-only-2.ensures ∙ ap (λ way. way ∷ []) c.loop-element.invariant.1)
    in
    let cut : c.args.elements.now ≡ c.in-Some.others.now ++ c.in-Some.last.now ∷ [] = search rules in
    let is : ways_through_one (writtens others) ++ here ≡ ways_through_one (writtens (map written_seen c.args.elements.now)) =
    sym (ap (λ es. ways_through_one (writtens es)) (ap (map written_seen) cut ∙ map-append written_seen c.in-Some.others.now (c.in-Some.last.now ∷ [])) ∙ one_last others last)
    in
    subst (λ ways. OnOk c.add_ways-2.result (ways_seen c.add_ways-2.new.all.items ≡ ways))
    (branch_end w old first gone (ways_through_one (writtens others)) here so_far from ∙ ap (λ ways. first ++ led_by w ways) is)
    c.add_ways-2.ensures
