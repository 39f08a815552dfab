use Rattle.std.proofs.Common.{◌≡◌, ◌≤◌, ◌∙◌, ◌+◌, ◌*◌, ap, drop, get_or, length, map, rules, subst, sym}
use Rattle.std.proofs.lemmas.List.{at_drop_more}
use Rattle.cb_rule_forms.specs.Branches.{ways_through, ways_through_all}
use Rattle.cb_rule_forms.specs.Internal.{capped, writtens, written_seen}
use Rattle.cb_rule_forms.specs.WrittenElements.{written}
use Rattle.cb_rule_forms.proofs.CountLaws.{all_more, no_more}
use Rattle.cb_rule_forms.proofs.ways.+counting.Goals as goal

pub count_all-loop-element-preserved : goal.count_all-loop-element-preserved
count_all-loop-element-preserved t c =
    let all = c.args.elements.now in
    let i = c.loop-element.element-index in
    let item = c.element-item.result in
    let n = c.loop-element.count in
    let rest = writtens (map written_seen (drop (i + 1) all)) in
    let same : get_or all i item ≡ item = search rules in
    let is : length (ways_through_all (writtens (map written_seen (drop i all)))) ≡ length (ways_through_all (written (written_seen item) rest)) =
    at_drop_more (λ es. length (ways_through_all (writtens (map written_seen es)))) all i item c.loop-element-test.true
    ∙ ap (λ it. length (ways_through_all (written (written_seen it) rest))) same
    in
    let is_cut : c.cap-count.result ≡ capped (n * capped (length (ways_through (written_seen item)))) =
    c.cap-count.ensures ∙ ap (λ m. capped (n * m)) c.count_ways.ensures
    in (
      ap (λ m. capped (m * length (ways_through_all rest))) is_cut
          ∙ (all_more n (written_seen item) rest ∙ (ap (λ k. capped (n * k)) (sym is) ∙ c.loop-element.invariant.0)),
      subst (λ m. m ≤ 65) (sym is_cut) (no_more (n * capped (length (ways_through (written_seen item))))),
    )
