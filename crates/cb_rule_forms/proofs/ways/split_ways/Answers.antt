use Rattle.std.proofs.Common.{◌≡◌, ◌≤◌, ◌∙◌, [], ◌∷◌, List, ap, length, map, nat_le, rules, true}
use Rattle.std.specs.Borrow.{Bor}
use Rattle.cb_rule_forms.specs.declared.written.Written as declared
use Rattle.cb_forms.specs.declared.fault.Fault.TheVariants.{TooManyBranches}
use Rattle.cb_rule_forms.specs.Branches.{combined, ways_through_all}
use Rattle.cb_rule_forms.specs.Internal.{ways_seen, writtens, written_seen}
use Rattle.cb_rule_forms.proofs.CountLaws.{under}
use Rattle.cb_rule_forms.proofs.WayLaws.{after_none}
use Rattle.cb_facts.specs.FaultLists.{unless}
use Rattle.cb_rule_forms.proofs.ways.split_ways.Goals as goal

pub returns : goal.returns
returns c =
    let ways = ways_through_all (writtens (map written_seen c.args.elements.now)) in
    let few : c.count_all.result ≤ 64 = search rules in
    let at_most : length ways ≤ 64 = under (length ways) c.count_all.result c.count_all.ensures few in
    let told : nat_le (length ways) 64 ≡ true = search rules in
    let start : ways_seen c.in_ok-start.start.items ≡ [] ∷ [] = c.in_ok-start.ensures ∙ ap (λ (es : List (Bor declared.Written)). map (λ w. written_seen w.now) es ∷ []) c.new.ensures.items in
    (ap (λ b. unless b TooManyBranches) told, c.in_ok-follow_all.ensures ∙ (ap (λ it. combined it ways) start ∙ after_none ways))
