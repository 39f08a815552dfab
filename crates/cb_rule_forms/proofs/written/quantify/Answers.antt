use Rattle.std.proofs.Common.{◌≡◌, ◌<◌, ◌≤◌, ◌∙◌, ◌++◌, [], ◌∷◌, ap, drop, false, length, map, rules, sym, take}
use Rattle.std.proofs.lemmas.List.{map-append}
use Rattle.cb_forms.specs.declared.fault.Fault.TheVariants.{MalformedForm}
use Rattle.cb_rule_forms.specs.Internal.{writtens, written_seen}
use Rattle.cb_rule_forms.specs.WrittenElements.{written_group}
use Rattle.cb_rule_forms.specs.declared.written.Written.TheViews as views
use Rattle.cb_rule_forms.proofs.WrittenLaws.{quantified_few, quantified_two, seen_group, seen_wrong}
use Rattle.cb_rule_forms.proofs.written.quantify.Goals as goal

pub returns-then-len-lt2 : goal.returns-then-len-lt2
returns-then-len-lt2 c =
    let few : length c.args.elements.items < 2 = search rules in
    seen_wrong MalformedForm ∙ sym (quantified_few written_seen c.args.elements.items few)

pub returns : goal.returns
returns c =
    let all = c.args.elements.items in
    let others = c.in_ok-others.others in
    let first = c.split_off.new.self.items in
    let two : 2 ≤ length all = search rules in
    let kept : first ≡ take 1 all = search rules in
    let left : others.items ≡ drop 1 all = search rules in
    let pushed : c.push.new.self.items ≡ first ++ views.Group false others ∷ [] = search rules in
    let members : map written_seen c.push.new.self.items ≡ map written_seen (take 1 all) ++ written_group false (writtens (map written_seen (drop 1 all))) ∷ [] =
    ap (map written_seen) pushed
    ∙ (map-append written_seen first (views.Group false others ∷ [])
    ∙ (ap (λ it. map written_seen it ++ written_seen (views.Group false others) ∷ []) kept
    ∙ (ap (λ it. map written_seen (take 1 all) ++ it ∷ []) (seen_group false others)
    ∙ ap (λ it. map written_seen (take 1 all) ++ written_group false (writtens (map written_seen it)) ∷ []) left)))
    in
    seen_group false c.push.new.self ∙ (ap (λ it. written_group false (writtens it)) members ∙ sym (quantified_two written_seen all two))
