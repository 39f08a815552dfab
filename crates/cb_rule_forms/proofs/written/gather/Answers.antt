use Rattle.std.proofs.Common.{◌≡◌, ◌≢◌, ◌∙◌, ap, length, true, map, rules, subst, sym}
use Rattle.std.specs.Result.{IfOk}
use Rattle.cb_rule_forms.specs.Internal.{writtens, written_seen}
use Rattle.cb_rule_forms.specs.WrittenElements.{gathered, quantified}
use Rattle.cb_rule_forms.proofs.WrittenLaws.{all_gathered, forall_gathered, group_gathered, not_gathered, one_gathered, seen_all, seen_group, seen_one}
use Rattle.cb_rule_forms.proofs.written.gather.Goals as goal

pub returns-in-And : goal.returns-in-And
returns-in-And c =
    let some : length c.args.elements.items ≢ 0 = search rules in
    seen_all c.args.elements ∙ (sym (all_gathered written_seen c.args.elements.items some) ∙ ap (λ k. gathered k (writtens (map written_seen c.args.elements.items))) (sym c.in-And.is))

pub returns-in-Or : goal.returns-in-Or
returns-in-Or c =
    let some : length c.args.elements.items ≢ 0 = search rules in
    seen_one c.args.elements ∙ (sym (one_gathered written_seen c.args.elements.items some) ∙ ap (λ k. gathered k (writtens (map written_seen c.args.elements.items))) (sym c.in-Or.is))

pub returns-in-Not : goal.returns-in-Not
returns-in-Not c =
    let some : length c.args.elements.items ≢ 0 = search rules in
    c.negate.ensures ∙ (sym (not_gathered written_seen c.args.elements.items some) ∙ ap (λ k. gathered k (writtens (map written_seen c.args.elements.items))) (sym c.in-Not.is))

pub returns-in-Exists : goal.returns-in-Exists
returns-in-Exists c =
    let some : length c.args.elements.items ≢ 0 = search rules in
    seen_group true c.args.elements ∙ (sym (group_gathered written_seen c.args.elements.items some) ∙ ap (λ k. gathered k (writtens (map written_seen c.args.elements.items))) (sym c.in-Exists.is))

pub returns-in-Forall : goal.returns-in-Forall
returns-in-Forall c =
    let ws = writtens (map written_seen c.args.elements.items) in
    let some : length c.args.elements.items ≢ 0 = search rules in
    let same : quantified ws ≡ gathered c.args.kind ws = sym (forall_gathered written_seen c.args.elements.items some) ∙ ap (λ k. gathered k ws) (sym c.in-Forall.is) in
    subst (λ it. IfOk c.quantify.result (λ w. written_seen w ≡ it)) same c.quantify.ensures
