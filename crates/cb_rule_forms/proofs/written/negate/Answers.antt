use Rattle.std.proofs.Common.{◌≡◌, ◌≢◌, ◌∙◌, false, length, rules, sym}
use Rattle.cb_forms.specs.declared.fault.Fault.TheVariants.{MalformedForm}
use Rattle.cb_rule_forms.specs.Internal.{written_seen}
use Rattle.cb_rule_forms.proofs.WrittenLaws.{negated_one, negated_other, seen_group, seen_wrong}
use Rattle.cb_rule_forms.proofs.written.negate.Goals as goal

pub returns-then-len-eq1 : goal.returns-then-len-eq1
returns-then-len-eq1 c =
    let one : length c.args.elements.items ≡ 1 = search rules in
    seen_group false c.args.elements ∙ sym (negated_one written_seen c.args.elements.items one)

pub returns : goal.returns
returns c =
    let other : length c.args.elements.items ≢ 1 = search rules in
    seen_wrong MalformedForm ∙ sym (negated_other written_seen c.args.elements.items other)
