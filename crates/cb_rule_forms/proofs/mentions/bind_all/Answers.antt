use Rattle.std.proofs.Common.{◌≡◌, get_or, rules}
use Rattle.cb_rule_forms.proofs.MentionLaws.{next_fault, next_known}
use Rattle.cb_rule_forms.proofs.mentions.bind_all.Goals as goal

pub returns-in_err-bind : goal.returns-in_err-bind
returns-in_err-bind g c =
    let is : get_or c.args.parts.now c.loop-part.part-index c.part-item.result ≡ c.part-item.result = search rules in
    next_fault g.T.Mentions.mentions c.args.known.now c.args.parts.now c.bind.new.known c.loop-part.known c.loop-part.part-index c.part-item.result c.in_err-bind.field-0.0 c.from_residual.result
    c.loop-part-test.true is c.loop-part.invariant (search rules) c.in_err-bind.ensures

pub loop-part-preserved : goal.loop-part-preserved
loop-part-preserved g c =
    let is : get_or c.args.parts.now c.loop-part.part-index c.part-item.result ≡ c.part-item.result = search rules in
    next_known g.T.Mentions.mentions c.args.known.now c.args.parts.now c.loop-part.known c.bind.new.known c.loop-part.part-index c.part-item.result
    c.loop-part-test.true is c.loop-part.invariant c.in_ok-bind.ensures
