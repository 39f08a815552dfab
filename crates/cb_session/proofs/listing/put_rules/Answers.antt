use Rattle.std.proofs.Common.{◌≡◌, ◌∷◌, [], List, Err, rules, subst, sym}
use Rattle.cb_io.proofs.PutLaws.{puts_fine}
use Rattle.cb_rules.specs.RuleInfos.{RuleInfo}
use Rattle.cb_session.specs.Listings.{rule_line}
use Rattle.cb_session.proofs.ListingLaws.{AreBegun, all_begun, none_begun, one_more, one_off}
use Rattle.cb_session.proofs.listing.put_rules.Goals as goal

pub loop-rule-init : goal.loop-rule-init
loop-rule-init g c =
    let rest : c.into_iter-rule-iterator.result ≡ c.args.rules.now = search rules in
    subst (λ (it : List RuleInfo). AreBegun g.K.Sink.writes rule_line c.args.out.now c.args.out.now c.args.rules.now it) (sym rest) (none_begun g.K.Sink.writes rule_line _ _ c.requires)

pub put_rule-requires : goal.put_rule-requires
put_rule-requires g c = puts_fine g.K.Sink.writes _ _ _ c.loop-rule.invariant.puts

pub loop-rule-preserved : goal.loop-rule-preserved
loop-rule-preserved g c =
    let cut : c.loop-rule.rule-iterator ≡ c.in-Some.rule.now ∷ c.next.new.self = search rules in
    one_more g.K.Sink.writes rule_line _ _ _ _ _ _ c.in-Some.rule.now cut c.loop-rule.invariant c.in_ok-put_rule.ensures

pub returns-in_err-put_rule : goal.returns-in_err-put_rule
returns-in_err-put_rule g c =
    let cut : c.loop-rule.rule-iterator ≡ c.in-Some.rule.now ∷ c.next.new.self = search rules in
    let r : c.from_residual.result ≡ Err c.in_err-put_rule.field-0.0 = search rules in
    one_off g.K.Sink.writes rule_line _ _ _ _ _ _ c.in-Some.rule.now _ _ cut r c.loop-rule.invariant c.in_err-put_rule.ensures

pub returns : goal.returns
returns g c =
    let none : c.loop-rule.rule-iterator ≡ [] = search rules in
    all_begun g.K.Sink.writes rule_line _ _ _ _ none c.loop-rule.invariant
