use Rattle.std.proofs.Common.{◌≡◌, ◌∙◌, ap, false, rules, sym, true}
use Rattle.std.specs.List.{list_all}
use Rattle.cb_constraints.specs.Constraints.{asked_test}
use Rattle.cb_facts.specs.FaultLists.{first_of}
use Rattle.cb_expr_forms.specs.Scopes.{is_known}
use Rattle.cb_rule_forms.specs.Mentions.{known_after, mention_faults, test_variables}
use Rattle.cb_rule_forms.proofs.MentionLaws.{needed_after, needed_all, needed_some}
use Rattle.cb_rule_forms.proofs.mentions.CheckMentions.bind.Goals as goal

pub returns-then-not-knows_test : goal.returns-then-not-knows_test
returns-then-not-knows_test c =
    let names = test_variables (asked_test c.args.self.now.test) in
    let known = c.args.known.now in
    let lacks : list_all (is_known known) names ≡ false = search rules in
    ap (λ ms. first_of (mention_faults known ms)) c.in-None.ensures ∙ needed_some known names lacks

pub returns-else-not-knows_test : goal.returns-else-not-knows_test
returns-else-not-knows_test c =
    let names = test_variables (asked_test c.args.self.now.test) in
    let known = c.args.known.now in
    let has : list_all (is_known known) names ≡ true = search rules in
    (ap (mention_faults known) c.in-None.ensures ∙ needed_all known names has, sym (ap (known_after known) c.in-None.ensures ∙ needed_after known names))
