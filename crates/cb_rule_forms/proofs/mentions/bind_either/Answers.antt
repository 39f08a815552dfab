use Rattle.std.proofs.Common.{◌≡◌, false, map, option_map, rules, true}
use Rattle.std.specs.List.{flat_map, list_all}
use Rattle.cb_constraints.specs.Constraints.{check_of}
use Rattle.cb_expr_forms.specs.Scopes.{is_known}
use Rattle.cb_rule_forms.specs.Mentions.{checks_variables}
use Rattle.cb_rule_forms.proofs.MentionLaws.{either_right, either_wrong}
use Rattle.cb_rule_forms.proofs.mentions.bind_either.Goals as goal

pub returns-then-not-knows_alternatives : goal.returns-then-not-knows_alternatives
returns-then-not-knows_alternatives c =
    let names = flat_map checks_variables (map (λ cs. map check_of cs.items) c.args.alternatives.now) in
    let lacks : list_all (is_known c.bind_apart.new.known) names ≡ false = search rules in
    either_wrong c.args.known.now c.bind_apart.new.known (option_map (λ x. x.now) c.args.apart) names (search rules) lacks

pub returns : goal.returns
returns c =
    let names = flat_map checks_variables (map (λ cs. map check_of cs.items) c.args.alternatives.now) in
    let has : list_all (is_known c.bind_apart.new.known) names ≡ true = search rules in
    either_right c.args.known.now c.bind_apart.new.known (option_map (λ x. x.now) c.args.apart) names (search rules) has
