use Rattle.std.proofs.Common.{◌≡◌, false, rules, sym, true}
use Rattle.std.specs.List.{list_all}
use Rattle.cb_expr_forms.specs.Scopes.{is_known}
use Rattle.cb_expr_forms.specs.Variables.{variables_of}
use Rattle.cb_exprs.specs.Terms.{term_of}
use Rattle.cb_rule_forms.proofs.MentionLaws.{needed_after, needed_all, needed_some}
use Rattle.cb_rule_forms.proofs.mentions.need_all.Goals as goal

pub returns-then-not-knows_all : goal.returns-then-not-knows_all
returns-then-not-knows_all c =
    let names = variables_of (term_of c.args.expr.now) in
    let lacks : list_all (is_known c.args.known.now) names ≡ false = search rules in
    needed_some c.args.known.now names lacks

pub returns : goal.returns
returns c =
    let names = variables_of (term_of c.args.expr.now) in
    let has : list_all (is_known c.args.known.now) names ≡ true = search rules in
    (needed_all c.args.known.now names has, sym (needed_after c.args.known.now names))
