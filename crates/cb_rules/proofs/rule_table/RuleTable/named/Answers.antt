use Rattle.std.proofs.Common.{◌≡◌, ◌∙◌, None, Some, ap, option_copied, rules, sym}
use Rattle.cb_rules.proofs.NumberedLaws.{number_by}
use Rattle.cb_rules.proofs.TableLaws.{at_name, missing-name, no_other}
use Rattle.cb_rules.specs.RuleTables.{rule_named}
use Rattle.cb_rules.proofs.rule_table.RuleTable.named.Goals as goal

pub returns-in_err-number-clause-value : goal.returns-in_err-number-clause-value
returns-in_err-number-clause-value c =
    let none : c.from_residual.result ≡ None = search rules in
    let missing : number_by c.self.inside.numbers c.args.name.now ≡ None = sym c.in_err-number.ensures.value in
    ap option_copied none ∙ sym (missing-name c.self.inside.rules.entries (number_by c.self.inside.numbers) c.args.name.now c.self.invariant missing)
    ∙ ap (rule_named c.args.name.now) c.self.view_is

pub returns-clause-value : goal.returns-clause-value
returns-clause-value c =
    let found : number_by c.self.inside.numbers c.args.name.now ≡ Some c.in_ok-number.number.now = sym c.in_ok-number.ensures.value in
    c.get-2.ensures.value ∙ at_name c.self.inside.rules.entries (number_by c.self.inside.numbers) c.in_ok-number.number.now c.args.name.now c.self.invariant found
    ∙ ap (rule_named c.args.name.now) c.self.view_is

pub returns-clause-only : goal.returns-clause-only
returns-clause-only c =
    let found : number_by c.self.inside.numbers c.args.name.now ≡ Some c.in_ok-number.number.now = sym c.in_ok-number.ensures.value in
    no_other c.self.inside.rules.entries c.args.self.now (number_by c.self.inside.numbers) c.in_ok-number.number.now c.args.name.now c.get-2.result c.self.invariant c.self.view_is found c.get-2.ensures.value
