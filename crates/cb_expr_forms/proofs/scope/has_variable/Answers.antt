use Rattle.std.proofs.Common.{◌≡◌, ◌∙◌, true, false, is_some, ap, rules, sym}
use Rattle.cb_expr_forms.proofs.Known.{known_left, known_right}
use Rattle.cb_exprs.specs.Bindings.{value_at}
use Rattle.cb_expr_forms.proofs.scope.has_variable.Goals as goal

pub returns-then-is_some : goal.returns-then-is_some
returns-then-is_some c =
    let name = c.args.name.now in
    let values = c.args.env.now.variables in
    let h : is_some (value_at name values) ≡ true = ap is_some (sym c.get.ensures) ∙ search rules in
    c.if-is_some.true ∙ known_left values c.args.bound.now name h

pub returns-else-is_some : goal.returns-else-is_some
returns-else-is_some c =
    let name = c.args.name.now in
    let values = c.args.env.now.variables in
    let h : is_some (value_at name values) ≡ false = ap is_some (sym c.get.ensures) ∙ search rules in
    c.has.ensures ∙ known_right values c.args.bound.now name h
