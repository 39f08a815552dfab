use Rattle.std.proofs.Common.{◌≡◌, ◌∙◌, true, false, is_some, ap, subst, rules, sym}
use Rattle.cb_expr_forms.specs.Scopes.{Scope as View, is_known}
use Rattle.cb_expr_forms.proofs.Known.{known_left, known_right}
use Rattle.cb_exprs.specs.Bindings.{value_at}
use Rattle.cb_expr_forms.proofs.scope.Scope.knows_global.Goals as goal

pub returns-then-is_some : goal.returns-then-is_some
returns-then-is_some c =
    let name = c.args.name.now in
    let values = c.self.inside.env.now.globals in
    let h : is_some (value_at name values) ≡ true = ap is_some (sym c.global.ensures) ∙ search rules in
    subst (λ (it : View). c.is_some.result ≡ is_known it.globals name) c.self.view_is (c.if-is_some.true ∙ known_left values c.self.inside.given.now name h)

pub returns-else-is_some : goal.returns-else-is_some
returns-else-is_some c =
    let name = c.args.name.now in
    let values = c.self.inside.env.now.globals in
    let h : is_some (value_at name values) ≡ false = ap is_some (sym c.global.ensures) ∙ search rules in
    subst (λ (it : View). c.has.result ≡ is_known it.globals name) c.self.view_is (c.has.ensures ∙ known_right values c.self.inside.given.now name h)
