use Rattle.std.proofs.Common.{◌≡◌, ◌∙◌, ◌+◌, ◌||◌, ◌∷◌, ap, codes, drop, false, get_or, rules, sym}
use Rattle.std.proofs.lemmas.List.{at_drop_more}
use Rattle.std.specs.List.{list_any}
use Rattle.cb_expr_forms.specs.Actions.{is_else}
use Rattle.cb_expr_forms.specs.ExprFaults.{is_this_symbol}
use Rattle.cb_expr_forms.specs.ExprForms.{exprs_of}
use Rattle.cb_expr_forms.proofs.Elses.{else_is}
use Rattle.cb_forms.specs.Members.{members}
use Rattle.cb_forms.specs.Trees.{tree_of}
use Rattle.cb_expr_forms.proofs.action_form.has_else.Goals as goal

pub loop-form-preserved : goal.loop-form-preserved
loop-form-preserved c =
    λ t.
    let all = c.args.actions.now in
    let i = c.loop-form.form-index in
    let form = c.form-item.result in
    let is : get_or all i form ≡ form = search rules in
    let no : is_this_symbol (codes "else") (tree_of form) ≡ false = search rules in
    sym (ap (λ b. b || list_any is_else (exprs_of t (members (drop (i + 1) all)))) (else_is t (tree_of form) false no))
    ∙ (sym (ap (λ it. list_any is_else (exprs_of t (members (it ∷ drop (i + 1) all)))) is)
    ∙ (sym (at_drop_more (λ fs. list_any is_else (exprs_of t (members fs))) all i form c.loop-form-test.true) ∙ c.loop-form.invariant t))
