use Rattle.std.proofs.Common.{◌∙◌, ◌++◌, ap, sym, Some}
use Rattle.cb_expr_forms.specs.Actions.{while_of}
use Rattle.cb_expr_forms.specs.ExprFaults.{all_faults, faults_of}
use Rattle.cb_expr_forms.specs.ExprForms.{expr_of, exprs_of}
use Rattle.cb_expr_forms.proofs.Ifs.{while_fits}
use Rattle.cb_exprs.specs.Terms.{repeat, actions, terms}
use Rattle.cb_forms.specs.Members.{members}
use Rattle.cb_forms.specs.Trees.{tree_of}
use Rattle.cb_expr_forms.proofs.action_form.split_while.Goals as goal

pub returns : goal.returns
returns c =
    let test = tree_of c.in_ok-test.test.now in (
      λ t. ap (λ fs. while_of (exprs_of t (members fs))) c.in_ok-test.ensures.cases.0 ∙ ap (λ es. Some (repeat (expr_of t test) (actions (terms es)))) (sym (c.after_do.ensures.actions t)),
      λ s. ap (λ fs. all_faults s (members fs)) c.in_ok-test.ensures.cases.0 ∙ ap (λ fs. faults_of s test ++ fs) (c.after_do.ensures.faults s),
      while_fits c.args.args.now c.in_ok-test.rest.now c.after_do.result.now c.in_ok-test.test.now c.in_ok-test.ensures.cases.0 c.after_do.ensures.sizes,
    )
