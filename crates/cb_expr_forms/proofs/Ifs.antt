-- An `if`, by its test, the word `then` and its actions.
use Rattle.std.proofs.Common.{◌≡◌, ◌∙◌, ◌++◌, ◌+◌, ◌≤◌, arith, true, false, List, ◌∷◌, Some, None, codes, refl, sym, ap, ap₂, if◌then◌else◌}
use Rattle.std.specs.List.{list_any}
use Rattle.cb_expr_forms.specs.Actions.{before_else, after_else, branches, if_of, is_else}
use Rattle.cb_expr_forms.specs.ExprFaults.{all_faults, faults_of, is_this_symbol}
use Rattle.cb_expr_forms.specs.ExprForms.{expr_of, exprs_of}
use Rattle.cb_expr_forms.specs.Internal.{IsCutAtElse, if_expr, if_faults}
use Rattle.cb_expr_forms.specs.Scopes.{Scope}
use Rattle.cb_expr_forms.specs.Internal.Sizes.{tree_size, trees_size}
use Rattle.cb_expr_forms.proofs.Elses.{symbol_fine}
use Rattle.cb_expr_forms.proofs.Heads.{word_symbol}
use Rattle.cb_exprs.specs.Terms.{choose, actions, terms}
use Rattle.cb_forms.specs.Members.{members}
use Rattle.cb_forms.specs.Trees.{tree_of}
use Rattle.cb_forms.specs.declared.form.Form.{Form}
use Rattle.cb_templates.specs.Templates.{Templates}

module _ (all rest body : List Form) (test word : Form) (e : all ≡ test ∷ rest) (f : rest ≡ word ∷ body) where
  forms_are : all ≡ test ∷ word ∷ body
  forms_are = e ∙ ap (λ r. test ∷ r) f

  -- without the word
  pub not_if : is_this_symbol (codes "then") (tree_of word) ≡ false → (t : Templates) → if_of (exprs_of t (members all)) ≡ None
  not_if h t =
      ap (λ fs. if_of (exprs_of t (members fs))) forms_are
      ∙ ap (λ b. if b then branches (expr_of t (tree_of test)) (exprs_of t (members body)) else None) (word_symbol t (codes "then") (tree_of word) ∙ h)

  module _ (first second : List Form) (h : is_this_symbol (codes "then") (tree_of word) ≡ true) (cut : IsCutAtElse (members body) (members first) (members second))
      (once : (t : Templates) → false ≡ list_any is_else (exprs_of t (members second))) where
    -- with it
    pub is_if : (t : Templates) → if_of (exprs_of t (members all)) ≡ Some (if_expr t (tree_of test) (members first) (members second))
    is_if t =
        let es = exprs_of t (members body) in
        let u = expr_of t (tree_of test) in
        ap (λ fs. if_of (exprs_of t (members fs))) forms_are
        ∙ (ap (λ b. if b then branches u es else None) (word_symbol t (codes "then") (tree_of word) ∙ h)
        ∙ (ap (λ b. if b then None else Some (choose u (actions (terms (before_else es))) (actions (terms (after_else es))))) (ap (list_any is_else) (sym (cut.after_is t)) ∙ sym (once t))
        ∙ ap₂ (λ xs ys. Some (choose u (actions (terms xs)) (actions (terms ys)))) (sym (cut.before_is t)) (sym (cut.after_is t))))

    pub if_faults_are : (s : Scope) → all_faults s (members all) ≡ if_faults s (tree_of test) (members first) (members second)
    if_faults_are s =
        ap (λ fs. all_faults s (members fs)) forms_are
        ∙ ap₂ (λ xs ys. faults_of s (tree_of test) ++ (xs ++ ys)) (symbol_fine s (codes "then") (tree_of word) h) (cut.faults_are s)

    -- its parts are no larger
    pub if_fits : tree_size (tree_of test) + (trees_size (members first) + trees_size (members second)) ≤ trees_size (members all)
    if_fits =
        let less = cut.no_larger in
        let whole : trees_size (members all) ≡ trees_size (members (test ∷ word ∷ body)) = ap (λ fs. trees_size (members fs)) forms_are in
        let parts : trees_size (members (test ∷ word ∷ body)) ≡ tree_size (tree_of test) + (tree_size (tree_of word) + trees_size (members body)) = refl in
        omega arith

pub while_fits : (all rest body : List Form) (test : Form) → all ≡ test ∷ rest → trees_size (members body) ≤ trees_size (members rest)
    → tree_size (tree_of test) + trees_size (members body) ≤ trees_size (members all)
while_fits all rest body test e less =
    let whole : trees_size (members all) ≡ tree_size (tree_of test) + trees_size (members rest) = ap (λ fs. trees_size (members fs)) e in
    omega arith
