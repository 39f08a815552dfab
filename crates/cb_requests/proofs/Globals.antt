-- The globals that a `defglobal` gives, one after another.
use Rattle.std.proofs.Common.{◌≡◌, ◌∙◌, ◌++◌, ℕ, List, [], ◌∷◌, Option, Some, Result, Ok, Err, refl, sym, ap, append_assoc}
use Rattle.cb_facts.specs.Internal.{after_those}
use Rattle.cb_facts.specs.Results.{with_first}
use Rattle.cb_forms.specs.Members.{members}
use Rattle.cb_forms.specs.Trees.{Tree, tree, tree_of}
use Rattle.cb_forms.specs.declared.fault.Fault.{Fault}
use Rattle.cb_forms.specs.declared.form.Form.{Form}
use Rattle.cb_expr_forms.specs.Scopes.{plain_scope}
use Rattle.cb_requests.specs.Reads.{expr_in, global_then, globals_in, name_given}
use Rattle.cb_requests.specs.Internal.{IsGlobal}

pub is_global : (first : Tree) (forms rest others : List Form) (word form : Form) (name : List ℕ)
    → forms ≡ word ∷ rest → rest ≡ form ∷ others → name_given first (tree_of word) ≡ Some name → IsGlobal first (members forms) name (tree_of form) (members others)
is_global first forms rest others word form name e d n templates env given =
    ap (λ fs. globals_in templates env given (tree first (members fs))) (e ∙ ap (λ r. word ∷ r) d)
    ∙ ap (λ (o : Option (List ℕ)). global_then o (expr_in (plain_scope templates env given) (tree_of form)) (λ k. globals_in templates env (given ++ k ∷ []) (members others))) n

-- one more after those that are there
pub one_more : {X : Type 0} (xs : List X) (x : X) (r : Result (List X) Fault) → after_those xs (with_first (Ok x) r) ≡ after_those (xs ++ x ∷ []) r
one_more xs x (Ok ys) = ap Ok (sym (append_assoc xs (x ∷ []) ys))
one_more xs x (Err f) = refl
