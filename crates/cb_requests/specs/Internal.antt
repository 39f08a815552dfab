-- What the first global of a `defglobal` is.
use Rattle.std.specs.Prelude.{◌≡◌, ℕ, List, [], ◌∷◌, ◌++◌, Result, Ok, Err}
use Rattle.cb_exprs.specs.Bindings.{Bindings}
use Rattle.cb_exprs.specs.GlobalTerms.{GlobalTerm}
use Rattle.cb_facts.specs.Results.{Reports, ok_then, with_first}
use Rattle.cb_facts.specs.declared.refused.Refused.{Refused}
use Rattle.cb_forms.specs.Trees.{Tree, Trees, tree}
use Rattle.cb_forms.specs.declared.fault.Fault.TheVariants.{MalformedForm}
use Rattle.cb_expr_forms.specs.Scopes.{plain_scope}
use Rattle.cb_requests.specs.Reads.{expr_in, globals_in}
use Rattle.cb_templates.specs.Templates.{Templates}

-- the shape of the first global that the forms give is wrong
abbrev pub IsNoGlobal : Tree → Trees → Type 0
IsNoGlobal first ts = (templates : Templates) (env : Bindings) (given : List (List ℕ)) → globals_in templates env given (tree first ts) ≡ Err MalformedForm

-- the first global has this name and this expression, and these forms follow
abbrev pub IsGlobal : Tree → Trees → List ℕ → Tree → Trees → Type 0
IsGlobal first ts name t others =
    (templates : Templates) (env : Bindings) (given : List (List ℕ))
    → globals_in templates env given (tree first ts)
    ≡ with_first (ok_then (λ e. (name, e)) (expr_in (plain_scope templates env given) t)) (globals_in templates env (given ++ name ∷ []) others)

-- The call returns the first global that the forms give, after those with these names, and the forms after it, seen so; or the
-- first fault.
abbrev pub ReadsGlobal : {F : Type 0} → (F → Trees) → Templates → Bindings → List (List ℕ) → Trees → Result (GlobalTerm × F) Refused → Type 0
ReadsGlobal see templates env given ts (Ok g) =
    globals_in templates env given ts ≡ with_first (Ok g.0) (globals_in templates env (given ++ g.0.0 ∷ []) (see g.1))
ReadsGlobal see templates env given ts (Err r) = Reports r (λ f. globals_in templates env given ts ≡ Err f)
