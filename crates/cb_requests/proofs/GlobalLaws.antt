-- The globals of forms, and then those of the forms after them.
use Rattle.std.proofs.Common.{◌≡◌, ◌∙◌, ◌++◌, ℕ, List, [], ◌∷◌, Option, Some, None, Result, Ok, Err, refl, sym, ap, subst, append_assoc}
use Rattle.std.proofs.lemmas.List.{append-nil}
use Rattle.cb_expr_forms.specs.Laws.{followed_by}
use Rattle.cb_exprs.specs.Bindings.{Bindings}
use Rattle.cb_exprs.specs.GlobalTerms.{GlobalTerm}
use Rattle.cb_exprs.specs.Terms.{Term}
use Rattle.cb_facts.specs.Results.{ok_then, with_first}
use Rattle.cb_forms.specs.Trees.{Trees, no_trees, tree}
use Rattle.cb_forms.specs.declared.fault.Fault.{Fault}
use Rattle.cb_expr_forms.specs.Scopes.{plain_scope}
use Rattle.cb_requests.specs.Laws.{global_names}
use Rattle.cb_requests.specs.Reads.{expr_in, global_then, globals_in, name_given}
use Rattle.cb_templates.specs.Templates.{Templates}

abbrev Globals : Type 0
Globals = Result (List GlobalTerm) Fault

-- these globals and those that follow
abbrev these_and : List GlobalTerm → Globals → Globals
these_and gs r = ok_then (λ more. gs ++ more) r

these_and_none : (r : Globals) → these_and [] r ≡ r
these_and_none (Ok more) = refl
these_and_none (Err f) = refl

one_more : (g : GlobalTerm) (gs : List GlobalTerm) (r : Globals) → with_first (Ok g) (these_and gs r) ≡ these_and (g ∷ gs) r
one_more g gs (Ok more) = refl
one_more g gs (Err f) = refl

after_one : (name : List ℕ) (e : Term) (given : List (List ℕ)) (r s : Globals) (others : List (List ℕ) → Globals) (gs : List GlobalTerm)
    → with_first (Ok (name, e)) r ≡ Ok gs
    → ((hs : List GlobalTerm) → r ≡ Ok hs → s ≡ these_and hs (others ((given ++ name ∷ []) ++ global_names hs)))
    → with_first (Ok (name, e)) s ≡ these_and gs (others (given ++ global_names gs))
after_one name e given (Err f) s others gs h next = absurd (cc)
after_one name e given (Ok hs) s others gs h next =
    let g : GlobalTerm = (name, e) in
    let is : (g ∷ hs) ≡ gs = cc in
    subst (λ (all : List GlobalTerm). with_first (Ok g) s ≡ these_and all (others (given ++ global_names all))) is
    (ap (λ (r : Globals). with_first (Ok g) r) (next hs refl ∙ ap (λ known. these_and hs (others known)) (append_assoc given (name ∷ []) (global_names hs)))
    ∙ one_more g hs (others (given ++ name ∷ global_names hs)))

after_global : (o : Option (List ℕ)) (r : Result Term Fault) (given : List (List ℕ)) (alone followed : List ℕ → Globals) (others : List (List ℕ) → Globals) (gs : List GlobalTerm)
    → global_then o r alone ≡ Ok gs
    → ((name : List ℕ) (hs : List GlobalTerm) → alone name ≡ Ok hs → followed name ≡ these_and hs (others ((given ++ name ∷ []) ++ global_names hs)))
    → global_then o r followed ≡ these_and gs (others (given ++ global_names gs))
after_global None r given alone followed others gs h next = absurd (cc)
after_global (Some name) (Err f) given alone followed others gs h next = absurd (cc)
after_global (Some name) (Ok e) given alone followed others gs h next = after_one name e given (alone name) (followed name) others gs h (next name)

pub globals_followed : (templates : Templates) (env : Bindings) (given : List (List ℕ)) (ts us : Trees) (gs : List GlobalTerm)
    → globals_in templates env given ts ≡ Ok gs
    → globals_in templates env given (followed_by ts us) ≡ ok_then (λ more. gs ++ more) (globals_in templates env (given ++ global_names gs) us)
globals_followed templates env given no_trees us gs h =
    let is : [] ≡ gs = cc in
    subst (λ (all : List GlobalTerm). globals_in templates env given us ≡ these_and all (globals_in templates env (given ++ global_names all) us)) is
    (sym (these_and_none (globals_in templates env given us)) ∙ ap (λ known. these_and [] (globals_in templates env known us)) (sym (append-nil given)))
globals_followed templates env given (tree first no_trees) us gs h = absurd (cc)
globals_followed templates env given (tree first (tree word no_trees)) us gs h = absurd (cc)
globals_followed templates env given (tree first (tree word (tree t ts))) us gs h =
    after_global (name_given first word) (expr_in (plain_scope templates env given) t) given
    (λ name. globals_in templates env (given ++ name ∷ []) ts)
    (λ name. globals_in templates env (given ++ name ∷ []) (followed_by ts us))
    (λ known. globals_in templates env known us) gs h
    (λ name hs e. globals_followed templates env (given ++ name ∷ []) ts us hs e)
