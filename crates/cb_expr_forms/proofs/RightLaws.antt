-- Arguments, calls, facts and fields that have no fault, and the first that has one.
use Rattle.std.proofs.Common.{◌≡◌, ◌≢◌, ◌↔◌, ◌∙◌, ◌++◌, ◌&&◌, Bool, true, false, not, List, [], ◌∷◌, Option, Some, None, codes, refl, ap, ap₂, sym}
use Rattle.cb_expr_forms.specs.ExprFaults.{all_faults, begins_with_list, call_faults, equals_faults, fact_faults, facts_faults, faults_of, is_equals, type_faults, values_faults}
use Rattle.cb_expr_forms.specs.ExprForms.{count, expr_of}
use Rattle.cb_facts.specs.FaultLists.{first_of, unless}
use Rattle.cb_expr_forms.specs.Laws.{AreFaultless, AreRight, NoListAfterEquals, followed_by, list_of}
use Rattle.cb_expr_forms.specs.Scopes.{Scope, effect_fault, may_act}
use Rattle.cb_expr_forms.proofs.PlanLaws.{any_type}
use Rattle.cb_forms.specs.Trees.{Tree, Trees, no_trees, tree}
use Rattle.cb_forms.specs.declared.fault.Fault.{Fault}
use Rattle.cb_forms.specs.declared.fault.Fault.TheVariants.{NotInProfile, WrongArguments}
use Rattle.cb_facts.proofs.FirstFaults.{first_append}
use Rattle.cb_words.specs.Words.{arity_of, takes}
use Rattle.cb_words.specs.Words.{head_of}
use Rattle.cb_words.specs.declared.words.Function.{Function}
use Rattle.cb_words.specs.declared.words.Head.{Head}
use Rattle.cb_words.specs.declared.words.Head.TheVariants as head

pub both_none : (xs ys : List Fault) → xs ++ ys ≡ [] → (xs ≡ []) × (ys ≡ [])
both_none [] ys h = (refl, h)
both_none (x ∷ xs) ys h = absurd (cc)

pub none_both : (xs ys : List Fault) → xs ≡ [] → ys ≡ [] → xs ++ ys ≡ []
none_both xs ys h k = ap₂ (λ us vs. us ++ vs) h k

pub holds : (b : Bool) (f : Fault) → unless b f ≡ [] → b ≡ true
holds true f h = refl
holds false f h = absurd (cc)

pub holds_not : (b : Bool) (f : Fault) → unless (not b) f ≡ [] → b ≡ false
holds_not true f h = absurd (cc)
holds_not false f h = refl

pub right_all : (s : Scope) (ts : Trees) → all_faults s ts ≡ [] → AreRight s ts
right_all s no_trees h = tt
right_all s (tree t ts) h = let parts = both_none (faults_of s t) (all_faults s ts) h in (parts.0, right_all s ts parts.1)

pub all_right : (s : Scope) (ts : Trees) → AreRight s ts → all_faults s ts ≡ []
all_right s no_trees h = refl
all_right s (tree t ts) h = none_both (faults_of s t) (all_faults s ts) h.0 (all_right s ts h.1)

-- of forms, the faults of one after another: the first that has a fault is reported
pub first_reported : (faults : Tree → List Fault) (all : Trees → List Fault) (next : (t : Tree) (ts : Trees) → all (tree t ts) ≡ faults t ++ all ts)
    (before : Trees) (t : Tree) (after : Trees) (f : Fault) → AreFaultless faults before → first_of (faults t) ≡ Some f → first_of (all (followed_by before (tree t after))) ≡ Some f
first_reported faults all next no_trees t after f right h = ap first_of (next t after) ∙ first_append (faults t) (all after) f h
first_reported faults all next (tree u us) t after f right h =
    let rest = followed_by us (tree t after) in
    ap first_of (next u rest) ∙ ap (λ fs. first_of (fs ++ all rest)) right.0 ∙ first_reported faults all next us t after f right.1 h

-- facts, one by one
right_facts : (s : Scope) (ts : Trees) → facts_faults s ts ≡ [] → AreFaultless (fact_faults s) ts
right_facts s no_trees h = tt
right_facts s (tree t ts) h = let parts = both_none (fact_faults s t) (facts_faults s ts) h in (parts.0, right_facts s ts parts.1)

facts_right : (s : Scope) (ts : Trees) → AreFaultless (fact_faults s) ts → facts_faults s ts ≡ []
facts_right s no_trees h = refl
facts_right s (tree t ts) h = none_both (fact_faults s t) (facts_faults s ts) h.0 (facts_right s ts h.1)

-- calls with an effect, where one may stand
act_so : (s : Scope) (fs : List Fault) → may_act s.side ≡ true → unless (may_act s.side) (effect_fault s.side) ++ fs ≡ fs
act_so s fs may = ap (λ b. unless b (effect_fault s.side) ++ fs) may

some_there : (t : Tree) (ts : Trees) → tree t ts ≢ no_trees
some_there t ts h = cc

pub assert_right : (s : Scope) (facts : Trees) → may_act s.side ≡ true → (faults_of s (list_of (codes "assert") facts) ≡ []) ↔ ((facts ≢ no_trees) × AreFaultless (fact_faults s) facts)
unfolding head_of
assert_right s no_trees may = (λ h. absurd (some_faults (sym (act_so s (WrongArguments ∷ []) may) ∙ h)), λ h. absurd (h.0 refl))
  where
    some_faults : WrongArguments ∷ [] ≡ [] → ⊥
    some_faults e = cc
assert_right s (tree t ts) may = (
  λ h. (some_there t ts, right_facts s (tree t ts) (sym (act_so s (facts_faults s (tree t ts)) may) ∙ h)),
  λ h. act_so s (facts_faults s (tree t ts)) may ∙ facts_right s (tree t ts) h.1,
)

pub retract_right : (s : Scope) (args : Trees) → may_act s.side ≡ true → (faults_of s (list_of (codes "retract") args) ≡ []) ↔ ((args ≢ no_trees) × AreRight s args)
unfolding head_of
retract_right s no_trees may = (λ h. absurd (some_faults (sym (act_so s (WrongArguments ∷ []) may) ∙ h)), λ h. absurd (h.0 refl))
  where
    some_faults : WrongArguments ∷ [] ≡ [] → ⊥
    some_faults e = cc
retract_right s (tree t ts) may = (
  λ h. (some_there t ts, right_all s (tree t ts) (sym (act_so s (all_faults s (tree t ts)) may) ∙ h)),
  λ h. act_so s (all_faults s (tree t ts)) may ∙ all_right s (tree t ts) h.1,
)

-- a call of a function without an effect, by what its word names
pub call_right : (s : Scope) (word : Option Head) (f : Function) (args : Trees) (facts change : List Fault) → word ≡ Some (head.Function f)
    → (call_faults s word args (all_faults s args) facts change ≡ []) ↔ ((takes (arity_of f) (count args) ≡ true) × AreRight s args)
call_right s word f args facts change is =
    let enough = takes (arity_of f) (count args) in
    let so : call_faults s word args (all_faults s args) facts change ≡ unless enough WrongArguments ++ all_faults s args = ap (λ o. call_faults s o args (all_faults s args) facts change) is in (
      λ h. let parts = both_none (unless enough WrongArguments) (all_faults s args) (sym so ∙ h) in (holds enough WrongArguments parts.0, right_all s args parts.1),
      λ h. so ∙ none_both (unless enough WrongArguments) (all_faults s args) (ap (λ b. unless b WrongArguments) h.0) (all_right s args h.1),
    )

-- fields of an ordered fact
pub fields_right : (s : Scope) (ts : Trees) → values_faults s None ts ≡ [] → AreRight s ts × NoListAfterEquals ts
fields_right s no_trees h = (tt, tt)
fields_right s (tree t ts) h =
    let types = type_faults None (expr_of s.templates t) in
    let parts = both_none (equals_faults t ts ++ (faults_of s t ++ types)) (values_faults s None ts) h in
    let here = both_none (equals_faults t ts) (faults_of s t ++ types) parts.0 in
    let rest = fields_right s ts parts.1 in
    (((both_none (faults_of s t) types here.1).0, rest.0), (holds_not (is_equals t && begins_with_list ts) NotInProfile here.0, rest.1))

pub right_fields : (s : Scope) (ts : Trees) → AreRight s ts → NoListAfterEquals ts → values_faults s None ts ≡ []
right_fields s no_trees right free = refl
right_fields s (tree t ts) right free =
    let types = type_faults None (expr_of s.templates t) in
    let equals : equals_faults t ts ≡ [] = ap (λ b. unless (not b) NotInProfile) free.0 in
    none_both (equals_faults t ts ++ (faults_of s t ++ types)) (values_faults s None ts)
    (none_both (equals_faults t ts) (faults_of s t ++ types) equals (none_both (faults_of s t) types right.0 (any_type (expr_of s.templates t)))) (right_fields s ts right.1 free.1)
