-- What an item of a script does.
use Rattle.std.proofs.Common.{◌≡◌, ◌∙◌, ◌++◌, ℕ, List, [], ◌∷◌, Option, Some, None, Result, Ok, Err, codes, map, refl, sym, ap, ap₂, subst, false, true, if◌then◌else◌}
use Rattle.cb_actions.specs.Actions.{carried}
use Rattle.cb_actions.specs.Acts.{fault_of, follow, give_or_fault, ◌>>=◌}
use Rattle.cb_actions.specs.Worlds.{World}
use Rattle.cb_actions.specs.declared.act.EarlyEnd.TheVariants as ended
use Rattle.cb_actions.specs.declared.act.EarlyEnd.{EarlyEnd}
use Rattle.cb_actions.specs.declared.act.Limit.{Limit}
use Rattle.cb_expr_forms.specs.ExprFaults.{faults_of}
use Rattle.cb_expr_forms.specs.ExprForms.{assertion, assertions, expr_of, exprs_of, fact_of, fact_with, one_of, slot_expr, slot_exprs, slot_names}
use Rattle.cb_expr_forms.specs.Laws.{fact_giving, list_of}
use Rattle.cb_exprs.specs.Terms.{Term, actions, call, effect, terms}
use Rattle.cb_exprs.specs.declared.effect.Effect.TheVariants as kind
use Rattle.cb_facts.specs.FaultLists.{first_of, unless_faulty}
use Rattle.cb_facts.specs.Results.{ok_then}
use Rattle.cb_facts.specs.declared.value.Value.{Value}
use Rattle.cb_forms.specs.Trees.{Reading, Tree, Trees, trees_of}
use Rattle.cb_forms.specs.declared.fault.Fault.{Fault}
use Rattle.cb_laws.proofs.DefinedLaws.{is_defined}
use Rattle.cb_requests.specs.Reads.{top_scope}
use Rattle.cb_requests.specs.Requests as asked
use Rattle.cb_requests.specs.Requests.{Request, act_request, headed_request, template_request}
use Rattle.cb_requests.specs.Uses.{is_in_use}
use Rattle.cb_session.specs.Actions.{acted, performed_and_shown, requested, shown, shown_line}
use Rattle.cb_session.specs.Lines.{fault_line, limit_line}
use Rattle.cb_session.specs.States.{State}
use Rattle.cb_session.specs.Transcripts.{Run, concluded, executed}
use Rattle.cb_templates.specs.SlotValues.{Defines}
use Rattle.cb_templates.specs.Slots.{SlotShape, slot_named}
use Rattle.cb_templates.specs.TemplateFaults.{template_faults}
use Rattle.cb_templates.specs.TemplateShapes.{template_shape}
use Rattle.cb_templates.specs.Templates.{Templates, slots_of, with_template}
use Rattle.cb_words.specs.Words.{head_of}
use Rattle.cb_words.specs.declared.words.Action.{Action}
use Rattle.cb_words.specs.declared.words.Function.TheVariants as function
use Rattle.cb_words.specs.declared.words.Head.TheVariants as head

-- what an item does that asks for this, or that has this fault
abbrev run_of : State → Result Request Fault → Run
run_of s asked =
    let it = (give_or_fault asked >>= performed_and_shown) s in
    concluded it.state it.written it.answer

executed_by : (s : State) (r : Reading) (asked : Result Request Fault) → requested s r ≡ asked → executed s r ≡ run_of s asked
unfolding executed acted
executed_by s r asked h = ap (run_of s) h

-- what an item does whose expression leaves this world, writes this and ends so
abbrev run_after : State → World → List ℕ → Result (Option Value) EarlyEnd → Run
run_after s w bytes answer =
    let it = follow (record s { world = w }) bytes answer shown in
    concluded it.state it.written it.answer

by_expression : (s : State) (r : Reading) (t : Term) → requested s r ≡ Ok (asked.act t) → executed s r ≡ run_after s (carried t s.world).state (carried t s.world).written (carried t s.world).answer
by_expression s r t h = executed_by s r (Ok (asked.act t)) h

world_by : (s : State) (w : World) (bytes : List ℕ) (answer : Result (Option Value) EarlyEnd) → (run_after s w bytes answer).state.world ≡ w
world_by s w bytes (Ok v) = refl
world_by s w bytes (Err (ended.Fault f)) = refl
world_by s w bytes (Err (ended.FaultIn f id)) = refl
world_by s w bytes (Err (ended.Limit limit)) = refl
world_by s w bytes (Err (ended.Exit code)) = refl

only_by : (s : State) (w : World) (bytes : List ℕ) (answer : Result (Option Value) EarlyEnd) → ((run_after s w bytes answer).state.deffacts ≡ s.deffacts) × ((run_after s w bytes answer).state.globals ≡ s.globals)
only_by s w bytes (Ok v) = (refl, refl)
only_by s w bytes (Err (ended.Fault f)) = (refl, refl)
only_by s w bytes (Err (ended.FaultIn f id)) = (refl, refl)
only_by s w bytes (Err (ended.Limit limit)) = (refl, refl)
only_by s w bytes (Err (ended.Exit code)) = (refl, refl)

pub world_is : (s : State) (r : Reading) (t : Term) → requested s r ≡ Ok (asked.act t) → (executed s r).state.world ≡ (carried t s.world).state
world_is s r t h = ap (λ run. run.state.world) (by_expression s r t h) ∙ world_by s (carried t s.world).state (carried t s.world).written (carried t s.world).answer

pub rest_stays : (s : State) (r : Reading) (t : Term) → requested s r ≡ Ok (asked.act t) → ((executed s r).state.deffacts ≡ s.deffacts) × ((executed s r).state.globals ≡ s.globals)
rest_stays s r t h =
    subst (λ (run : Run). (run.state.deffacts ≡ s.deffacts) × (run.state.globals ≡ s.globals)) (sym (by_expression s r t h))
    (only_by s (carried t s.world).state (carried t s.world).written (carried t s.world).answer)

written_by : (s : State) (r : Reading) (t : Term) (answer : Result (Option Value) EarlyEnd) → requested s r ≡ Ok (asked.act t) → (carried t s.world).answer ≡ answer
    → (executed s r).written ≡ (run_after s (carried t s.world).state (carried t s.world).written answer).written
written_by s r t answer h is = ap (λ run. run.written) (by_expression s r t h) ∙ ap (λ a. (run_after s (carried t s.world).state (carried t s.world).written a).written) is

pub value_shown : (s : State) (r : Reading) (t : Term) (v : Option Value) → requested s r ≡ Ok (asked.act t) → (carried t s.world).answer ≡ Ok v
    → (executed s r).written ≡ (carried t s.world).written ++ shown_line v
value_shown s r t v h is = written_by s r t (Ok v) h is

fault_last : (s : State) (w : World) (bytes : List ℕ) (answer : Result (Option Value) EarlyEnd) (f : Fault) → fault_of answer ≡ Some f → (run_after s w bytes answer).written ≡ bytes ++ fault_line f
fault_last s w bytes (Ok v) f h = absurd (cc)
fault_last s w bytes (Err (ended.Fault g)) f h =
    let same : g ≡ f = cc in
    ap (λ it. bytes ++ fault_line it) same
fault_last s w bytes (Err (ended.FaultIn g id)) f h =
    let same : g ≡ f = cc in
    ap (λ it. bytes ++ fault_line it) same
fault_last s w bytes (Err (ended.Limit limit)) f h = absurd (cc)
fault_last s w bytes (Err (ended.Exit code)) f h = absurd (cc)

pub fault_shown : (s : State) (r : Reading) (t : Term) (f : Fault) → requested s r ≡ Ok (asked.act t) → fault_of (carried t s.world).answer ≡ Some f
    → (executed s r).written ≡ (carried t s.world).written ++ fault_line f
fault_shown s r t f h is = ap (λ run. run.written) (by_expression s r t h) ∙ fault_last s (carried t s.world).state (carried t s.world).written (carried t s.world).answer f is

pub limit_shown : (s : State) (r : Reading) (t : Term) (limit : Limit) → requested s r ≡ Ok (asked.act t) → (carried t s.world).answer ≡ Err (ended.Limit limit)
    → (executed s r).written ≡ (carried t s.world).written ++ limit_line limit
limit_shown s r t limit h is = written_by s r t (Err (ended.Limit limit)) h is

-- what is read where there are faults
first_read : {X : Type 0} (fs : List Fault) (x : X) (f : Fault) → first_of fs ≡ Some f → unless_faulty fs x ≡ Err f
first_read [] x f h = absurd (cc)
first_read (g ∷ fs) x f h =
    let same : g ≡ f = cc in
    ap Err same

-- a call with an effect asks for an expression
as_expression : (s : State) (name : List ℕ) (a : Action) (ts : Trees) → head_of name ≡ Some (head.Action a)
    → requested s (Ok (list_of name ts)) ≡ act_request s.world.templates s.world.env (list_of name ts)
as_expression s name a ts h = ap (λ o. headed_request s.world.templates s.world.env (is_in_use s.world.memory s.world.rules s.deffacts) (list_of name ts) o ts) h

pub right_call : (s : State) (name : List ℕ) (a : Action) (ts : Trees) → head_of name ≡ Some (head.Action a)
    → faults_of (top_scope s.world.templates s.world.env (list_of name ts)) (list_of name ts) ≡ [] → requested s (Ok (list_of name ts)) ≡ Ok (asked.act (expr_of s.world.templates (list_of name ts)))
right_call s name a ts h none = as_expression s name a ts h ∙ ap (λ fs. ok_then asked.act (unless_faulty fs (expr_of s.world.templates (list_of name ts)))) none

pub wrong_call : (s : State) (name : List ℕ) (a : Action) (ts : Trees) (f : Fault) → head_of name ≡ Some (head.Action a)
    → first_of (faults_of (top_scope s.world.templates s.world.env (list_of name ts)) (list_of name ts)) ≡ Some f → requested s (Ok (list_of name ts)) ≡ Err f
wrong_call s name a ts f h is =
    as_expression s name a ts h
    ∙ ap (ok_then asked.act) (first_read (faults_of (top_scope s.world.templates s.world.env (list_of name ts)) (list_of name ts)) (expr_of s.world.templates (list_of name ts)) f is)

-- what is written of facts
exprs_are : (templates : Templates) (forms : List Tree) → exprs_of templates (trees_of forms) ≡ map (expr_of templates) forms
exprs_are templates [] = refl
exprs_are templates (t ∷ forms) = ap (λ ts. expr_of templates t ∷ ts) (exprs_are templates forms)

assertions_are : (templates : Templates) (forms : List Tree) → assertions templates (trees_of forms) ≡ map (λ t. assertion (fact_of templates t)) forms
assertions_are templates [] = refl
assertions_are templates (t ∷ forms) = ap (λ ts. assertion (fact_of templates t) ∷ ts) (assertions_are templates forms)

pub asserts : (templates : Templates) (forms : List Tree) → expr_of templates (list_of (codes "assert") (trees_of forms)) ≡ actions (terms (map (λ t. assertion (fact_of templates t)) forms))
unfolding head_of
asserts templates forms = ap (λ ts. actions (terms ts)) (assertions_are templates forms)

pub has_fields : (templates : Templates) (relation : List ℕ) (forms : List Tree) → slots_of templates relation ≡ None
    → fact_of templates (list_of relation (trees_of forms)) ≡ record { shape = record { relation = relation; slots = None }; values = terms (map (expr_of templates) forms) }
has_fields templates relation forms h =
    ap (λ o. fact_with relation o (exprs_of templates (trees_of forms)) (slot_names (trees_of forms)) (λ slots. slot_exprs templates slots (trees_of forms))) h
    ∙ ap (λ ts. record { shape = record { relation = relation; slots = None }; values = terms ts }) (exprs_are templates forms)

pub single_given : (s : SlotShape) (t : Term) → s.is_multi ≡ false → slot_expr (Some s) (t ∷ []) ≡ t
single_given s t h = ap (λ b. if b then call function.Create (terms (t ∷ [])) else t) h

pub multi_given : (s : SlotShape) (ts : List Term) → s.is_multi ≡ true → slot_expr (Some s) ts ≡ call function.Create (terms ts)
multi_given s ts h = ap (λ b. if b then call function.Create (terms ts) else one_of ts) h

pub retracts : (templates : Templates) (t : Tree) (forms : List Tree) → expr_of templates (list_of (codes "retract") (trees_of (t ∷ forms))) ≡ effect kind.Retract (terms (map (expr_of templates) (t ∷ forms)))
unfolding head_of
retracts templates t forms = ap (λ ts. effect kind.Retract (terms (expr_of templates t ∷ ts))) (exprs_are templates forms)

-- slots as they are written
abbrev slot_forms : List (List ℕ × List Tree) → Trees
slot_forms given = trees_of (map (λ g. list_of g.0 (trees_of g.1)) given)

-- what each is given
abbrev slot_terms : Templates → List SlotShape → List (List ℕ × List Tree) → List (List ℕ × Term)
slot_terms templates slots given = map (λ g. (g.0, slot_expr (slot_named slots g.0) (map (expr_of templates) g.1))) given

names_are : (templates : Templates) (slots : List SlotShape) (given : List (List ℕ × List Tree)) → slot_names (slot_forms given) ≡ map (λ g. g.0) (slot_terms templates slots given)
names_are templates slots [] = refl
names_are templates slots (g ∷ given) = ap (λ ns. g.0 ∷ ns) (names_are templates slots given)

values_are : (templates : Templates) (slots : List SlotShape) (given : List (List ℕ × List Tree)) → slot_exprs templates slots (slot_forms given) ≡ map (λ g. g.1) (slot_terms templates slots given)
values_are templates slots [] = refl
values_are templates slots (g ∷ given) = ap₂ (λ ts us. slot_expr (slot_named slots g.0) ts ∷ us) (exprs_are templates g.1) (values_are templates slots given)

pub gives_slots : (templates : Templates) (relation : List ℕ) (slots : List SlotShape) (given : List (List ℕ × List Tree)) → slots_of templates relation ≡ Some slots
    → fact_of templates (list_of relation (slot_forms given)) ≡ fact_giving relation (slot_terms templates slots given)
gives_slots templates relation slots given h =
    ap (λ o. fact_with relation o (exprs_of templates (slot_forms given)) (slot_names (slot_forms given)) (λ them. slot_exprs templates them (slot_forms given))) h
    ∙ ap₂ (λ names ts. record { shape = record { relation = relation; slots = Some names }; values = terms ts }) (names_are templates slots given) (values_are templates slots given)

-- a `deftemplate`
module _ (s : State) (forms : Trees) where
  abbrev item : Reading
  item = Ok (list_of (codes "deftemplate") forms)

  abbrev faults : List Fault
  faults = template_faults (is_in_use s.world.memory s.world.rules s.deffacts) forms

  asks : requested s item ≡ ok_then asked.define_template (unless_faulty faults (template_shape forms))
  unfolding head_of
  asks = refl

  defines : faults ≡ [] → executed s item ≡ record { state = record s { world = record s.world { templates = with_template s.world.templates (template_shape forms) } }; written = []; status = None }
  defines h = executed_by s item (Ok (asked.define_template (template_shape forms))) (asks ∙ ap (λ fs. ok_then asked.define_template (unless_faulty fs (template_shape forms))) h)

  pub template_defined_so : faults ≡ [] → Defines s.world.templates forms (executed s item).state.world.templates
  template_defined_so h =
      subst (λ (run : Run). Defines s.world.templates forms run.state.world.templates) (sym (defines h)) (is_defined s.world.templates (is_in_use s.world.memory s.world.rules s.deffacts) forms h)

  pub template_only : faults ≡ [] → (executed s item).state ≡ record s { world = record s.world { templates = (executed s item).state.world.templates } }
  template_only h = subst (λ (run : Run). run.state ≡ record s { world = record s.world { templates = run.state.world.templates } }) (sym (defines h)) refl

  pub template_quiet : faults ≡ [] → (executed s item).written ≡ []
  template_quiet h = ap (λ run. run.written) (defines h)

  pub template_fault : (f : Fault) → first_of faults ≡ Some f → ((executed s item).state.world ≡ s.world) × ((executed s item).written ≡ fault_line f)
  template_fault f h =
      let is = executed_by s item (Err f) (asks ∙ ap (ok_then asked.define_template) (first_read faults (template_shape forms) f h)) in
      (ap (λ run. run.state.world) is, ap (λ run. run.written) is)
