-- Whatever a script does, facts and templates stay well kept, no more firings are left than there may be, and no match is due twice.
use Rattle.std.proofs.Common.{◌≡◌, ◌≤◌, ◌∙◌, ◌++◌, ◌||◌, ℕ, Bool, true, false, not, List, [], ◌∷◌, Option, Some, None, Result, Ok, Err, refl, ap, arith, rules, subst, sym, if◌then◌else◌}
use Rattle.std.specs.List.{list_any}
use Rattle.std.specs.Str.{bytes_eq}
use Rattle.cb_actions.specs.Acts.{Act, Effect, give_or_fault, ◌>>=◌}
use Rattle.cb_actions.specs.Definitions.{all_asserted, all_evaluated}
use Rattle.cb_actions.specs.Runs.{restarted_world}
use Rattle.cb_actions.specs.Worlds.{World}
use Rattle.cb_actions.specs.declared.act.EarlyEnd.{EarlyEnd}
use Rattle.cb_actions.specs.declared.act.EarlyEnd.TheVariants as ended
use Rattle.cb_agenda.specs.declared.strategy.Strategy.TheVariants.{Depth}
use Rattle.cb_actions.specs.declared.act.Limit.TheVariants.{Firings, Numbers, Turns}
use Rattle.cb_exprs.specs.FactTerms.{FactTerm}
use Rattle.cb_exprs.specs.GlobalTerms.{GlobalTerm}
use Rattle.cb_facts.specs.Results.{ok_then}
use Rattle.cb_facts.specs.declared.value.Value.{Value}
use Rattle.cb_forms.specs.Items.{fitting, over, whole}
use Rattle.cb_forms.specs.Members.{call_of, head_and_rest}
use Rattle.cb_forms.specs.Trees.{Reading, Tree, Trees}
use Rattle.cb_forms.specs.declared.fault.Fault.{Fault}
use Rattle.cb_forms.specs.declared.fault.Fault.TheVariants.{MalformedForm, TemplateInUse}
use Rattle.cb_knowledge_base.specs.Deffacts.{kept_facts, is_named_in_deffacts}
use Rattle.cb_knowledge_base.specs.KnowledgeBase.{greatest_index}
use Rattle.cb_laws.proofs.DefaultLaws.{slots_suit}
use Rattle.cb_laws.proofs.DefinedLaws.{other_template, put_template}
use Rattle.cb_laws.proofs.DueLaws.{due_kept}
use Rattle.cb_laws.proofs.ExpressionLaws.{anew_keeps, expression_keeps, facts_keep, globals_keep}
use Rattle.cb_laws.proofs.Keeping.{After, Keeps, after_kept, follow_keeps, keeps_then}
use Rattle.cb_laws.proofs.ReachedLaws.{defined_kept, none_kept, not_first}
use Rattle.cb_laws.proofs.SlotFormLaws.{each_slot}
use Rattle.cb_laws.proofs.WorldLaws.{HasAtMost, HasProperAgenda, IsKeptByAll, WellKept, agenda_kept, clear_keeps, exited_keeps, firings_kept, no_templates, none_due, ran_as_keeps, restart_keeps, rule_keeps, undefined_keeps, well_kept}
use Rattle.cb_laws.specs.Firing.{AreMatches, IsProper}
use Rattle.cb_laws.specs.Reached.{AreWellKept, IsTemplate}
use Rattle.cb_expr_forms.specs.Scopes.{Scope}
use Rattle.cb_requests.specs.Arguments.{optional_in}
use Rattle.cb_requests.specs.Reads.{expr_in, top_scope}
use Rattle.cb_requests.specs.Requests as asked
use Rattle.cb_requests.specs.Requests.{Request, act_request, called_request, command_request, construct_request, headed_request}
use Rattle.cb_requests.specs.Uses.{is_in_use, is_named_in_rules}
use Rattle.cb_session.proofs.DeedLaws.{OfItsAct}
use Rattle.cb_session.specs.Actions.{acted, deed_of, performed, performed_and_shown, requested, reset_to, shown, variables_dropped}
use Rattle.cb_session.specs.Deeds.{Deed, acts, acts_and_keeps, done, keep, keeps, lists, on_world, sets, settings_of}
use Rattle.cb_session.specs.Setups.{Setup}
use Rattle.cb_session.specs.States.{State, first_state}
use Rattle.cb_session.specs.Transcripts.{Run, after, after_all, after_status, begun, complete, concluded, executed, so_far, too_long, too_long_status}
use Rattle.cb_session.specs.declared.status.Status.{Status}
use Rattle.cb_facts.specs.FaultLists.{unless, unless_faulty}
use Rattle.cb_words.specs.Reserved.{is_reserved}
use Rattle.cb_templates.specs.Slots.{SlotShape}
use Rattle.cb_templates.specs.TemplateFaults.{named_template_faults, slots_form_faults}
use Rattle.cb_templates.specs.TemplateShapes.{slots_said, template_said}
use Rattle.cb_templates.specs.Internal.{slots_after}
use Rattle.cb_templates.specs.Templates.{with_template, without_comment}
use Rattle.cb_templates.proofs.TemplateFaultLaws.{slots_said_so}
use Rattle.cb_words.specs.Words.{head_of}
use Rattle.cb_words.specs.declared.words.Command.{Command as Word}
use Rattle.cb_words.specs.declared.words.Command.TheVariants as word
use Rattle.cb_words.specs.declared.words.Construct.{Construct}
use Rattle.cb_words.specs.declared.words.Construct.TheVariants as construct
use Rattle.cb_words.specs.declared.words.Head.{Head}
use Rattle.cb_words.specs.declared.words.Head.TheVariants as head

-- the facts and the templates of a state are well kept
abbrev Kept : State → Type 0
Kept s = AreWellKept s.world.memory s.world.templates

-- slots that are read make a template
right_template : (forms : Trees) → slots_form_faults [] forms ≡ [] → IsTemplate (slots_said forms)
right_template forms h =
    let read : slots_after [] forms ≡ Ok (slots_said forms) = slots_said_so forms ∙ ap (λ fs. unless_faulty fs (slots_said forms)) h in
    let each = (each_slot forms (slots_said forms)).0 read in
    record { differ = each.1; defaults = slots_suit forms (slots_said forms) each.0 }

-- a request as it is read in a state: a template has right slots, and its relation is not in use
abbrev IsSound : State → Request → Type 0
IsSound s (asked.define_template template) = IsTemplate template.1 × (is_in_use s.world.memory s.world.rules s.deffacts template.0 ≡ false)
IsSound s request = Unit {0}

abbrev IfSound : State → Result Request Fault → Type 0
IfSound s (Ok request) = IsSound s request
IfSound s (Err f) = Unit {0}

module _ (s : State) where
  -- what is no template
  other_sound : {A : Type 0} (ask : A → Request) (r : Result A Fault) → ((a : A) → IsSound s (ask a)) → IfSound s (ok_then ask r)
  other_sound ask (Ok a) h = h a
  other_sound ask (Err f) h = tt

  act_sound : (t : Tree) → IfSound s (act_request s.world.templates s.world.env t)
  act_sound t = other_sound asked.act (expr_in (top_scope s.world.templates s.world.env t) t) (λ e. tt)

  template_sound : (o : Option (List ℕ × Trees)) → IfSound s (ok_then asked.define_template (unless_faulty (named_template_faults (is_in_use s.world.memory s.world.rules s.deffacts) o) (template_said o)))
  template_sound None = tt
  template_sound (Some (name, ts)) = by (is_reserved name) (is_in_use s.world.memory s.world.rules s.deffacts name) refl (slots_form_faults [] (without_comment ts)) refl
    where
      by : (reserved used : Bool) → is_in_use s.world.memory s.world.rules s.deffacts name ≡ used → (fs : List Fault) → slots_form_faults [] (without_comment ts) ≡ fs
          → IfSound s (ok_then asked.define_template (unless_faulty (unless (not reserved) MalformedForm ++ (unless (not used) TemplateInUse ++ fs)) (name, slots_said (without_comment ts))))
      by true used free fs is = tt
      by false true free fs is = tt
      by false false free [] is = (right_template (without_comment ts) is, free)
      by false false free (f ∷ fs) is = tt

  construct_sound : (c : Construct) (ts : Trees) → IfSound s (construct_request s.world.templates s.world.env (is_in_use s.world.memory s.world.rules s.deffacts) c ts)
  construct_sound construct.Deftemplate ts = template_sound (head_and_rest ts)
  construct_sound c ts = search rules

  command_sound : (scope : Scope) (w : Word) (ts : Trees) → IfSound s (command_request scope w ts)
  command_sound scope word.Run ts = other_sound asked.run (optional_in scope ts) (λ t. tt)
  command_sound scope w ts = search rules

  headed_sound : (t : Tree) (h : Option Head) (ts : Trees) → IfSound s (headed_request s.world.templates s.world.env (is_in_use s.world.memory s.world.rules s.deffacts) t h ts)
  headed_sound t None ts = act_sound t
  headed_sound t (Some (head.Construct name)) ts = construct_sound name ts
  headed_sound t (Some (head.Command name)) ts = command_sound (top_scope s.world.templates s.world.env t) name ts
  headed_sound t (Some (head.Action action)) ts = act_sound t
  headed_sound t (Some (head.Function function)) ts = act_sound t
  headed_sound t (Some head.Refused) ts = act_sound t

  called_sound : (t : Tree) (o : Option (List ℕ × Trees)) → IfSound s (called_request s.world.templates s.world.env (is_in_use s.world.memory s.world.rules s.deffacts) t o)
  called_sound t None = act_sound t
  called_sound t (Some (name, ts)) = headed_sound t (head_of name) ts

  sound : (r : Reading) → IfSound s (requested s r)
  sound (Ok t) = called_sound t (call_of t)
  sound (Err f) = tt

-- A template is defined only for a relation that no fact has.
template_keeps : (s : State) (template : List ℕ × List SlotShape) → IsSound s (asked.define_template template) → Kept s → Kept (performed (asked.define_template template) s).state
template_keeps s (name, slots) (right, free) h =
    defined_kept s.world.memory s.world.templates (with_template s.world.templates (name, slots)) name slots h right (put_template s.world.templates name slots) (λ other n. other_template s.world.templates name other slots n)
    (not_first (list_any (λ entry. bytes_eq entry.1.relation name) s.world.memory.network.facts) (is_named_in_rules name s.world.rules || is_named_in_deffacts name s.deffacts) free)

-- What holds of the world is kept by every script, if every template keeps it that is read.
module _ (P Q : World → Type 0) (kept : IsKeptByAll P Q)
    (templates : (s : State) (r : Reading) (template : List ℕ × List SlotShape) → requested s r ≡ Ok (asked.define_template template) → P s.world → P (performed (asked.define_template template) s).state.world) where
  abbrev InWorld : State → Type 0
  InWorld s = P s.world

  abbrev AtLimit : State → Type 0
  AtLimit s = Q s.world

  -- of a script that goes on the one, and of one that has ended the other
  abbrev pub Lasts : Option Status → State → Type 0
  Lasts None s = InWorld s
  Lasts (Some status) s = AtLimit s

  reset_keeps : (gs : List GlobalTerm) (facts : List FactTerm) → Keeps P Q (reset_to gs facts)
  reset_keeps gs facts =
      keeps_then P Q (all_evaluated gs) (λ _. variables_dropped >>= (λ _. restarted_world >>= (λ _. all_asserted facts))) (anew_keeps P Q kept.acts gs)
      (λ _. keeps_then P Q variables_dropped (λ _. restarted_world >>= (λ _. all_asserted facts)) (λ w h. kept.acts.env w (record { variables = []; globals = w.env.globals }) h)
      (λ _. keeps_then P Q restarted_world (λ _. all_asserted facts) (restart_keeps P Q kept) (λ _. facts_keep P Q kept.acts facts)))

  -- what holds after an act on the world
  abbrev HoldsAfter : Act World (Option Value) → World → Type 0
  HoldsAfter act w = After P Q (act w).state (act w).answer

  -- the acts on the world that requests are made of
  acts_keep : (s : State) (request : Request) → ((template : List ℕ × List SlotShape) → request ≡ asked.define_template template → P (performed (asked.define_template template) s).state.world) → P s.world
      → OfItsAct HoldsAfter s (deed_of request)
  acts_keep s (asked.act t) template h = expression_keeps P Q kept.acts t s.world h
  acts_keep s (asked.define_template it) template h = template it refl
  acts_keep s (asked.define_globals gs) template h = globals_keep P Q kept.acts gs s.world h
  acts_keep s (asked.define_rule rule) template h = rule_keeps P Q kept rule s.world h
  acts_keep s asked.reset template h = reset_keeps s.globals (kept_facts s.deffacts) s.world h
  acts_keep s asked.clear template h = clear_keeps P Q kept s.world h
  acts_keep s (asked.run count) template h = ran_as_keeps P Q kept count s.world h
  acts_keep s (asked.exit status) template h = exited_keeps P Q kept status s.world h
  acts_keep s (asked.undefine name) template h = undefined_keeps P Q kept name s.world h
  acts_keep s request template h = tt

  deed_keeps : (s : State) (deed : Deed) → P s.world → OfItsAct HoldsAfter s deed → After InWorld AtLimit (done deed s).state (done deed s).answer
  deed_keeps s (lists lines) h act_keeps = h
  deed_keeps s (keeps change) h act_keeps = h
  deed_keeps s (sets act only) h act_keeps =
      after_kept P Q (act s.world).state (act s.world).answer kept.acts.weaken (subst P (sym (only s.world)) (kept.sets s.world (settings_of (act s.world).state) h))
  deed_keeps s (acts act) h act_keeps = act_keeps
  deed_keeps s (acts_and_keeps act change) h act_keeps =
      let first : Effect State (Option Value) = on_world act s in
      follow_keeps InWorld AtLimit first.state first.written first.answer (λ _. keep change) act_keeps (λ _ u k. k)

  performed_keeps : (s : State) (request : Request) → ((template : List ℕ × List SlotShape) → request ≡ asked.define_template template → P (performed (asked.define_template template) s).state.world) → P s.world → After InWorld AtLimit (performed request s).state (performed request s).answer
  performed_keeps s request template h = deed_keeps s (deed_of request) h (acts_keep s request template h)

  acted_keeps : (r : Reading) → Keeps InWorld AtLimit (acted r)
  unfolding acted
  acted_keeps r s h = by (requested s r) refl
    where
      by : (request : Result Request Fault) → requested s r ≡ request → After InWorld AtLimit ((give_or_fault request >>= performed_and_shown) s).state ((give_or_fault request >>= performed_and_shown) s).answer
      by (Ok request) is =
          follow_keeps InWorld AtLimit (performed request s).state (performed request s).written (performed request s).answer shown
          (performed_keeps s request (λ template e. templates s r template (is ∙ ap Ok e) h) h) (λ v u k. k)
      by (Err f) is = h

  concluded_keeps : (s : State) (w : List ℕ) (r : Result (Unit {0}) EarlyEnd) → After InWorld AtLimit s r → Lasts (concluded s w r).status (concluded s w r).state
  concluded_keeps s w (Ok v) h = h
  concluded_keeps s w (Err (ended.Fault f)) h = h
  concluded_keeps s w (Err (ended.FaultIn f id)) h = h
  concluded_keeps s w (Err (ended.Limit Numbers)) h = h
  concluded_keeps s w (Err (ended.Limit Firings)) h = kept.acts.weaken s.world h
  concluded_keeps s w (Err (ended.Limit Turns)) h = kept.acts.weaken s.world h
  concluded_keeps s w (Err (ended.Exit code)) h = kept.acts.weaken s.world h

  pub item_keeps : (s : State) (r : Reading) → InWorld s → Lasts (executed s r).status (executed s r).state
  unfolding executed
  item_keeps s r h = concluded_keeps (acted r s).state (acted r s).written (acted r s).answer (acted_keeps r s h)

  -- items, one after another
  status_keeps : (status : Option Status) (run : Run) (item : Reading) → run.status ≡ status → Lasts run.status run.state → Lasts (after_status status run item).status (after_status status run item).state
  status_keeps None run item e h = item_keeps run.state item (subst (λ o. Lasts o run.state) e h)
  status_keeps (Some status) run item e h = h

  items_keep : (run : Run) (items : List Reading) → Lasts run.status run.state → Lasts (after_all run items).status (after_all run items).state
  items_keep run [] h = h
  items_keep run (item ∷ items) h = items_keep (after run item) items (status_keeps run.status run item refl h)

  long_keeps : (status : Option Status) (run : Run) → run.status ≡ status → Lasts run.status run.state → Lasts (too_long_status status run).status (too_long_status status run).state
  long_keeps None run e h = kept.acts.weaken run.state.world (subst (λ o. Lasts o run.state) e h)
  long_keeps (Some status) run e h = h

  module _ (setup : Setup) (first : P (first_state setup).world) where
    abbrev run_by : Bool → List Reading → List Reading → Run
    run_by b some all = if b then too_long (after_all (begun setup) some) else after_all (begun setup) all

    run_keeps : (b : Bool) (some all : List Reading) → Lasts (run_by b some all).status (run_by b some all).state
    run_keeps true some all = long_keeps (after_all (begun setup) some).status (after_all (begun setup) some) refl (items_keep (begun setup) some first)
    run_keeps false some all = items_keep (begun setup) all first

    pub so_far_kept : (p : List ℕ) → Lasts (so_far setup p).status (so_far setup p).state
    unfolding so_far
    so_far_kept p = run_keeps (over setup.max_form p) (fitting setup.max_form p) (whole p)

    pub script_kept : (s : List ℕ) → Lasts (complete setup s).status (complete setup s).state
    unfolding complete
    script_kept s = run_keeps (over setup.max_form s) (fitting setup.max_form s) (fitting setup.max_form s)

-- where it makes no difference whether the script has ended
module _ (P : World → Type 0) (kept : IsKeptByAll P P)
    (templates : (s : State) (r : Reading) (template : List ℕ × List SlotShape) → requested s r ≡ Ok (asked.define_template template) → P s.world → P (performed (asked.define_template template) s).state.world) where
  whatever : (o : Option Status) (s : State) → Lasts P P kept templates o s → P s.world
  whatever None s h = h
  whatever (Some status) s h = h

  pub item_always : (s : State) (r : Reading) → P s.world → P (executed s r).state.world
  item_always s r h = whatever (executed s r).status (executed s r).state (item_keeps P P kept templates s r h)

  pub so_far_always : (setup : Setup) → P (first_state setup).world → (p : List ℕ) → P (so_far setup p).state.world
  so_far_always setup first p = whatever (so_far setup p).status (so_far setup p).state (so_far_kept P P kept templates setup first p)

  pub script_always : (setup : Setup) → P (first_state setup).world → (s : List ℕ) → P (complete setup s).state.world
  script_always setup first s = whatever (complete setup s).status (complete setup s).state (script_kept P P kept templates setup first s)

-- facts and templates
template_read : (s : State) (r : Reading) (template : List ℕ × List SlotShape) → requested s r ≡ Ok (asked.define_template template) → Kept s → Kept (performed (asked.define_template template) s).state
template_read s r template e h = template_keeps s template (subst (IfSound s) e (sound s r)) h

pub item_well : (s : State) (r : Reading) → Kept s → Kept (executed s r).state
item_well s r h = item_always WellKept well_kept template_read s r h

pub so_far_well : (setup : Setup) (p : List ℕ) → setup.index ≤ greatest_index → Kept (so_far setup p).state
so_far_well setup p below = so_far_always WellKept well_kept template_read setup (none_kept [] setup.index setup.rule [] below no_templates) p

pub script_well : (setup : Setup) (s : List ℕ) → setup.index ≤ greatest_index → Kept (complete setup s).state
script_well setup s below = script_always WellKept well_kept template_read setup (none_kept [] setup.index setup.rule [] below no_templates) s

-- firings
pub so_far_within : (setup : Setup) (p : List ℕ) → (so_far setup p).state.world.firings ≤ setup.max_firings
so_far_within setup p = so_far_always (HasAtMost setup.max_firings) (firings_kept setup.max_firings) (λ s r template e h. h) setup (omega arith) p

pub script_within : (setup : Setup) (s : List ℕ) → (complete setup s).state.world.firings ≤ setup.max_firings
script_within setup s = script_always (HasAtMost setup.max_firings) (firings_kept setup.max_firings) (λ s r template e h. h) setup (omega arith) s

-- the agenda
pub so_far_proper : (setup : Setup) (p : List ℕ) → IsProper (so_far setup p).state.world.agenda
so_far_proper setup p = so_far_always HasProperAgenda agenda_kept (λ s r template e h. h) setup (none_due setup.stamp Depth false) p

pub script_proper : (setup : Setup) (s : List ℕ) → IsProper (complete setup s).state.world.agenda
script_proper setup s = script_always HasProperAgenda agenda_kept (λ s r template e h. h) setup (none_due setup.stamp Depth false) s

-- what is due
pub so_far_matches : (setup : Setup) (p : List ℕ) → (so_far setup p).status ≡ None → AreMatches (so_far setup p).state.world
so_far_matches setup p e =
    subst (λ o. Lasts AreMatches (λ _. Unit {0}) due_kept (λ s r template e h. h) o (so_far setup p).state) e (so_far_kept AreMatches (λ _. Unit {0}) due_kept (λ s r template e h. h) setup (λ k due. absurd (cc)) p)
