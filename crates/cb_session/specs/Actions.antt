-- What the requests of a script do.
use Rattle.std.specs.Prelude.{ℕ, List, [], Option, Some, None, Result, Ok, Err, refl}
use Rattle.cb_actions.specs.Actions.{carried}
use Rattle.cb_actions.specs.Acts.{Act, give_or_fault, become, ◌>>=◌}
use Rattle.cb_actions.specs.Commands.{exited, ran_as, rule_defined, strategy_set, undefined, watch_set}
use Rattle.cb_actions.specs.Definitions.{all_asserted, all_evaluated, globals_defined, template_defined}
use Rattle.cb_actions.specs.Runs.{cleared_world, restarted_world}
use Rattle.cb_actions.specs.Worlds.{World, without_variables}
use Rattle.cb_actions.specs.declared.act.EarlyEnd.{EarlyEnd}
use Rattle.cb_agenda.specs.Agendas.{agenda_list}
use Rattle.cb_exprs.specs.FactTerms.{FactTerm}
use Rattle.cb_exprs.specs.GlobalTerms.{GlobalTerm}
use Rattle.cb_facts.specs.declared.value.Value.{Value}
use Rattle.cb_forms.specs.Trees.{Reading}
use Rattle.cb_forms.specs.declared.fault.Fault.{Fault}
use Rattle.cb_knowledge_base.specs.Deffacts.{kept_facts, with_deffacts}
use Rattle.cb_knowledge_base.specs.Globals.{with_initials}
use Rattle.cb_requests.specs.Requests as request
use Rattle.cb_requests.specs.Requests.{Request, request_of}
use Rattle.cb_requests.specs.Uses.{is_in_use}
use Rattle.cb_session.specs.Deeds.{Deed, Definitions, acts, acts_and_keeps, done, keeps, lists, no_definitions, sets}
use Rattle.cb_session.specs.Lines.{value_line}
use Rattle.cb_session.specs.Listings.{agenda_lines, fact_lines, rule_lines}
use Rattle.cb_session.specs.States.{State}

-- what an item asks for, by the templates and the values that there are and the relations in use, or its first fault
abbrev pub requested : State → Reading → Result Request Fault
requested s r = request_of s.world.templates s.world.env (is_in_use s.world.memory s.world.rules s.deffacts) r

-- globals have these initial expressions now
abbrev pub initials_kept : List GlobalTerm → Definitions → Definitions
initials_kept gs definitions = record definitions { globals = with_initials gs definitions.globals }

-- facts are kept under a name now
abbrev pub facts_kept : List ℕ → List FactTerm → Definitions → Definitions
facts_kept name facts definitions = record definitions { deffacts = with_deffacts definitions.deffacts name facts }

-- no variable has a value
abbrev pub variables_dropped : Act World (Option Value)
variables_dropped w = become (without_variables w) w

-- Each global is given its initial value anew, one after another; then the variables are dropped; then the facts go, and the
-- matches over no facts come; and then these facts are asserted, under indices from 1.
abbrev pub reset_to : List GlobalTerm → List FactTerm → Act World (Option Value)
reset_to gs facts = all_evaluated gs >>= (λ _. variables_dropped >>= (λ _. restarted_world >>= (λ _. all_asserted facts)))

-- an answer that is no value
abbrev pub valueless : {A : Type 0} → Result A EarlyEnd → Result (Option Value) EarlyEnd
valueless (Ok a) = Ok None
valueless (Err e) = Err e

-- the world is cleared
abbrev pub world_cleared : Act World (Option Value)
world_cleared w =
    let cleared = cleared_world w in
    record { state = cleared.state; written = cleared.written; answer = valueless cleared.answer }

-- What a request does: the one place that says so for each.
abbrev pub deed_of : Request → Deed
deed_of (request.act t) = acts (λ _. carried t)
deed_of (request.define_template template) = acts (λ _. template_defined template)
deed_of (request.define_deffacts name facts) = keeps (facts_kept name facts)
deed_of (request.define_globals gs) = acts_and_keeps (globals_defined gs) (initials_kept gs)
deed_of (request.define_rule rule) = acts (λ _. rule_defined rule)
deed_of request.list_facts = lists (λ s. fact_lines s.world.memory.network.facts)
deed_of request.list_agenda = lists (λ s. agenda_lines s.world.rules (agenda_list s.world.agenda))
deed_of request.list_rules = lists (λ s. rule_lines s.world.rules)
deed_of request.reset = acts (λ definitions. reset_to definitions.globals (kept_facts definitions.deffacts))
deed_of request.clear = acts_and_keeps world_cleared (λ _. no_definitions)
deed_of (request.run count) = acts (λ _. ran_as count)
deed_of (request.exit status) = acts (λ _. exited status)
deed_of (request.undefine name) = acts (λ _. undefined name)
deed_of (request.watch item on) = sets (watch_set item on) (λ _. refl)
deed_of (request.set_strategy strategy) = sets (strategy_set strategy) (λ _. refl)

-- a request is done; its value, if it has one, is the answer
abbrev pub performed : Request → Act State (Option Value)
performed request = done (deed_of request)

-- the line of the value of an item, if it has one
abbrev pub shown_line : Option Value → List ℕ
shown_line None = []
shown_line (Some v) = value_line v

-- the value of an item is shown
abbrev pub shown : Option Value → Act State (Unit {0})
shown v s = record { state = s; written = shown_line v; answer = Ok tt }

-- a request is done, and then its value is shown
abbrev pub performed_and_shown : Request → Act State (Unit {0})
performed_and_shown request = performed request >>= shown

-- an item: its request is read and done, and its value is shown
unfoldable pub acted : Reading → Act State (Unit {0})
acted r s = (give_or_fault (requested s r) >>= performed_and_shown) s
