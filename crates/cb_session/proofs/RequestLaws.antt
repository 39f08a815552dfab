-- What each request leaves: the definitions where it ends with a fault, and no more turns than there were.
use Rattle.std.proofs.Common.{◌≡◌, List, Some, Result, Ok, Err, arith, refl}
use Rattle.cb_actions.specs.Internal.{Falls, turns_left}
use Rattle.cb_actions.specs.Acts.{Effect, become, fault_of, give_or_fault, ◌>>=◌}
use Rattle.cb_actions.specs.Definitions.{all_asserted, all_evaluated}
use Rattle.cb_actions.specs.Runs.{restarted_world}
use Rattle.cb_actions.proofs.FallLaws.{falls_then}
use Rattle.cb_actions.proofs.TurnLaws.{anew_falls, clear_falls, facts_fall, globals_fall, never_rises, restart_falls, template_falls}
use Rattle.cb_exprs.specs.Bindings.{Bindings}
use Rattle.cb_exprs.specs.FactTerms.{FactTerm}
use Rattle.cb_exprs.specs.GlobalTerms.{GlobalTerm}
use Rattle.cb_forms.specs.declared.fault.Fault.{Fault}
use Rattle.cb_knowledge_base.specs.Deffacts.{kept_facts}
use Rattle.cb_requests.specs.Requests as asked
use Rattle.cb_requests.specs.Requests.{Request}
use Rattle.cb_session.proofs.CommandTurns.{exited_falls, ran_falls, rule_defined_falls, undefined_falls}
use Rattle.cb_session.proofs.DeedLaws.{OfItsAct, Takes, deed_falls, deed_keeps, left}
use Rattle.cb_session.specs.Actions.{deed_of, initials_kept, performed, reset_to, variables_dropped}
use Rattle.cb_session.specs.Deeds.{keep, on_world}
use Rattle.cb_session.specs.Laws.{KeepsDefinitions}
use Rattle.cb_session.specs.States.{State}

-- an effect that ends with a fault leaves this state
abbrev pub FaultLeaves : {A : Type 0} → State → Effect State A → Type 0
FaultLeaves s m = (f : Fault) → fault_of m.answer ≡ Some f → m.state ≡ s

-- globals, by the bindings after them
pub globals_leave : (s : State) (gs : List GlobalTerm) (told : Result Bindings Fault)
    → FaultLeaves s ((on_world (λ v. (give_or_fault told >>= (λ env. become (record v { env = env }))) v) >>= (λ _. keep (initials_kept gs))) s)
globals_leave s gs (Ok env) f h = absurd (cc)
globals_leave s gs (Err e) f h = refl

-- a request that ends with a fault leaves the definitions as they are
pub performed_keeps : (s : State) (request : Request) (f : Fault) → fault_of (performed request s).answer ≡ Some f → KeepsDefinitions s (performed request s).state
performed_keeps s request f h = deed_keeps s (deed_of request) f h

reset_falls : (gs : List GlobalTerm) (facts : List FactTerm) → Falls turns_left (reset_to gs facts)
reset_falls gs facts =
    falls_then turns_left (all_evaluated gs) (λ _. variables_dropped >>= (λ _. restarted_world >>= (λ _. all_asserted facts))) (anew_falls gs)
    (λ _. falls_then turns_left variables_dropped (λ _. restarted_world >>= (λ _. all_asserted facts)) (λ s. omega arith)
    (λ _. falls_then turns_left restarted_world (λ _. all_asserted facts) restart_falls (λ _. facts_fall facts)))

-- the acts on the world that requests are made of
acts_fall : (s : State) (request : Request) → OfItsAct Takes s (deed_of request)
acts_fall s (asked.act t) = never_rises t s.world
acts_fall s (asked.define_template template) = template_falls template s.world
acts_fall s (asked.define_globals gs) = globals_fall gs s.world
acts_fall s (asked.define_rule rule) = rule_defined_falls rule s.world
acts_fall s asked.reset = reset_falls s.globals (kept_facts s.deffacts) s.world
acts_fall s asked.clear = clear_falls s.world
acts_fall s (asked.run count) = ran_falls count s.world
acts_fall s (asked.exit status) = exited_falls status s.world
acts_fall s (asked.undefine name) = undefined_falls name s.world
acts_fall s request = tt

-- a request takes turns, and gives none back
pub performed_falls : (request : Request) → Falls left (performed request)
performed_falls request s = deed_falls s (deed_of request) (acts_fall s request)
