-- What an item that ends with a fault leaves as it was.
use Rattle.std.proofs.Common.{◌≡◌, ◌∙◌, ℕ, true, List, Option, Some, Result, Ok, Err, refl, sym, ap, subst}
use Rattle.cb_actions.specs.Acts.{Effect, fault_of, give_or_fault, follow, ◌>>=◌}
use Rattle.cb_actions.specs.Definitions.{globals_after}
use Rattle.cb_actions.specs.declared.act.EarlyEnd.{EarlyEnd}
use Rattle.cb_actions.specs.declared.act.EarlyEnd.TheVariants as ended
use Rattle.cb_exprs.specs.GlobalTerms.{GlobalTerm}
use Rattle.cb_facts.specs.declared.value.Value.{Value}
use Rattle.cb_forms.specs.Trees.{Reading}
use Rattle.cb_forms.specs.declared.fault.Fault.{Fault}
use Rattle.cb_requests.specs.Requests as asked
use Rattle.cb_requests.specs.Requests.{Request}
use Rattle.cb_session.proofs.RequestLaws.{FaultLeaves, globals_leave, performed_keeps}
use Rattle.cb_session.specs.Actions.{acted, deed_of, performed, performed_and_shown, requested, shown}
use Rattle.cb_session.specs.Deeds.{Deed, done, lists}
use Rattle.cb_session.specs.Laws.{EndsWithFault, KeepsDefinitions}
use Rattle.cb_session.specs.States.{State}
use Rattle.cb_session.specs.Transcripts.{Run, concluded, executed}
use Rattle.cb_templates.specs.Slots.{SlotShape}

-- what an item does, by its request or the fault of it
abbrev item_done : State → Result Request Fault → Effect State (Unit {0})
item_done s request = (give_or_fault request >>= performed_and_shown) s

abbrev run_of : Effect State (Unit {0}) → Run
run_of m = concluded m.state m.written m.answer

-- the line of a value changes no state and has no fault
shown_state : (s : State) (w : List ℕ) (r : Result (Option Value) EarlyEnd) → (follow s w r shown).state ≡ s
shown_state s w (Ok v) = refl
shown_state s w (Err e) = refl

shown_fault : (s : State) (w : List ℕ) (r : Result (Option Value) EarlyEnd) (f : Fault) → fault_of (follow s w r shown).answer ≡ Some f → fault_of r ≡ Some f
shown_fault s w (Ok v) f h = absurd (cc)
shown_fault s w (Err e) f h = h

done_state : (s : State) (request : Request) → (item_done s (Ok request)).state ≡ (performed request s).state
done_state s request = shown_state (performed request s).state (performed request s).written (performed request s).answer

done_fault : (s : State) (request : Request) (f : Fault) → fault_of (item_done s (Ok request)).answer ≡ Some f → fault_of (performed request s).answer ≡ Some f
done_fault s request f h = shown_fault (performed request s).state (performed request s).written (performed request s).answer f h

-- at a fault the mark is all that the item's line adds
marked_by : (s : State) (w : List ℕ) (r : Result (Unit {0}) EarlyEnd) (f : Fault) → fault_of r ≡ Some f → (concluded s w r).state ≡ record s { is_faulted = true }
marked_by s w (Ok v) f h = absurd (cc)
marked_by s w (Err (ended.Fault g)) f h = refl
marked_by s w (Err (ended.FaultIn g id)) f h = refl
marked_by s w (Err (ended.Limit limit)) f h = absurd (cc)
marked_by s w (Err (ended.Exit code)) f h = absurd (cc)

marked : (m : Effect State (Unit {0})) (f : Fault) → fault_of m.answer ≡ Some f → (run_of m).state ≡ record m.state { is_faulted = true }
marked m f h = marked_by m.state m.written m.answer f h

pub fault_refused : (s : State) (r : Reading) (f : Fault) → requested s r ≡ Err f → (executed s r).state ≡ record s { is_faulted = true }
unfolding executed acted
fault_refused s r f is = ap (λ (it : Result Request Fault). (run_of (item_done s it)).state) is

-- a request that leaves the state where it ends with a fault
fault_leaves : (s : State) (r : Reading) (f : Fault) (request : Request) → FaultLeaves s (performed request s) → requested s r ≡ Ok request → EndsWithFault s r f
    → (executed s r).state ≡ record s { is_faulted = true }
unfolding executed acted
fault_leaves s r f request leaves is h =
    let ends : fault_of (item_done s (Ok request)).answer ≡ Some f = sym (ap (λ (it : Result Request Fault). fault_of (item_done s it).answer) is) ∙ h in
    ap (λ (it : Result Request Fault). (run_of (item_done s it)).state) is
    ∙ (marked (item_done s (Ok request)) f ends ∙ ap (λ (t : State). record t { is_faulted = true }) (done_state s request ∙ leaves f (done_fault s request f ends)))

pub fault_of_globals : (s : State) (r : Reading) (f : Fault) (gs : List GlobalTerm) → requested s r ≡ Ok (asked.define_globals gs) → EndsWithFault s r f
    → (executed s r).state ≡ record s { is_faulted = true }
fault_of_globals s r f gs is h = fault_leaves s r f (asked.define_globals gs) (globals_leave s gs (globals_after s.world.env gs)) is h

pub template_is_defined : (s : State) (r : Reading) (f : Fault) (template : List ℕ × List SlotShape) → requested s r ≡ Ok (asked.define_template template) → EndsWithFault s r f → ⊥
unfolding acted
template_is_defined s r f template is h =
    let ends : fault_of (item_done s (Ok (asked.define_template template))).answer ≡ Some f = sym (ap (λ (it : Result Request Fault). fault_of (item_done s it).answer) is) ∙ h in
    let faulty : fault_of (performed (asked.define_template template) s).answer ≡ Some f = done_fault s (asked.define_template template) f ends in absurd (cc)

done_keeps : (s : State) (request : Result Request Fault) (f : Fault) → fault_of (item_done s request).answer ≡ Some f → KeepsDefinitions s (item_done s request).state
done_keeps s (Ok request) f h = subst (KeepsDefinitions s) (sym (done_state s request)) (performed_keeps s request f (done_fault s request f h))
done_keeps s (Err e) f h = record { deffacts = refl; globals = refl }

-- the mark is no definition
marked_keeps : (s t u : State) → u ≡ record t { is_faulted = true } → KeepsDefinitions s t → KeepsDefinitions s u
marked_keeps s t u is keeps = subst (KeepsDefinitions s) (sym is) (record { deffacts = keeps.deffacts; globals = keeps.globals })

pub fault_keeping : (s : State) (r : Reading) (f : Fault) → EndsWithFault s r f → KeepsDefinitions s (executed s r).state
unfolding executed acted
fault_keeping s r f h =
    let m = item_done s (requested s r) in
    marked_keeps s m.state (run_of m).state (marked m f h) (done_keeps s (requested s r) f h)

-- a request that lists changes nothing
pub listed : (s : State) (r : Reading) (request : Request) (lines : State → List ℕ) → deed_of request ≡ lists lines → requested s r ≡ Ok request → (executed s r).state ≡ s
unfolding executed acted
listed s r request lines deed is = ap (λ (it : Result Request Fault). (run_of (item_done s it)).state) is ∙ ap (λ (it : Deed). (run_of ((done it >>= shown) s)).state) deed
