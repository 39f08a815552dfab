-- What deeds leave, by their kinds: the definitions at a fault, and no more turns than there were.
use Rattle.std.proofs.Common.{◌≡◌, ◌≤◌, ℕ, List, Option, Some, Result, Ok, Err, arith, refl, ap}
use Rattle.cb_actions.specs.Acts.{Act, fault_of, follow}
use Rattle.cb_actions.specs.Worlds.{World}
use Rattle.cb_actions.specs.declared.act.EarlyEnd.{EarlyEnd}
use Rattle.cb_facts.specs.declared.value.Value.{Value}
use Rattle.cb_forms.specs.declared.fault.Fault.{Fault}
use Rattle.cb_session.specs.Deeds.{Deed, Definitions, acts, acts_and_keeps, definitions_of, done, keep, keeps, lists, sets}
use Rattle.cb_session.specs.Laws.{KeepsDefinitions}
use Rattle.cb_session.specs.States.{State}

-- this holds of the act on the world that a deed is made of, if there is one that may change more than settings
abbrev pub OfItsAct : (Act World (Option Value) → World → Type 0) → State → Deed → Type 0
OfItsAct Law s (acts act) = Law (act (definitions_of s)) s.world
OfItsAct Law s (acts_and_keeps act change) = Law act s.world
OfItsAct Law s deed = Unit {0}

-- what is kept changes only where the act before it doesn't end the item
then_keeps : (s t : State) (w : List ℕ) (r : Result (Option Value) EarlyEnd) (change : Definitions → Definitions) → KeepsDefinitions s t
    → (f : Fault) → fault_of (follow t w r (λ _. keep change)).answer ≡ Some f → KeepsDefinitions s (follow t w r (λ _. keep change)).state
then_keeps s t w (Ok v) change h f is = absurd (cc)
then_keeps s t w (Err e) change h f is = h

-- a deed that ends with a fault leaves the definitions as they are
pub deed_keeps : (s : State) (deed : Deed) (f : Fault) → fault_of (done deed s).answer ≡ Some f → KeepsDefinitions s (done deed s).state
deed_keeps s (lists lines) f h = absurd (cc)
deed_keeps s (keeps change) f h = absurd (cc)
deed_keeps s (sets act only) f h = record { deffacts = refl; globals = refl }
deed_keeps s (acts act) f h = record { deffacts = refl; globals = refl }
deed_keeps s (acts_and_keeps act change) f h =
    let first = act s.world in
    then_keeps s (record s { world = first.state }) first.written first.answer change (record { deffacts = refl; globals = refl }) f h

-- the turns that are left
abbrev pub left : State → ℕ
left s = s.world.turns

-- an act takes turns, and gives none back
abbrev pub Takes : Act World (Option Value) → World → Type 0
Takes act w = (act w).state.turns ≤ w.turns

then_falls : (n : ℕ) (t : State) (w : List ℕ) (r : Result (Option Value) EarlyEnd) (change : Definitions → Definitions) → left t ≤ n → left (follow t w r (λ _. keep change)).state ≤ n
then_falls n t w (Ok v) change h = h
then_falls n t w (Err e) change h = h

pub deed_falls : (s : State) (deed : Deed) → OfItsAct Takes s deed → left (done deed s).state ≤ left s
deed_falls s (lists lines) h = omega arith
deed_falls s (keeps change) h = omega arith
deed_falls s (sets act only) h =
    let same : (act s.world).state.turns ≡ s.world.turns = ap (λ (w : World). w.turns) (only s.world) in
    omega arith
deed_falls s (acts act) h = h
deed_falls s (acts_and_keeps act change) h =
    let first = act s.world in
    then_falls (left s) (record s { world = first.state }) first.written first.answer change h
