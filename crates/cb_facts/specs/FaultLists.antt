-- Faults in the order in which they are looked for, of which the first is reported.
use Rattle.std.specs.Prelude.{◌≡◌, Bool, true, false, List, [], ◌∷◌, Option, Some, None, Result, Ok, Err}
use Rattle.cb_facts.specs.declared.refused.Refused.{Refused}
use Rattle.cb_facts.specs.declared.refused.Refused.TheVariants as refused
use Rattle.cb_forms.specs.declared.fault.Fault.{Fault}

-- the fault, unless this holds
abbrev pub unless : Bool → Fault → List Fault
unless true f = []
unless false f = f ∷ []

-- the one that is reported
abbrev pub first_of : List Fault → Option Fault
first_of [] = None
first_of (f ∷ fs) = Some f

-- what is read where there are these faults: the first of them, or else this
abbrev pub unless_faulty : {X : Type 0} → List Fault → X → Result X Fault
unless_faulty [] x = Ok x
unless_faulty (f ∷ fs) x = Err f

-- The call returns what is read, seen so, where there is no fault, and else the first fault; leaving aside that memory may run out.
abbrev pub ReadsAs : {T V : Type 0} → (T → V) → Result T Refused → List Fault → V → Type 0
ReadsAs view (Ok t) faults wanted = (faults ≡ []) × (view t ≡ wanted)
ReadsAs view (Err (refused.Fault f)) faults wanted = first_of faults ≡ Some f
ReadsAs view (Err refused.NoMemory) faults wanted = Unit {0}
