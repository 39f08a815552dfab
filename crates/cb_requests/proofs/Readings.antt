-- What is read, as a result with a rule or its first fault.
use Rattle.std.proofs.Common.{List, [], ◌∷◌, Result, Ok, Err, sym, ap}
use Rattle.cb_facts.specs.Results.{Settles}
use Rattle.cb_facts.specs.declared.refused.Refused.{Refused}
use Rattle.cb_facts.specs.declared.refused.Refused.TheVariants as refused
use Rattle.cb_forms.specs.declared.fault.Fault.{Fault}
use Rattle.cb_facts.specs.FaultLists.{ReadsAs, unless_faulty}

pub settled : {T V : Type 0} (view : T → V) (r : Result T Refused) (faults : List Fault) (v : V) → ReadsAs view r faults v → Settles view r (unless_faulty faults v)
settled view (Ok t) [] v h = ap Ok (sym h.1)
settled view (Ok t) (f ∷ fs) v h = absurd (cc)
settled view (Err (refused.Fault f)) [] v h = absurd (cc)
settled view (Err (refused.Fault f)) (g ∷ fs) v h = cc
settled view (Err refused.NoMemory) faults v h = tt
