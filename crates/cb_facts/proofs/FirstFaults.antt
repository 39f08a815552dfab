-- The first fault of a part is that of the whole.
use Rattle.std.proofs.Common.{◌≡◌, List, [], ◌∷◌, ◌++◌, Some, Err}
use Rattle.cb_facts.specs.declared.refused.Refused.{Refused}
use Rattle.cb_facts.specs.declared.refused.Refused.TheVariants as refused
use Rattle.cb_forms.specs.declared.fault.Fault.{Fault}
use Rattle.cb_facts.specs.FaultLists.{ReadsAs, first_of}

pub first_append : (xs ys : List Fault) (f : Fault) → first_of xs ≡ Some f → first_of (xs ++ ys) ≡ Some f
first_append [] ys f h = absurd (cc)
first_append (x ∷ xs) ys f h = h

pub fails : {T V U W : Type 0} (view : T → V) (v : V) (other : U → W) (w : W) (r : Refused) (fs gs : List Fault) → ((f : Fault) → first_of fs ≡ Some f → first_of gs ≡ Some f)
    → ReadsAs view (Err r) fs v → ReadsAs other (Err r) gs w
fails view v other w (refused.Fault f) fs gs same h = same f h
fails view v other w refused.NoMemory fs gs same h = tt
