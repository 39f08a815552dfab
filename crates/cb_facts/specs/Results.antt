-- Results, each with what was wanted or a fault, where the first fault counts.
use Rattle.std.specs.Prelude.{◌≡◌, List, ◌∷◌, Result, Ok, Err}
use Rattle.cb_forms.specs.declared.fault.Fault.{Fault}
use Rattle.cb_facts.specs.declared.refused.Refused.{Refused}
use Rattle.cb_facts.specs.declared.refused.Refused.TheVariants as refused

-- what is made of a result without a fault
abbrev pub ok_then : {X Y : Type 0} → (X → Y) → Result X Fault → Result Y Fault
ok_then next (Ok x) = Ok (next x)
ok_then next (Err f) = Err f

-- what follows a result without a fault, and may have one itself
abbrev pub and_then : {X Y : Type 0} → Result X Fault → (X → Result Y Fault) → Result Y Fault
and_then (Ok x) next = next x
and_then (Err f) next = Err f

-- a first result and the others: all of them, or the first fault
abbrev pub with_first : {X : Type 0} → Result X Fault → Result (List X) Fault → Result (List X) Fault
with_first (Err f) others = Err f
with_first (Ok x) (Err f) = Err f
with_first (Ok x) (Ok xs) = Ok (x ∷ xs)

-- a refusal by a fault reports such a fault; of one by memory nothing is said
abbrev pub Reports : Refused → (Fault → Type 0) → Type 0
Reports (refused.Fault f) P = P f
Reports refused.NoMemory P = Unit {0}

-- The call returns what is wanted, shown so, or its fault. Of a call that ran out of memory nothing is said.
abbrev pub Settles : {T V : Type 0} → (T → V) → Result T Refused → Result V Fault → Type 0
Settles view (Ok t) wanted = wanted ≡ Ok (view t)
Settles view (Err r) wanted = Reports r (λ f. wanted ≡ Err f)

-- The same, where what is returned needs no other showing.
abbrev pub Returns : {T : Type 0} → Result T Refused → Result T Fault → Type 0
Returns result wanted = Settles (λ t. t) result wanted
