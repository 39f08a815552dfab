-- What the laws of faults speak of.
use Rattle.std.specs.Prelude.{◌≡◌, Some}
use Rattle.cb_actions.specs.Acts.{fault_of}
use Rattle.cb_forms.specs.Trees.{Reading}
use Rattle.cb_forms.specs.declared.fault.Fault.{Fault}
use Rattle.cb_session.specs.Actions.{acted}
use Rattle.cb_session.specs.States.{State}

-- an item ends with this fault, be it in a rule or not
abbrev pub EndsWithFault : State → Reading → Fault → Type 0
EndsWithFault s r f = fault_of (acted r s).answer ≡ Some f

-- each `deffacts` and the initial expressions of the globals are the same
pub record KeepsDefinitions (s t : State) : Type 0 where
  pub deffacts : t.deffacts ≡ s.deffacts
  pub globals : t.globals ≡ s.globals
