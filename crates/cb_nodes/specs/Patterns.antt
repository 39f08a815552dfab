-- What is known of a pattern, of a fact that it fits, and of how often it is tested.
use Rattle.std.specs.Prelude.{◌≡◌, ◌≢◌, ◌+◌, ℕ, Contains, false, List, [], Option, Some, filter, length, ◌*◌}
use Rattle.cb_constraints.specs.PatternValues.{PatternValue}
use Rattle.cb_exprs.specs.Bindings.{Bindings, value_at}
use Rattle.cb_facts.specs.FactLists.{IndexedFacts}
use Rattle.cb_facts.specs.Facts.{FactValue}
use Rattle.cb_facts.specs.declared.value.Value.{Value}
use Rattle.cb_fit.specs.JoinFields.{join_fields, value_in}
use Rattle.cb_fit.specs.Shapes.{is_selected}
use Rattle.cb_fit.specs.Ways.{WayValue, ways}
use Rattle.cb_fit.specs.declared.join_fields.JoinField.{JoinField}
use Rattle.cb_matches.specs.Chains.{Chain, In}
use Rattle.cb_matches.specs.Matches.{Partial}
use Rattle.cb_matches.specs.Probes.{is_candidate, added_probes, partials_come, partials_kept}

-- a pattern fits a fact that isn't selected for it in no way
abbrev pub Unselected : Type 0
Unselected = (p : PatternValue) (f : FactValue) (before : Bindings) → is_selected p f ≡ false → ways p f before ≡ []

-- where a pattern fits a fact, the fields that have to be equal to variables are
abbrev pub FieldsAgree : Type 0
FieldsAgree = (p : PatternValue) (f : FactValue) (before : Bindings) (w : WayValue) → Contains (ways p f before) w → (j : JoinField) → Contains (join_fields p.parts) j
    → (v : Value) → value_at j.variable before.variables ≡ Some v → value_in j f.content ≡ Some v

-- no index twice
abbrev pub HaveIndices : IndexedFacts → Type 0
HaveIndices fs = Chain (λ (f : ℕ × FactValue) (g : ℕ × FactValue). f.0 ≢ g.0) fs

-- each of these fields of a fact has to be equal to a variable, whatever the fact's address is
abbrev pub AreJoinFields : List JoinField → Option (List ℕ) → PatternValue → Type 0
AreJoinFields js x p = (j : JoinField) → In j js → Contains (join_fields p.parts) j × (x ≢ Some j.variable)

-- how often a pattern may be tested where a change leads from one list before it to another
abbrev pub pattern_probes : PatternValue → Option FactValue → IndexedFacts → List Partial → List Partial → ℕ
pattern_probes p added fs' old new = length (partials_come old new) * length (filter (is_candidate p) fs') + added_probes p added (length (partials_kept old new))
