-- The fields that a row of constraints is for.
use Rattle.std.specs.Prelude.{◌≡◌, List, ◌∷◌}
use Rattle.cb_facts.specs.Values.{fields_in, value_of_field}
use Rattle.cb_facts.specs.declared.single.Single.{Single}
use Rattle.cb_facts.specs.declared.value.Value.{Value}
use Rattle.cb_constraints.specs.declared.fields.Fields.{Fields}
use Rattle.cb_constraints.specs.declared.fields.Fields.TheVariants as program

-- The fields that a `Fields` of the program is.
abbrev pub row_fields : Fields → List Single
row_fields (program.All fields) = fields.now
row_fields (program.Slot v) = fields_in v.now

-- the value is that of the first of these fields, and these are the others
abbrev pub IsFirst : Value → List Single → List Single → Type 0
IsFirst v others fields = (f : Single) × (fields ≡ f ∷ others) × (v ≡ value_of_field f)
