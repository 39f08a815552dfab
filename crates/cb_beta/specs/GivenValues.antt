-- What a token gives variables by the fact that it took.
use Rattle.std.specs.Prelude.{ℕ, List, [], Option, ⊤}
use Rattle.std.specs.Option.{option_map_or}
use Rattle.std.specs.Rc.{rc_value}
use Rattle.cb_beta.specs.declared.given.Held.{Held}
use Rattle.cb_beta.specs.declared.given.Held.TheVariants.{Nothing, Found, Fields}
use Rattle.cb_beta.specs.declared.given.Gives.{Gives}
use Rattle.cb_beta.specs.TakenFields.{TakenFieldsValue}
use Rattle.cb_exprs.specs.Bindings.{no_bindings}
use Rattle.cb_facts.specs.Facts.{FactContent}
use Rattle.cb_facts.specs.declared.value.Value.{Value}
use Rattle.cb_fit.specs.Decided.{taken_by_all}
use Rattle.cb_fit.specs.WayValues.{way_of}
use Rattle.cb_fit.specs.Ways.{WayValue}
use Rattle.cb_fit.specs.declared.join_fields.JoinField.{JoinField}

-- what the variables of these fields get, where none of them has a value
abbrev pub values_taken : List JoinField → FactContent → List (List ℕ × Value)
values_taken js content = taken_by_all js no_bindings content

-- the way with these lengths by which the fields give their values
abbrev pub way_by_fields : TakenFieldsValue → FactContent → WayValue
way_by_fields taken content = record { cuts = taken.cuts; bound = values_taken taken.fields content }

-- the way that was found, or that of the fields; one that takes nothing where no fact is taken
abbrev pub way_in : Held → WayValue
way_in Nothing = record { cuts = []; bound = [] }
way_in (Found way) = way_of way.value
way_in (Fields taken fact) = way_by_fields (rc_value {X = TakenFieldsValue} taken) fact.content

-- a fact is taken
abbrev pub IsTaken : Held → Type 0
IsTaken Nothing = ⊥
IsTaken (Found way) = ⊤
IsTaken (Fields taken fact) = ⊤

-- what is read of it: what variables get
abbrev pub values_read : Gives → List (List ℕ × Value)
values_read g = (way_in g.held.now).bound

-- what a way gives variables, if there is one
abbrev pub values_given : Option WayValue → List (List ℕ × Value)
values_given way = option_map_or (λ (w : WayValue). w.bound) way []
