-- What an expression may name and do where it stands.
use Rattle.std.specs.Prelude.{ℕ, ◌++◌, Bool, true, false, List, [], map}
use Rattle.std.specs.List.{list_any}
use Rattle.std.specs.Str.{bytes_eq}
use Rattle.cb_expr_forms.specs.declared.scope.Side.{Side}
use Rattle.cb_expr_forms.specs.declared.scope.Side.TheVariants as side
use Rattle.cb_exprs.specs.Bindings.{Bindings, Values}
use Rattle.cb_forms.specs.declared.fault.Fault.{Fault}
use Rattle.cb_forms.specs.declared.fault.Fault.TheVariants.{NotOnLeftSide, NotInProfile}
use Rattle.cb_templates.specs.Templates.{Templates}

-- where an expression stands, the names of the variables and of the globals that are known there, and the templates
pub record Scope : Type 0 where
  pub side : Side
  pub variables : List (List ℕ)
  pub globals : List (List ℕ)
  pub templates : Templates

-- an expression with an effect may stand there
abbrev pub may_act : Side → Bool
may_act side.Top = true
may_act side.Plain = false
may_act side.Left = false
may_act side.Actions = true

-- the fault of one where it may not
abbrev pub effect_fault : Side → Fault
effect_fault side.Left = NotOnLeftSide
effect_fault other = NotInProfile

-- a global may stand there
abbrev pub may_use_globals : Side → Bool
may_use_globals side.Top = true
may_use_globals side.Plain = true
may_use_globals side.Left = false
may_use_globals side.Actions = true

-- the names that have a value
abbrev pub names_of : Values → List (List ℕ)
names_of values = map (λ entry. entry.0) values

-- The variables that are known, of those that have a value at the top level and of those given besides. In a `defglobal`, a
-- `deffacts` and a salience none is; the left side of a rule needs none.
abbrev pub known_on : Side → List (List ℕ) → List (List ℕ) → List (List ℕ)
known_on side.Top valued given = valued ++ given
known_on side.Plain valued given = []
known_on side.Left valued given = []
known_on side.Actions valued given = given

-- what may be named there, by the variables that have a value, those given besides, and the globals
abbrev pub scope_on : Side → List (List ℕ) → List (List ℕ) → List (List ℕ) → Templates → Scope
scope_on on valued given globals templates = record { side = on; variables = known_on on valued given; globals = globals; templates = templates }

-- In a construct or a salience: no variable is known, and besides the globals that have a value these, which the construct has
-- given.
abbrev pub plain_scope : Templates → Bindings → List (List ℕ) → Scope
plain_scope templates env given = record { side = side.Plain; variables = []; globals = names_of env.globals ++ given; templates = templates }

abbrev pub is_known : List (List ℕ) → List ℕ → Bool
is_known names name = list_any (λ n. bytes_eq n name) names

-- A variable may stand there where it is known; on the left side of a rule any may, since a pattern can give it its value.
abbrev pub may_name : Side → List (List ℕ) → List ℕ → Bool
may_name side.Left known name = true
may_name other known name = is_known known name
