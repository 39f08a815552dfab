-- Which values the names in frames have.
use Rattle.std.specs.Prelude.{ℕ, List, [], ◌∷◌}
use Rattle.cb_exprs.specs.Bindings.{Values, with_value}
use Rattle.cb_exprs.specs.declared.frames.Frames.{Frames, Empty, One', Several', Many}
use Rattle.cb_facts.specs.declared.value.Value.{Value}
use Rattle.std.specs.Rc.{rc_value}

-- the names have these values now, given one after another
abbrev pub with_each : List (List ℕ × Value) → Values → Values
with_each [] values = values
with_each ((name, v) ∷ more) values = with_each more (with_value name v values)

-- the names with their values
abbrev pub pairs_in : Frames → Values
pairs_in Empty = []
pairs_in (One' p before names name value) = with_value name value (pairs_in before)
pairs_in (Several' p before names bindings) = with_each bindings.items (pairs_in before)
pairs_in (Many values) = rc_value values
