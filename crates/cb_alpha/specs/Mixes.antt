-- Mixes of values: numbers of 32 bits that depend on the values alone, and that few other values have.
use Rattle.std.specs.Prelude.{ℕ, List, fold}
use Rattle.cb_facts.specs.declared.value.Value.{Value}
use Rattle.cb_facts.specs.ValueMixes.{value_mix}
use Rattle.cb_number_map.specs.Mixes.{key_of, mixed}

-- the mixes of the values mixed in, from left to right
abbrev pub mixed_values : ℕ → List Value → ℕ
mixed_values = fold (λ mix value. mixed mix (value_mix value))

-- the mix of values
unfoldable pub mix_of : List Value → ℕ
mix_of values = key_of (mixed_values 0 values)
