-- Which tokens are constants, and the fields of values.
use Rattle.std.specs.Prelude.{Bool, true, false, List, [], ◌∷◌, Option, Some, None}
use Rattle.std.specs.List.{flat_map}
use Rattle.cb_forms.specs.declared.token.Token.{Token}
use Rattle.cb_forms.specs.declared.token.Token.TheVariants as token
use Rattle.cb_facts.specs.declared.single.Single.{Single}
use Rattle.cb_facts.specs.declared.single.Single.TheVariants as single
use Rattle.cb_facts.specs.declared.value.Value.{Value}
use Rattle.cb_facts.specs.declared.value.Value.TheVariants as value

-- the value of a token that is a constant
abbrev pub constant_of : Token → Option Value
constant_of (token.Symbol bytes) = Some (value.Symbol bytes)
constant_of (token.Str bytes) = Some (value.Str bytes)
constant_of (token.Int n) = Some (value.Int n)
constant_of (token.Var name) = None
constant_of (token.MultiVar name) = None
constant_of token.Any = None
constant_of token.MultiAny = None
constant_of (token.Global name) = None
constant_of token.And = None
constant_of token.Or = None
constant_of token.Not = None

-- the fields of a value: those of a multifield, or the value itself
abbrev pub fields_in : Value → List Single
fields_in (value.Symbol bytes) = single.Symbol bytes ∷ []
fields_in (value.Str bytes) = single.Str bytes ∷ []
fields_in (value.Int n) = single.Int n ∷ []
fields_in (value.Fact ix) = single.Fact ix ∷ []
fields_in (value.Multi fields) = fields

-- the fields of values, multifields spliced
abbrev pub spliced : List Value → List Single
spliced vs = flat_map fields_in vs

-- a field as a value
abbrev pub value_of_field : Single → Value
value_of_field (single.Symbol bytes) = value.Symbol bytes
value_of_field (single.Str bytes) = value.Str bytes
value_of_field (single.Int n) = value.Int n
value_of_field (single.Fact ix) = value.Fact ix

abbrev pub is_multifield : Value → Bool
is_multifield (value.Multi fields) = true
is_multifield v = false
