-- Partial matches filed by the values that they are joined on.
use Rattle.std.specs.Prelude.{◌≡◌, ℕ, Box, List, [], ◌∷◌, Option, Some, None, option_map}
use Rattle.std.specs.Option.{unwrap_or}
use Rattle.std.specs.declared.alloc.Global.{Global}
use Rattle.cb_alpha.specs.Buckets.{Filing, values_at}
use Rattle.cb_alpha.specs.JoinValues.{variable_values}
use Rattle.cb_facts.specs.declared.value.Value.{Value}
use Rattle.cb_fit.specs.declared.join_fields.JoinField.{JoinField}
use Rattle.cb_groups.specs.Groups.{Membership, group_of}
use Rattle.cb_matches.specs.Matches.{Partial}

-- where the partial matches are kept by their values: nowhere, or in buckets
abbrev pub filing_in : Option (Box Filing Global) → Filing
filing_in buckets = unwrap_or (option_map (λ (b : Box Filing Global). b.value) buckets) []

-- the values by which a partial match is found: those that it has for these fields, where some are asked
abbrev pub filed_if : List JoinField → Option (List Value) → Option (List Value)
filed_if [] values = None
filed_if (j ∷ js) values = values

abbrev pub filed_values : List JoinField → Partial → Option (List Value)
filed_values js m = filed_if js (variable_values js m.env)

-- the group of a partial match among those that are not found by values: 0 if it is one of them, else none
abbrev pub stray_group : Option (List Value) → Option ℕ
stray_group None = Some 0
stray_group (Some values) = None

-- a partial match stands by these values, or among those that are not found by values
pub record StandsWith (found : Option (List Value)) (filing : Filing) (strays : Membership) (number : ℕ) : Type 0 where
  pub values : values_at filing number ≡ found
  pub stray : group_of strays number ≡ stray_group found

-- it stands where its values say
abbrev pub IsFiled : List JoinField → Filing → Membership → ℕ → Partial → Type 0
IsFiled js filing strays number m = StandsWith (filed_values js m) filing strays number

-- it stands nowhere
pub record IsNowhere (filing : Filing) (strays : Membership) (number : ℕ) : Type 0 where
  pub values : values_at filing number ≡ None
  pub stray : group_of strays number ≡ None

-- just these partial matches are filed by their values, or stand among those that are not found by values
pub record ArePartialsFiled (js : List JoinField) (filing : Filing) (strays : Membership) (at : ℕ → Partial) (There : ℕ → Type 0) : Type 0 where
  pub there : (number : ℕ) → There number → IsFiled js filing strays number (at number)
  pub filed : (number : ℕ) (values : List Value) → values_at filing number ≡ Some values → There number
  pub strayed : (number group : ℕ) → group_of strays number ≡ Some group → There number

-- it stands where it stood
pub record IsSamePlace (filing : Filing) (strays : Membership) (filing' : Filing) (strays' : Membership) (number : ℕ) : Type 0 where
  pub values : values_at filing' number ≡ values_at filing number
  pub stray : group_of strays' number ≡ group_of strays number
