-- The places of slots that a fact is given.
use Rattle.std.specs.Prelude.{◌≡◌, ℕ, List, Option, IfSome}
use Rattle.cb_templates.specs.Building.{Given, given_names}

-- if places are listed, they are those of the names of these slots
abbrev pub AreTheirPlaces : Option (List (List ℕ)) → Given → Type 0
AreTheirPlaces places given = IfSome places (λ names. names ≡ given_names given)
