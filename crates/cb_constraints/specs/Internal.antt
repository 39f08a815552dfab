-- What only the code needs: which constants stand among checks, and what the table of a pattern has.
pub mod Asking
pub mod Codes
pub mod Known
pub mod Lengths
pub mod NextLengths
pub mod Places
pub mod RowFields
pub mod Tables
pub mod Values
use Rattle.std.specs.Prelude.{◌≡◌, ℕ, Bool, IfSome, List, Option, map}
use Rattle.std.specs.List.{list_all}
use Rattle.cb_constraints.specs.Binders.{constraints_in}
use Rattle.cb_constraints.specs.Internal.Places.{places, sites_in}
use Rattle.cb_constraints.specs.Constraints.{Check}
use Rattle.cb_constraints.specs.Holding.{is_constant}
use Rattle.cb_constraints.specs.Internal.Tables.{IsNamed, first_places}
use Rattle.cb_constraints.specs.PatternValues.{PatternParts}
use Rattle.cb_constraints.specs.declared.place.Place.{Place}
use Rattle.cb_constraints.specs.declared.site.Site.{Site}
use Rattle.cb_constraints.specs.declared.table.Table.{Table}

-- all checks are for constants
abbrev pub is_of_constants : List Check → Bool
is_of_constants cs = list_all (λ c. is_constant c.test) cs

-- all checks of all alternatives are
abbrev pub are_of_constants : List (List Check) → Bool
are_of_constants alternatives = list_all is_of_constants alternatives

-- the table has the variables of a pattern, each once with its first place, and the sites of its constraints
abbrev pub HasTable : Table → PatternParts → Type 0
HasTable t parts = IsNamed t × (t.variables.items ≡ first_places (places 0 (constraints_in parts))) × (t.sites.items ≡ sites_in parts)

-- these are the variables of a pattern, each once with its first place, their names, where they are kept, and the sites of its constraints
abbrev pub HasVariables : Option (List (List ℕ)) → List (List ℕ × Place) → List Site → PatternParts → Type 0
HasVariables names variables sites parts = IfSome names (λ xs. xs ≡ map (λ e. e.0) variables) × (variables ≡ first_places (places 0 (constraints_in parts))) × (sites ≡ sites_in parts)
