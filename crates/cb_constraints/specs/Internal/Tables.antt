-- How the table of a pattern's variables grows.
use Rattle.std.specs.Prelude.{◌≡◌, ℕ, Bool, not, List, [], ◌∷◌, ◌++◌, filter, map, if◌then◌else◌}
use Rattle.std.specs.List.{list_any}
use Rattle.std.specs.Str.{bytes_eq}
use Rattle.cb_constraints.specs.declared.place.Place.{Place}
use Rattle.cb_constraints.specs.declared.site.Site.{Site}
use Rattle.cb_constraints.specs.declared.table.Table as program

-- each variable once, with the first of its places
abbrev pub first_places : List (List ℕ × Place) → List (List ℕ × Place)
first_places [] = []
first_places (e ∷ es) = e ∷ filter (λ d. not (bytes_eq e.0 d.0)) (first_places es)

-- the variable is among them
abbrev pub has_variable : List ℕ → List (List ℕ × Place) → Bool
has_variable x es = list_any (λ e. bytes_eq x e.0) es

-- one more, if its variable is not among them
abbrev pub with_place : List (List ℕ × Place) → List ℕ × Place → List (List ℕ × Place)
with_place es e = if has_variable e.0 es then es else es ++ e ∷ []

-- more of them, one after another
abbrev pub with_places : List (List ℕ × Place) → List (List ℕ × Place) → List (List ℕ × Place)
with_places es [] = es
with_places es (f ∷ fs) = with_places (with_place es f) fs

-- the names are those of the variables
abbrev pub IsNamed : program.Table → Type 0
IsNamed t = t.names ≡ map (λ e. e.0) t.variables.items

-- it has these variables with their places more, and these sites
pub record Grows (old new : program.Table) (found : List (List ℕ × Place)) (more : List Site) : Type 0 where
  pub named : IsNamed new
  pub variables : new.variables.items ≡ with_places old.variables.items found
  pub sites : new.sites.items ≡ old.sites.items ++ more

-- with these it has all that it is to have
pub record Going (old now : program.Table) (left all : List (List ℕ × Place)) (more total : List Site) : Type 0 where
  pub named : IsNamed now
  pub variables : with_places now.variables.items left ≡ with_places old.variables.items all
  pub sites : now.sites.items ++ more ≡ old.sites.items ++ total
