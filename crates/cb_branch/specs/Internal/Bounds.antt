-- The variables to which elements give values, in the order in which they come.
use Rattle.std.specs.Prelude.{◌↔◌, ℕ, List, [], ◌∷◌, ◌++◌, if◌then◌else◌}
use Rattle.cb_fit.specs.Plain.{is_named}
use Rattle.cb_matches.specs.Chains.{In}
use Rattle.cb_scopes.specs.Scopes.{Scope}

-- with one more, if it isn't there
abbrev pub with_name : List ℕ → Scope → Scope
with_name x names = if is_named x names then names else names ++ x ∷ []

-- with several more
abbrev pub with_names : List (List ℕ) → Scope → Scope
with_names [] names = names
with_names (x ∷ xs) names = with_names xs (with_name x names)

-- the same variables
abbrev pub AreSame : Scope → Scope → Type 0
AreSame us bs = (x : List ℕ) → In x us ↔ In x bs
