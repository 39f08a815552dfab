-- The numbers of rules.
use Rattle.std.specs.Prelude.{◌≡◌, ◌≢◌, ℕ, List}
use Rattle.cb_matches.specs.Chains.{Chain, In}
use Rattle.cb_matches.specs.Networks.{Conditions}
use Rattle.cb_rules.specs.Elements.{Elements}

-- a rule's number with its branches
abbrev pub Kept : Type 0
Kept = ℕ × List Elements

-- no number twice
abbrev pub HaveOwnNumbers : Conditions → Type 0
HaveOwnNumbers rules = Chain (λ (r : Kept) (s : Kept). r.0 ≢ s.0) rules

-- each stands under its number
abbrev pub AreNamed : {V : Type 0} → (V → Kept) → List (ℕ × V) → Type 0
AreNamed {V} kept rules = (e : ℕ × V) → In e rules → e.0 ≡ (kept e.1).0
