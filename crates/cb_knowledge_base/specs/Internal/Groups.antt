-- How the program keeps the facts of each `deffacts`: each group under a number, and the number of each name.
use Rattle.std.specs.Prelude.{◌≡◌, ℕ, List, Option, option_map}
use Rattle.std.specs.BTreeMap.{is_at}
use Rattle.std.specs.List.{All}
use Rattle.std.specs.List.Sorted.{IsStrictlySortedBy}
use Rattle.std.specs.Map.{keys_of, lookup}
use Rattle.std.specs.Ordering.{nat_cmp}
use Rattle.std.specs.declared.cmp.Ordering.TheVariants.{Greater}
use Rattle.cb_exprs.specs.FactTerms.{FactTerm}
use Rattle.cb_facts.specs.Internal.{Agree}

-- a name and its facts
abbrev pub Group : Type 0
Group = List ℕ × List FactTerm

-- each group after its number
abbrev pub NumberedGroups : Type 0
NumberedGroups = List (ℕ × Group)

-- the name of the group with the number
abbrev pub name_at : NumberedGroups → ℕ → Option (List ℕ)
name_at groups n = option_map (λ g. g.0) (lookup (is_at (nat_cmp n)) groups)

-- The numbers rise, and the look-up by names gives a number exactly where the group with that number has the name.
pub record AreNumbered (groups : NumberedGroups) (find : List ℕ → Option ℕ) : Type 0 where
  pub rising : IsStrictlySortedBy nat_cmp (keys_of groups)
  pub agree : Agree find (name_at groups)

-- the number comes after those of all groups
abbrev pub IsAfterAll : NumberedGroups → ℕ → Type 0
IsAfterAll groups n = All (λ k. nat_cmp n k ≡ Greater) (keys_of groups)
