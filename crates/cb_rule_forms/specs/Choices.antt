-- What a choice at each `or` leaves of a left side, said without a list of all of them.
use Rattle.std.specs.Prelude.{◌≡◌, ◌++◌, ◌⊎◌, List, [], ◌∷◌}
use Rattle.cb_rule_forms.specs.WrittenElements.{Written, all_of, one_of, Writtens, none_written, written}

abbrev mutual
  -- these elements are what a choice leaves of an element: of an `or` those that it leaves of one member, of an `and` those of all members; any other element stays
  pub IsLeftOf : Written → List Written → Type 0
  IsLeftOf (all_of ws) way = IsLeftOfAll ws way
  IsLeftOf (one_of ws) way = IsLeftOfOne ws way
  IsLeftOf w way = way ≡ w ∷ []

  pub IsLeftOfAll : Writtens → List Written → Type 0
  IsLeftOfAll none_written way = way ≡ []
  IsLeftOfAll (written w ws) way = (own others : List Written) × (way ≡ own ++ others) × IsLeftOf w own × IsLeftOfAll ws others

  pub IsLeftOfOne : Writtens → List Written → Type 0
  IsLeftOfOne none_written way = ⊥
  IsLeftOfOne (written w ws) way = IsLeftOf w way ⊎ IsLeftOfOne ws way
