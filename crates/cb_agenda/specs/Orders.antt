-- Lists in an order.
use Rattle.std.specs.Prelude.{◌≡◌, Bool, false, List, [], ◌∷◌, if◌then◌else◌}
use Rattle.std.specs.List.{AllByRecursion}

module _ {X : Type 0} (before : X → X → Bool) where
  -- one more among others that are in order: behind those that come before it
  abbrev pub placed : X → List X → List X
  placed x [] = x ∷ []
  placed x (y ∷ ys) = if before y x then y ∷ placed x ys else x ∷ y ∷ ys

  -- a list put in order; what the order does not tell apart stays as it stood
  abbrev pub sorted : List X → List X
  sorted [] = []
  sorted (x ∷ xs) = placed x (sorted xs)

  -- a list is in order: none comes before one that stands in front of it
  abbrev pub IsInOrder : List X → Type 0
  IsInOrder [] = Unit {0}
  IsInOrder (x ∷ xs) = AllByRecursion (λ y. before y x ≡ false) xs × IsInOrder xs
