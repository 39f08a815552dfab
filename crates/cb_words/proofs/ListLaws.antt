-- Tests of a list of words.
use Rattle.std.proofs.Common.{◌≡◌, ◌||◌, Bool, List, [], ◌∷◌, map, refl, ap}
use Rattle.std.specs.List.{list_any}

pub any_of_map : {X Y : Type 0} (f : X → Y) (test : Y → Bool) (xs : List X) → list_any test (map f xs) ≡ list_any (λ x. test (f x)) xs
any_of_map f test [] = refl
any_of_map f test (x ∷ xs) = ap (λ t. test (f x) || t) (any_of_map f test xs)
