-- A list cut into parts, each of which goes on as long as it takes what comes.
use Rattle.std.specs.Prelude.{◌≡◌, Bool, true, false, List, [], ◌∷◌, ◌++◌, ⊤, if◌then◌else◌}

module _ {X : Type 0} (takes : List X → X → Bool) where
  -- the parts of a list whose first part has begun
  abbrev pub cut_from : List X → List X → List (List X)
  cut_from part [] = part ∷ []
  cut_from part (x ∷ xs) =
      let next = cut_from (x ∷ []) xs in
      if takes part x then cut_from (part ++ x ∷ []) xs else part ∷ next

  -- the parts of a list
  abbrev pub cut : List X → List (List X)
  cut [] = []
  cut (x ∷ xs) = cut_from (x ∷ []) xs

  -- the part takes these, one after another
  abbrev pub TakesAll : List X → List X → Type 0
  TakesAll part [] = ⊤
  TakesAll part (x ∷ xs) = (takes part x ≡ true) × TakesAll (part ++ x ∷ []) xs

  -- the part doesn't take what the next part begins with
  abbrev pub EndsBefore : List X → List (List X) → Type 0
  EndsBefore part [] = ⊤
  EndsBefore part ([] ∷ parts) = ⊥
  EndsBefore part ((x ∷ xs) ∷ parts) = takes part x ≡ false

  -- Each part took all that stands in it, and ends where it doesn't take what comes. No part is empty.
  abbrev pub AreCut : List (List X) → Type 0
  AreCut [] = ⊤
  AreCut ([] ∷ parts) = ⊥
  AreCut ((x ∷ xs) ∷ parts) = TakesAll (x ∷ []) xs × EndsBefore (x ∷ xs) parts × AreCut parts

-- the parts put together again
abbrev pub joined : {X : Type 0} → List (List X) → List X
joined [] = []
joined (part ∷ parts) = part ++ joined parts
