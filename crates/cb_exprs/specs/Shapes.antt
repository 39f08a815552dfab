-- What is known of a fact before its values are.
use Rattle.std.specs.Prelude.{ℕ, List, Option}

-- the relation of a fact, and the names of the slots that it gives as they are written; an ordered fact gives none
pub record Shape : Type 0 where
  pub relation : List ℕ
  pub slots : Option (List (List ℕ))

-- the slots that a `modify` names as they are written, each with the number of its expressions
abbrev pub SlotCounts : Type 0
SlotCounts = List (List ℕ × ℕ)
