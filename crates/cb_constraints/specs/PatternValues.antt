-- Patterns.
use Rattle.std.specs.Prelude.{ℕ, List}
use Rattle.cb_constraints.specs.Constraints.{Constraint}

-- what a pattern asks of a slot: its name, its place among the slots of the template, and the constraints for its fields
pub record SlotValue : Type 0 where
  pub name : List ℕ
  pub place : ℕ
  pub row : List Constraint

-- what a pattern asks of the content of a fact: a row of constraints for the fields of an ordered fact, or one for each slot
-- that it writes, in the order in which they are written
pub data PatternParts : Type 0 where
  fields : List Constraint → PatternParts
  slots : List SlotValue → PatternParts

-- a pattern: the relation of the facts that it is for, and what it asks of them
pub record PatternValue : Type 0 where
  pub relation : List ℕ
  pub parts : PatternParts
