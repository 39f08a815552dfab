-- Facts that were read and are not asserted yet.
use Rattle.cb_exprs.specs.Shapes.{Shape}
use Rattle.cb_exprs.specs.Terms.{Terms}

-- a fact that was read: its shape, and the terms of its fields or of the values of its slots
pub record FactTerm : Type 0 where
  pub shape : Shape
  pub values : Terms
