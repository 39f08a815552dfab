-- What all tokens of a list take that is joined by values.
use Rattle.std.specs.Prelude.{ℕ, List}
use Rattle.cb_fit.specs.declared.join_fields.JoinField.{JoinField}

-- the fields of a fact that give variables their values, and the lengths of the segments of the way
pub record TakenFieldsValue : Type 0 where
  pub fields : List JoinField
  pub cuts : List ℕ
