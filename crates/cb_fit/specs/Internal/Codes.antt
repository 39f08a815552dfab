-- How the logic stores selections.
use Rattle.std.specs.Prelude.{List, refl}
use Rattle.std.specs.Coded.{Coded, code_by, coded_list, coded×}
use Rattle.cb_constraints.specs.PatternValues.{PatternValue}
use Rattle.cb_fit.specs.Shapes.{SelectionValue}
use Rattle.cb_fit.specs.declared.own_field.OwnField.{OwnField}

module _ (pattern : Coded PatternValue) (own : Coded OwnField) where
  abbrev pub selection_code : Coded SelectionValue
  selection_code = code_by (PatternValue × List OwnField) (coded× pattern (coded_list own)) (λ s. (s.shape, s.own)) (λ p. record { shape = p.0; own = p.1 }) (λ _. refl)
