-- What decides whether a pattern fits, as values of the program.
use Rattle.std.specs.Borrow.{Bor}
use Rattle.std.specs.Prelude.{List, map}
use Rattle.cb_exprs.specs.Terms.{Term, term_of}
use Rattle.cb_exprs.specs.declared.expr.Expr.{Expr}
use Rattle.cb_fit.specs.Comparisons.{ChoiceFieldValue, DecisionValue}
use Rattle.cb_fit.specs.declared.choice_field.ChoiceField.{ChoiceField}
use Rattle.cb_fit.specs.declared.decision.Decision.{Decision}

-- the field with alternatives that a `ChoiceField` of the program is
abbrev pub choice_field_of : ChoiceField → ChoiceFieldValue
choice_field_of c = record { place = c.place; variables = c.variables.items }

-- the terms that expressions of the program are
abbrev pub terms_at : List (Bor Expr) → List Term
terms_at es = map (λ e. term_of e.now) es

-- what decides, by a `Decision` of the program
abbrev pub decision_of : Decision → DecisionValue
decision_of d = record { compared = d.compared.items; chosen = map choice_field_of d.chosen.items; conditions = terms_at d.conditions.items }
