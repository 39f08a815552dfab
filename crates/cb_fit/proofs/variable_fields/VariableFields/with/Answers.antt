use Rattle.std.proofs.Common.{◌∙◌, ◌∷◌, [], ap, sym}
use Rattle.std.specs.Option.{option_or}
use Rattle.cb_fit.proofs.Passed.{field_of_both}
use Rattle.cb_fit.proofs.variable_fields.VariableFields.with.Goals as goal
use Rattle.cb_fit.specs.Comparisons.{field_of}

pub invariant_of-result : goal.invariant_of-result
invariant_of-result c = λ x.
    c.in_ok-note.ensures x
    ∙ (ap (λ o. option_or o (field_of (c.args.field ∷ []) x)) (c.self.invariant x)
    ∙ (sym (field_of_both c.self.inside.fields.items (c.args.field ∷ []) x) ∙ ap (λ js. field_of js x) (sym c.in_ok-push.ensures.items)))
