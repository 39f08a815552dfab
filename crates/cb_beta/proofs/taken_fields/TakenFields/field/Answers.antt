use Rattle.std.proofs.Common.{◌≡◌, ◌∙◌, true, false, ap, sym}
use Rattle.cb_beta.proofs.Marking.{none_given}
use Rattle.cb_beta.specs.GivenValues.{values_taken}
use Rattle.cb_beta.specs.TakenFields.{TakenFieldsValue}
use Rattle.cb_exprs.specs.Bindings.{no_bindings, value_at, with_variables}
use Rattle.cb_beta.proofs.taken_fields.TakenFields.field.Goals as goal

pub returns-then-not-is_marked : goal.returns-then-not-is_marked
returns-then-not-is_marked c =
    let name = c.args.name.now in
    let content = c.args.fact.now.content in
    none_given c.self.inside.marks c.self.inside.fields.items name content c.self.invariant
    (λ h. let no : true ≡ false = sym (c.is_marked.ensures.1 h) ∙ c.if-not-is_marked.true in absurd (cc))
    ∙ ap (λ (it : TakenFieldsValue). value_at name (with_variables (values_taken it.fields content) no_bindings).variables) c.self.view_is
