use Rattle.std.proofs.Common.{◌≡◌, ◌∙◌, true, false, ap, sym}
use Rattle.cb_beta.proofs.Marking.{none_given}
use Rattle.cb_beta.specs.GivenValues.{values_taken}
use Rattle.cb_beta.specs.TakenFields.{TakenFieldsValue}
use Rattle.cb_exprs.specs.Bindings.{no_bindings, value_at, with_variables}
use Rattle.cb_beta.proofs.taken_fields.TakenFields.may_give.Goals as goal

pub returns : goal.returns
returns c = λ f h.
    let name = c.args.name.now in
    sym
    (none_given c.self.inside.marks c.self.inside.fields.items name f.content c.self.invariant
    (λ m. let no : true ≡ false = sym (c.is_marked.ensures.1 m) ∙ h in absurd (cc))
    ∙ ap (λ (it : TakenFieldsValue). value_at name (with_variables (values_taken it.fields f.content) no_bindings).variables) c.self.view_is)
