use Rattle.std.proofs.Common.{◌≡◌, ◌∙◌, Err, [], rules, subst, sym}
use Rattle.cb_facts.specs.Results.{Returns}
use Rattle.cb_forms.specs.Members.{members}
use Rattle.cb_templates.proofs.TemplateFaultLaws.{slots_refused}
use Rattle.cb_facts.specs.FaultLists.{ReadsAs}
use Rattle.cb_templates.specs.Internal.{slots_after}
use Rattle.cb_templates.specs.TemplateFaults.{template_faults}
use Rattle.cb_templates.specs.TemplateShapes.{template_shape}
use Rattle.cb_templates.proofs.relations.read_template.Goals as goal

pub returns-in_err-template : goal.returns-in_err-template
returns-in_err-template c =
    let forms = members c.args.forms.now in
    let is : c.from_residual.result ≡ Err c.in_err-template.field-0.0 = search rules in
    let slots = subst (λ ts. Returns (Err c.in_err-template.field-0.0) (slots_after [] ts)) c.without_comment.ensures c.in_err-template.ensures in
    subst (λ it. ReadsAs (λ x. x) it (template_faults (λ _. c.args.in_use) forms) (template_shape forms)) (sym is)
    (slots_refused (λ x. x) (template_shape forms) (λ _. c.args.in_use) forms c.in-Some.name.now (members c.in-Some.forms.now) c.in_err-template.field-0.0 c.in-Some.ensures (sym c.is_reserved.ensures ∙ c.if-is_reserved.false) c.if-in_use.false slots)
