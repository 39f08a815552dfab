use Rattle.std.proofs.Common.{◌∙◌, ap}
use Rattle.cb_templates.proofs.PlaceLaws.{match_lent}
use Rattle.cb_templates.proofs.TemplateLaws.{slots_by_order}
use Rattle.cb_templates.specs.Templates.{slots_of}
use Rattle.cb_templates.proofs.relations.Relations.template.Goals as goal

pub returns : goal.returns
returns c =
    match_lent c.get.result (slots_of c.args.self.now c.args.relation.now)
    (c.get.ensures.value ∙ slots_by_order c.self.inside.templates.entries c.args.relation.now ∙ ap (λ t. slots_of t c.args.relation.now) c.self.view_is)
