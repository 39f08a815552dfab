use Rattle.std.proofs.Common.{◌∙◌, ap₂, map, take}
use Rattle.cb_rule_forms.specs.Internal.{form_value}
use Rattle.cb_rules.specs.Elements.{elements}
use Rattle.cb_rule_forms.proofs.KnownLaws.{known_again}
use Rattle.cb_rule_forms.proofs.mentions.+binding.Goals as goal

pub bind_group-returns : goal.bind_group-returns
bind_group-returns t c = (
  c.in_ok-bind_elements.ensures.0,
  c.truncate.ensures
      ∙ (ap₂ (λ n names. take n names) c.len-count.ensures c.in_ok-bind_elements.ensures.1
      ∙ known_again c.args.known.now (elements (map form_value c.args.inner.now))),
)
