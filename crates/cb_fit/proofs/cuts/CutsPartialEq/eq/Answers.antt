use Rattle.std.proofs.Common.{◌∙◌, ap, ap₂, nat_eq, rules, sym}
use Rattle.std.specs.Cmp.Lexicographic.{pointwise, texts_ties}
use Rattle.std.specs.Ordering.{is_eq}
use Rattle.cb_fit.proofs.Ones.{ones_are_as_many}
use Rattle.cb_fit.specs.Internal.Lengths.{lengths_in}
use Rattle.cb_fit.proofs.cuts.CutsPartialEq.eq.Goals as goal

pub returns-in-Ones-Ones : goal.returns-in-Ones-Ones
returns-in-Ones-Ones c = search (rules, ones_are_as_many)

pub returns-in_default : goal.returns-in_default
returns-in_default c =
    c.is_eq.ensures
    ∙ (ap is_eq c.order_of.ensures
    ∙ (sym (texts_ties (lengths_in c.self.inside.lengths) (lengths_in c.other.inside.lengths)) ∙ ap₂ (pointwise nat_eq) c.self.view_is c.other.view_is))
