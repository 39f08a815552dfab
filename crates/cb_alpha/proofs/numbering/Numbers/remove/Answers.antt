use Rattle.std.proofs.Common.{◌∙◌, ap, refl, sym}
use Rattle.cb_alpha.proofs.NumberedBuckets.{all_less}
use Rattle.cb_alpha.specs.Internal.Numbered.{filed_under}
use Rattle.cb_alpha.specs.declared.numbering.Numbers.{Numbers}
use Rattle.cb_alpha.proofs.numbering.Numbers.remove.Goals as goal

pub returns : goal.returns
returns c = λ old new was unmade.
    let ns = c.args.self.now in
    let ns' : Numbers = record { filed = c.drop_filed.new.filed; aside = c.remove.new.self; is_ordered = ns.is_ordered } in
    all_less ns ns' refl old new c.args.number c.args.values.now was unmade c.remove.ensures.updates
    (λ m h there. c.drop_filed.ensures.gone m (c.mix-mix.ensures ∙ h) there)
    (λ d. c.drop_filed.ensures.other (λ e. d (ap (filed_under ns.filed) (sym c.mix-mix.ensures) ∙ e)))
