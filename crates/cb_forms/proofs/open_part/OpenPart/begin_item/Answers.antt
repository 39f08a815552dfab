use Rattle.std.proofs.Common.{[], ◌∷◌, ◌++◌, sym, ap, ◌∙◌, arith}
use Rattle.cb_forms.proofs.RunLaws.{takes-first}
use Rattle.cb_forms.proofs.open_part.OpenPart.begin_item.Goals as goal

pub returns-clause-begun : goal.returns-clause-begun
returns-clause-begun c =
    let b = c.args.byte in
    takes-first c.args.limit b c.args.self.now _ c.requires.kept c.requires.none (sym c.takes.ensures ∙ c.if-takes.false) (omega (arith, c.if-limit-eq0.false)) c.in_ok-push.ensures c.fresh-state.ensures.mode c.fresh-state.ensures.depth (c.and-self.ensures ∙ ap (λ it. it ++ b ∷ []) c.new.ensures) (sym c.is_open.ensures ∙ c.if-not-is_open.false)
