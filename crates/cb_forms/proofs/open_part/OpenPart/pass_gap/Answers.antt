use Rattle.std.proofs.Common.{[], ◌∷◌, ◌++◌, refl, ap, ◌∙◌}
use Rattle.cb_forms.proofs.RunLaws.{takes-comment, takes-gap}
use Rattle.cb_forms.proofs.open_part.OpenPart.pass_gap.Goals as goal

pub returns-then-is_comment_with-clause-passed : goal.returns-then-is_comment_with-clause-passed
returns-then-is_comment_with-clause-passed c =
    let is = c.is_comment_with.ensures.yes c.if-is_comment_with.true in
    λ limit. takes-comment limit c.args.byte c.args.self.now _ c.requires.kept c.requires.none is.0 is.1 refl refl refl c.and-self.ensures

pub returns-clause-passed : goal.returns-clause-passed
returns-clause-passed c =
    let b = c.args.byte in
    let out = c.is_comment_with.ensures.no c.if-is_comment_with.false in
    λ limit. takes-gap limit b c.args.self.now _ c.requires.kept c.requires.none out c.in-Some.ensures.0 refl c.in-Some.ensures.1 refl (c.and-self-2.ensures ∙ ap (λ it. it ++ b ∷ []) c.new.ensures)
