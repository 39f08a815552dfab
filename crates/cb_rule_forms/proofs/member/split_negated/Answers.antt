use Rattle.std.proofs.Common.{◌∙◌, ◌∷◌, true, ap, sym}
use Rattle.cb_forms.specs.Members.{members}
use Rattle.cb_forms.specs.Trees.{tree_of}
use Rattle.cb_rule_forms.specs.Members.{check, members_in, missing, tilde_before}
use Rattle.cb_rule_forms.proofs.MemberLaws.{negated_mark}
use Rattle.cb_rule_forms.proofs.member.split_negated.Goals as goal

pub returns-in-None-clause-member : goal.returns-in-None-clause-member
returns-in-None-clause-member c =
    let is = c.in-Some.ensures.cases.0 in
    ap (λ fs. tilde_before (members_in (members fs))) is
    ∙ (negated_mark (tree_of c.in-Some.first.now) (members c.in-Some.following.now) c.in-None.ensures.check
    ∙ ap (λ fs. check true missing ∷ members_in (members fs)) (sym is))
