use Rattle.std.proofs.Common.{◌∙◌, IfSome, ap, map, subst, sym}
use Rattle.cb_beta.specs.TakenFields.{TakenFieldsValue}
use Rattle.cb_branch.proofs.JoinedByValues.{known_join, not_compared, other_join}
use Rattle.cb_branch.proofs.by_values.asked_by.Goals as goal
use Rattle.cb_branch.specs.Internal.ByValues.{IsElsewhere, IsJoinedBy}
use Rattle.cb_exprs.specs.Terms.{term_of}
use Rattle.cb_matches.specs.Chains.{In}

pub returns-in_ok-new-in-Some-clause-fields : goal.returns-in_ok-new-in-Some-clause-fields
returns-in_ok-new-in-Some-clause-fields g c =
    let elsewhere = subst (λ o. IfSome o (λ it. IsElsewhere c.args.address c.args.pattern it.compared.items)) c.in-Some.is c.in_ok-by.ensures.address in
    known_join c.args.address c.args.pattern c.in-Some.by.compared.items c.args.bound.now c.in_ok-known.known.items c.in_ok-known.ensures elsewhere

pub returns-in_ok-new-in-Some-clause-by_values : goal.returns-in_ok-new-in-Some-clause-by_values
returns-in_ok-new-in-Some-clause-by_values g c =
    let elsewhere = subst (λ o. IfSome o (λ it. IsElsewhere c.args.address c.args.pattern it.compared.items)) c.in-Some.is c.in_ok-by.ensures.address in
    let decided = subst (λ o. IfSome o (λ it. IsJoinedBy c.args.pattern it.compared.items (map term_of it.conditions.items))) c.in-Some.is c.in_ok-by.ensures.decided in
    record {
      decided = decided.decided;
      unchosen = decided.unchosen;
      fields = c.in_ok-known.ensures;
      taken = ap (λ (it : TakenFieldsValue). it.fields) c.in_ok-new-in-Some.ensures.ok ∙ (c.new-taken.ensures.fields ∙ c.in_ok-fields-in-Some.ensures);
      compared = decided.compared;
      conditional = decided.conditional;
      cuts = ap (λ (it : TakenFieldsValue). it.cuts) c.in_ok-new-in-Some.ensures.ok ∙ (c.new-taken.ensures.cuts ∙ c.in_ok-ones-in-Some.ensures);
      address = λ x e. let apart = elsewhere x e in (apart.0, λ d h. not_compared x c.in-Some.by.compared.items apart.1 d (subst (In d) (sym decided.compared) h));
    }

pub returns-in_ok-others-in-None-clause-fields : goal.returns-in_ok-others-in-None-clause-fields
returns-in_ok-others-in-None-clause-fields g c =
    other_join c.args.address c.args.pattern c.args.bound.now c.in_ok-others-in-None.field-0.items c.in_ok-known.known.items c.in_ok-known.ensures c.in_ok-others-in-None.ensures
