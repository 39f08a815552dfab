use Rattle.std.proofs.Common.{◌≡◌, bytes_eq, false, rules, subst}
use Rattle.std.specs.List.{list_any}
use Rattle.cb_branch.proofs.by_values.decided_by.Goals as goal
use Rattle.cb_fit.specs.Plain.{bound_names, is_named}
use Rattle.cb_fit.specs.declared.comparison.ComparedField.{ComparedField}

pub returns-clause-address : goal.returns-clause-address
returns-clause-address g c = λ x e.
    let apart = c.stands_in.ensures c.if-stands_in.false x e in
    let names : c.as_slice.result.now ≡ bound_names c.args.pattern.now = search rules in
    let compared : c.as_slice-compared.result.now ≡ c.in-Some.decision.compared.items = search rules in
    (subst (λ it. is_named x it ≡ false) names apart.0, subst (λ it. list_any (λ (d : ComparedField). bytes_eq x d.variable) it ≡ false) compared apart.1)
