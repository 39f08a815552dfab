use Rattle.std.proofs.Common.{◌≡◌, ◌≢◌, IfOk, length, map, rules, subst, sym}
use Rattle.cb_branch.specs.Internal.ByValues.{IsKind}
use Rattle.cb_branch.proofs.Planned.{only_one}
use Rattle.cb_branch.proofs.kinds.kind_of.Goals as goal
use Rattle.cb_flat.proofs.Lone.{no_pattern, not_one}
use Rattle.cb_nodes.specs.Flat.{lone_pattern}
use Rattle.cb_rules.specs.Elements.{element_of, elements}

pub returns-then-inner-ne1 : goal.returns-then-inner-ne1
returns-then-inner-ne1 g c =
    let apart : length c.args.inner.now ≢ 1 = search rules in
    no_pattern (lone_pattern (elements (map element_of c.args.inner.now))) (sym (not_one element_of c.args.inner.now apart))

pub returns-in-None : goal.returns-in-None
returns-in-None g c =
    let one : length c.args.inner.now ≡ 1 = search rules in
    let is = only_one _ c.args.inner.now c.index-inner-0.result c.in-Pattern.address c.in-Pattern.pattern one c.index-inner-0.is c.in-Pattern.is c.in-None.is in
    subst (λ es. IfOk c.kind_by.result (λ kind. IsKind kind (lone_pattern es))) (sym is) c.kind_by.ensures
