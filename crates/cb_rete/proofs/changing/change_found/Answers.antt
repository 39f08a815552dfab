use Rattle.std.proofs.Common.{◌≡◌, ◌∙◌, ℕ, Option, Some, ap, nat_cmp, subst, sym}
use Rattle.std.specs.BTreeMap.{is_at}
use Rattle.std.specs.Map.{lookup}
use Rattle.std.specs.Option.{option_copied_mut}
use Rattle.cb_rete.proofs.Results.{on_one}
use Rattle.cb_rete.proofs.changing.change_found.Goals as goal
use Rattle.cb_rete.specs.Changing.{IsRuleChangedFrom}
use Rattle.cb_rete.specs.Found.{AreAllOfRule}
use Rattle.cb_rete.specs.declared.rule.Rule.{Rule}

pub returns-in-Some : goal.returns-in-Some
returns-in-Some g c =
    let rules = c.args.rules.now in
    let id : ℕ = c.args.id in
    let rule : Rule g.row.T.Denot = c.in-Some.rule.now in
    let new : Rule g.row.T.Denot = c.change_rule.new.rule in
    let there : lookup (is_at (nat_cmp id)) rules.entries ≡ Some rule = sym c.get_mut.ensures.value ∙ ap option_copied_mut c.in-Some.is in
    on_one c.change_rule.result c.change_rule.ensures
    (λ now turn is of ready.
    let one = ready rule there in
    subst (λ (o : Option (Rule g.row.T.Denot)). IsRuleChangedFrom turn id o rules (c.get_mut.follows.lender new) c.args.delta.now c.change_rule.new.delta c.args.meter.now c.change_rule.new.meter) (sym there)
    (new, (c.get_mut.follows.holds new).0, now turn is (subst (λ n. AreAllOfRule c.args.found.now c.args.from c.args.end n) (sym one.0) of) one.1))
