use Rattle.std.proofs.Common.{◌≡◌, ◌∙◌, Option, Some, ap, nat_eq, not, option_map, subst, sym}
use Rattle.std.specs.BTreeMap.{is_at}
use Rattle.std.specs.List.{filter}
use Rattle.std.specs.Map.{values_of}
use Rattle.std.specs.Ordering.{nat_cmp}
use Rattle.cb_rules.proofs.NumberedLaws.{numbered-taken}
use Rattle.cb_rules.proofs.TableLaws.{own-taken, taken}
use Rattle.cb_rules.specs.Internal.{AreUnderOwn, name_under}
use Rattle.cb_rules.specs.RuleInfos.{RuleInfo}
use Rattle.cb_rules.proofs.rule_table.RuleTable.remove.Goals as goal

pub returns-in_default : goal.returns-in_default
returns-in_default c =
    ap values_of c.remove.ensures.entries ∙ taken c.self.inside.rules.entries c.args.id c.self.invariant.own c.self.invariant.names.rising
    ∙ ap (filter (λ (r : RuleInfo). not (nat_eq c.args.id r.id))) c.self.view_is

pub invariant_of-self-2 : goal.invariant_of-self-2
invariant_of-self-2 c =
    let name_is : c.rule.inside.name ≡ c.in-Some.rule.name = ap (λ (r : RuleInfo). r.name) c.rule.view_is in
    let there : name_under (λ (r : RuleInfo). r.name) c.self.inside.rules.entries c.args.id ≡ Some c.rule.inside.name =
    ap (λ (o : Option RuleInfo). option_map (λ r. r.name) o) (sym c.in-Some.ensures.value) ∙ ap Some (sym name_is) in
    record {
      own = subst AreUnderOwn (sym c.remove.ensures.entries) (own-taken c.self.inside.rules.entries (is_at (nat_cmp c.args.id)) c.self.invariant.own);
      names = numbered-taken (λ r. r.name) c.self.inside.rules c.remove.new.self c.self.inside.numbers c.remove-2.new.self c.args.id c.rule.inside.name c.self.invariant.names there
          c.remove.ensures.updates c.remove-2.ensures.updates c.remove.ensures.ordered;
    }

pub returns : goal.returns
returns c =
    ap values_of c.remove.ensures.entries ∙ taken c.self.inside.rules.entries c.args.id c.self.invariant.own c.self.invariant.names.rising
    ∙ ap (filter (λ (r : RuleInfo). not (nat_eq c.args.id r.id))) c.self.view_is
