use Rattle.std.proofs.Common.{◌≡◌, ◌∙◌, ◌++◌, ◌∷◌, [], List, ap, refl, rules, subst, sym}
use Rattle.std.specs.Map.{values_of}
use Rattle.cb_rules.proofs.NumberedLaws.{number_by, numbered-pushed, numbered-undone, values-push}
use Rattle.cb_rules.proofs.TableLaws.{goes_after, is_absent, own-pushed}
use Rattle.cb_rules.specs.Internal.{AreUnderOwn, IsTable}
use Rattle.cb_rules.specs.RuleInfos.{RuleInfo}
use Rattle.cb_rules.proofs.rule_table.RuleTable.push.Goals as goal

pub invariant_of-self-in-Ok : goal.invariant_of-self-in-Ok
invariant_of-self-in-Ok c =
    let id_is = ap (λ (r : RuleInfo). r.id) c.rule.view_is in
    let after = goes_after c.self.inside.rules.entries c.args.self.now c.rule.inside.id c.args.rule.id id_is c.self.view_is c.self.invariant.own c.requires.number in
    let absent = is_absent c.self.inside.rules.entries c.args.self.now c.args.rule.name c.self.view_is c.requires.name in
    let same : c.in_ok-shared.shared ≡ c.args.rule.name = search rules in
    record {
      own = subst AreUnderOwn (sym c.in-Ok.ensures.entries) (own-pushed c.self.inside.rules.entries c.rule.inside.id c.args.rule c.self.invariant.own id_is after);
      names = numbered-pushed (λ r. r.name) c.self.inside.rules c.insert-2.new.self c.self.inside.numbers c.insert.new.self c.rule.inside.id c.args.rule c.args.rule.name c.in_ok-shared.shared
          c.self.invariant.names same refl absent after c.in-Ok.ensures.updates c.in_ok-insert.ensures.updates c.insert-2.ensures.ordered;
    }

pub returns-in-Ok-clause-ok : goal.returns-in-Ok-clause-ok
returns-in-Ok-clause-ok c =
    let id_is = ap (λ (r : RuleInfo). r.id) c.rule.view_is in
    let after = goes_after c.self.inside.rules.entries c.args.self.now c.rule.inside.id c.args.rule.id id_is c.self.view_is c.self.invariant.own c.requires.number in
    ap values_of c.in-Ok.ensures.entries ∙ values-push c.self.inside.rules.entries c.rule.inside.id c.args.rule after
    ∙ ap (λ (rs : List RuleInfo). rs ++ c.args.rule ∷ []) c.self.view_is

pub invariant_of-self-in-Err : goal.invariant_of-self-in-Err
invariant_of-self-in-Err c =
    let absent = is_absent c.self.inside.rules.entries c.args.self.now c.args.rule.name c.self.view_is c.requires.name in
    let same : c.in_ok-shared.shared ≡ c.args.rule.name = search rules in
    let back : c.rule-in-Err.inside.name ≡ c.args.rule.name = ap (λ (r : RuleInfo). r.name) c.rule-in-Err.view_is ∙ ap (λ p. p.1.name) c.in-Err.ensures.value_returned in
    subst (λ es. IsTable es (number_by c.remove.new.self)) (sym c.in-Err.ensures.err) (record {
      own = c.self.invariant.own;
      names = numbered-undone (λ r. r.name) c.self.inside.rules.entries c.self.inside.numbers c.insert.new.self c.remove.new.self c.rule.inside.id c.args.rule.name c.in_ok-shared.shared c.rule-in-Err.inside.name
          c.self.invariant.names same back absent c.in_ok-insert.ensures.updates c.remove.ensures.updates;
    })
