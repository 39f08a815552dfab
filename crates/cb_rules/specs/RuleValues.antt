-- What rules are.
use Rattle.std.specs.Prelude.{ℕ, ℤ, Bool, List, map}
use Rattle.cb_exprs.specs.Terms.{Term, term_of}
use Rattle.cb_rules.specs.Elements.{Elements, branches_of}
use Rattle.cb_rules.specs.declared.rule.Rule as program

-- A rule. Each branch is what one way through the `or` elements asks; without them there is one. Its layout says of each of
-- its elements that is a pattern or a group whether it is a pattern.
pub record RuleValue : Type 0 where
  pub name : List ℕ
  pub salience : ℤ
  pub branches : List Elements
  pub layouts : List (List Bool)
  pub actions : List Term
  pub relations : List (List ℕ)

module _ {T : Type 0} where
  -- the rule that a `Rule` of the program is
  abbrev pub rule_value : program.Rule T → RuleValue
  rule_value r = record {
    name = r.name;
    salience = r.salience;
    branches = branches_of r.branches.items;
    layouts = r.layouts.items;
    actions = map term_of r.actions.items;
    relations = r.relations.items;
  }
