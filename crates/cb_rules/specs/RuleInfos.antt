-- What is kept of rules besides their conditions.
use Rattle.std.specs.Prelude.{ℕ, ℤ, Bool, List}
use Rattle.cb_exprs.specs.Terms.{Terms, terms}
use Rattle.cb_rules.specs.RuleValues.{RuleValue}

-- What is kept of a rule besides what it asks: its number and name, its salience, the relations that its patterns and actions
-- name, of each branch which of its members outside tests are patterns and which are groups, and its actions.
pub record RuleInfo : Type 0 where
  pub id : ℕ
  pub name : List ℕ
  pub salience : ℤ
  pub relations : List (List ℕ)
  pub layouts : List (List Bool)
  pub actions : Terms

-- that of a rule which has no number yet
abbrev pub info_of : RuleValue → RuleInfo
info_of r = record { id = 0; name = r.name; salience = r.salience; relations = r.relations; layouts = r.layouts; actions = terms r.actions }
