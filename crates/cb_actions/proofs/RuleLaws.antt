-- The names of rules that are kept.
use Rattle.std.proofs.Common.{◌≡◌, ◌∙◌, ℕ, List, Option, None, Some, Result, Ok, Err, OnOk, option_map, ap, refl}
use Rattle.cb_rules.specs.RuleInfos.{RuleInfo}
use Rattle.cb_rules.specs.RuleTables.{rule_named}

pub none_named : (o : Option RuleInfo) → option_map (λ r. r.id) o ≡ None → o ≡ None
none_named None e = refl
none_named (Some r) e = absurd (cc)

-- a name that no rule has once one is gone
pub gone_named : {E : Type 0} (r : Result (Unit {0}) E) (rules gone : List RuleInfo) (name : List ℕ) → OnOk r (rules ≡ gone) → rule_named name gone ≡ None → OnOk r (rule_named name rules ≡ None)
gone_named (Ok u) rules gone name is none = ap (rule_named name) is ∙ none
gone_named (Err e) rules gone name is none = tt
