-- The rules that are defined: the one with a number, and the one with a name; what a rule has that was looked up.
use Rattle.std.specs.Prelude.{ℕ, ℤ, pos, Bool, List, [], ◌∷◌, Option, Some, None, nat_eq, slice_get, if◌then◌else◌}
use Rattle.std.specs.Str.{bytes_eq}
use Rattle.cb_rules.specs.RuleInfos.{RuleInfo}

-- the rule with the number, if there is one
abbrev pub rule_numbered : ℕ → List RuleInfo → Option RuleInfo
rule_numbered id [] = None
rule_numbered id (r ∷ rs) = if nat_eq id r.id then Some r else rule_numbered id rs

-- the rule with the name, if there is one
abbrev pub rule_named : List ℕ → List RuleInfo → Option RuleInfo
rule_named name [] = None
rule_named name (r ∷ rs) = if bytes_eq name r.name then Some r else rule_named name rs

-- the salience of a rule; 0 where there is none
abbrev pub salience_of : Option RuleInfo → ℤ
salience_of None = pos 0
salience_of (Some r) = r.salience

-- the layout of a branch of a rule, if there is one
abbrev pub layout_of : Option RuleInfo → ℕ → Option (List Bool)
layout_of None branch = None
layout_of (Some r) branch = slice_get r.layouts branch
