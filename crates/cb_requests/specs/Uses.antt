-- Which relations are in use.
use Rattle.std.specs.Prelude.{◌||◌, ℕ, Bool, List}
use Rattle.std.specs.List.{list_any}
use Rattle.std.specs.Str.{bytes_eq}
use Rattle.cb_knowledge_base.specs.Deffacts.{DeffactsTable, is_named_in_deffacts}
use Rattle.cb_knowledge_base.specs.KnowledgeBase.{Memory}
use Rattle.cb_rules.specs.RuleInfos.{RuleInfo}

-- the name is among these
abbrev pub has_name : List ℕ → List (List ℕ) → Bool
has_name wanted names = list_any (λ name. bytes_eq name wanted) names

-- a rule names the relation
abbrev pub is_named_in_rules : List ℕ → List RuleInfo → Bool
is_named_in_rules relation rules = list_any (λ r. has_name relation r.relations) rules

-- a relation is in use: a fact that is there, a rule or a fact of a `deffacts` names it
abbrev pub is_in_use : Memory → List RuleInfo → DeffactsTable → List ℕ → Bool
is_in_use memory rules deffacts relation =
    list_any (λ entry. bytes_eq entry.1.relation relation) memory.network.facts || (is_named_in_rules relation rules || is_named_in_deffacts relation deffacts)
