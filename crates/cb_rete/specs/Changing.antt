-- A change of the facts, as rules see it.
use Rattle.std.specs.Prelude.{◌≡◌, ◌+◌, ◌-◌, ◌<◌, ◌≤◌, ℕ, List, Option, Some, None, length, slice_get, slice_set}
use Rattle.std.specs.BTreeMap.{BTreeMap, get, is_at, values}
use Rattle.std.specs.Map.{set_value}
use Rattle.std.specs.Ordering.{nat_cmp}
use Rattle.cb_alpha_network.specs.Networks.{AlphaNetworkValue, AlphasTurn, AreAlphas, HasChanged, IsShapeAt, MemoryValues}
use Rattle.cb_alpha_network.specs.declared.node_place.NodePlace.{NodePlace}
use Rattle.cb_branch.specs.Branches.{DifferBy, IsBranchOver, IsEntered, branch_elements, branch_numbers}
use Rattle.cb_branch.specs.Alphas.{live_facts, were_facts}
use Rattle.cb_branch.specs.Patterns.{shape_tests}
use Rattle.cb_branch.specs.declared.branch.Branch.{Branch}
use Rattle.cb_constraints.specs.PatternValues.{PatternValue}
use Rattle.cb_facts.specs.FactLists.{IndexedFacts}
use Rattle.cb_facts.specs.Facts.{FactValue}
use Rattle.cb_matches.specs.Chains.{In}
use Rattle.cb_matches.specs.Changes.{IsNumber, TellsMoreNumbers, TellsNumbers, come_of}
use Rattle.cb_matches.specs.Order.{IsRising}
use Rattle.cb_matches.specs.Probes.{branch_probes}
use Rattle.cb_matches.specs.declared.delta.Delta.{Delta}
use Rattle.cb_rete.specs.Numbers.{IsNumberInBranches, IsNumberInRules, kept_numbers}
use Rattle.cb_rete.specs.Rules.{AreRulesEntered, AreRulesOver, kept_branches, kept_rule, kept_rules}
use Rattle.cb_rete.specs.declared.rule.Rule.{Rule}
use Rattle.cb_rule_keys.specs.Changing.{IsBranchChanged, IsRuleChanged}
use Rattle.cb_rule_keys.specs.Keys.{Tells, branch_keys, rule_keys}
use Rattle.cb_rule_keys.specs.Numbers.{AreNamed}
use Rattle.cb_rule_keys.specs.Sums.{branches_sum, rules_sum}
use Rattle.cb_rules.specs.Elements.{Elements}

-- the alpha network in the change, the facts before the change and after it, the fact that comes or goes, and the fact that is added,
-- if one is
pub record TurnValue : Type 0 where
  pub network : AlphaNetworkValue
  pub before : IndexedFacts
  pub after : IndexedFacts
  pub fact : ℕ × FactValue
  pub added : Option FactValue

-- the alpha memories have changed already
pub record IsTurning (turn : TurnValue) : Type 0 where
  pub rising : IsRising turn.before
  pub rising_now : IsRising turn.after
  pub differ : DifferBy turn.fact turn.before turn.after
  pub comes : (f : ℕ × FactValue) → In f turn.after → (In f turn.before → ⊥) → turn.added ≡ Some f.1
  pub alphas : AlphasTurn turn.network turn.before turn.after

-- these are its memories, and the places of those that changed are found
pub record IsTurn (turn : TurnValue) (alphas : MemoryValues) (found : List NodePlace) : Type 0 where
  pub turning : IsTurning turn
  pub memories : alphas ≡ turn.network.memories
  pub within : (n : ℕ) (p : PatternValue) → IsShapeAt turn.network n p → n < length alphas
  pub changed : HasChanged turn.network found

-- how often the patterns of a branch may be tested besides for their shape
abbrev pub join_tests : TurnValue → Elements → ℕ
join_tests turn es = branch_probes turn.added turn.before turn.after es - shape_tests turn.added es

module _ {T : Type 0} where
  -- a branch before the change, and after it
  pub record IsBranchReady (turn : TurnValue) (rule n : ℕ) (b : Branch T) : Type 0 where
    pub over : IsBranchOver (were_facts turn.network.memories) turn.before b
    pub entered : IsEntered turn.network rule n b

  pub record IsBranchDone (turn : TurnValue) (rule n : ℕ) (b : Branch T) : Type 0 where
    pub over : IsBranchOver (live_facts turn.network.memories) turn.after b
    pub entered : IsEntered turn.network rule n b

  -- so are the branches of a rule
  abbrev pub AreBranchesReady : TurnValue → ℕ → List (Branch T) → Type 0
  AreBranchesReady turn rule bs = (n : ℕ) (b : Branch T) → slice_get bs n ≡ Some b → IsBranchReady turn rule n b

  abbrev pub AreBranchesDone : TurnValue → ℕ → List (Branch T) → Type 0
  AreBranchesDone turn rule bs = (n : ℕ) (b : Branch T) → slice_get bs n ≡ Some b → IsBranchDone turn rule n b

  -- and a rule
  abbrev pub IsRuleReady : TurnValue → Rule T → Type 0
  IsRuleReady turn r = AreBranchesReady turn r.id r.branches.items

  abbrev pub IsRuleDone : TurnValue → Rule T → Type 0
  IsRuleDone turn r = AreBranchesDone turn r.id r.branches.items

  -- a branch is changed, the one with this number of the rule with this number
  pub record IsBranchTurned (turn : TurnValue) (rule n : ℕ) (old new : Branch T) (delta delta' : Delta) (meter meter' : ℕ) : Type 0 where
    pub changed : IsBranchChanged branch_elements (IsBranchDone turn rule) turn.before turn.after (join_tests turn) rule n old new delta delta' meter meter'
    pub numbers : TellsMoreNumbers (IsNumber (branch_numbers rule n old)) (IsNumber (branch_numbers rule n new)) delta delta'

  -- the branch at a place is changed, if there is one, and no other
  abbrev pub IsBranchChangedFrom : TurnValue → ℕ → ℕ → Option (Branch T) → List (Branch T) → List (Branch T) → Delta → Delta → ℕ → ℕ → Type 0
  IsBranchChangedFrom turn rule n (Some old) bs bs' delta delta' meter meter' =
      (new : Branch T) × (bs' ≡ slice_set bs n new) × IsBranchTurned turn rule n old new delta delta' meter meter'
  IsBranchChangedFrom turn rule n None bs bs' delta delta' meter meter' = (bs' ≡ bs) × (delta' ≡ delta) × (meter' ≡ meter)

  abbrev pub IsBranchChangedAt : TurnValue → ℕ → ℕ → List (Branch T) → List (Branch T) → Delta → Delta → ℕ → ℕ → Type 0
  IsBranchChangedAt turn rule n bs bs' delta delta' meter meter' = IsBranchChangedFrom turn rule n (slice_get bs n) bs bs' delta delta' meter meter'

  -- the branches of a rule are changed
  pub record AreBranchesChanged (turn : TurnValue) (rule : ℕ) (old new : List (Branch T)) (delta delta' : Delta) (meter meter' : ℕ) : Type 0 where
    pub stay : kept_branches new ≡ kept_branches old
    pub done : AreBranchesDone turn rule new
    pub told : Tells delta delta' (branch_keys rule 0 (kept_branches old) turn.before) (branch_keys rule 0 (kept_branches old) turn.after)
    pub paid : meter' ≤ meter + branches_sum (join_tests turn) (kept_branches old)
    pub numbers : TellsMoreNumbers (IsNumberInBranches rule old) (IsNumberInBranches rule new) delta delta'

  -- a rule is, and the one with a number, if there is one, and no other
  pub record IsRuleTurned (turn : TurnValue) (old new : Rule T) (delta delta' : Delta) (meter meter' : ℕ) : Type 0 where
    pub changed : IsRuleChanged kept_rule (IsRuleDone turn) turn.before turn.after (join_tests turn) old new delta delta' meter meter'
    pub numbers : TellsMoreNumbers (IsNumberInBranches old.id old.branches.items) (IsNumberInBranches new.id new.branches.items) delta delta'

  abbrev pub IsRuleChangedFrom : TurnValue → ℕ → Option (Rule T) → BTreeMap ℕ (Rule T) → BTreeMap ℕ (Rule T) → Delta → Delta → ℕ → ℕ → Type 0
  IsRuleChangedFrom turn id (Some old) rules rules' delta delta' meter meter' =
      (new : Rule T) × (rules'.entries ≡ set_value (is_at (nat_cmp id)) rules.entries new) × IsRuleTurned turn old new delta delta' meter meter'
  IsRuleChangedFrom turn id None rules rules' delta delta' meter meter' = (rules'.entries ≡ rules.entries) × (delta' ≡ delta) × (meter' ≡ meter)

  abbrev pub IsRuleChangedAt : TurnValue → ℕ → BTreeMap ℕ (Rule T) → BTreeMap ℕ (Rule T) → Delta → Delta → ℕ → ℕ → Type 0
  IsRuleChangedAt turn id rules rules' delta delta' meter meter' = IsRuleChangedFrom turn id (get nat_cmp rules id) rules rules' delta delta' meter meter'

  -- rules before the change
  pub record AreRulesReady (turn : TurnValue) (rules : List (ℕ × Rule T)) : Type 0 where
    pub named : AreNamed kept_rule rules
    pub each : (e : ℕ × Rule T) → In e rules → IsRuleReady turn e.1

  -- and what the change does to them
  pub record AreRulesChanged (turn : TurnValue) (old new : BTreeMap ℕ (Rule T)) (delta delta' : Delta) (meter meter' : ℕ) : Type 0 where
    pub stay : kept_rules (values new) ≡ kept_rules (values old)
    pub named : AreNamed kept_rule new.entries
    pub done : (e : ℕ × Rule T) → In e new.entries → IsRuleDone turn e.1
    pub told : Tells delta delta' (rule_keys (kept_rules (values old)) turn.before) (rule_keys (kept_rules (values old)) turn.after)
    pub paid : meter' ≤ meter + rules_sum (join_tests turn) (kept_rules (values old))
    pub numbers : TellsMoreNumbers (IsNumberInRules old.entries) (IsNumberInRules new.entries) delta delta'

  -- what the change leaves when it has ended
  pub record AreRulesTurned (turn : TurnValue) (v : AlphaNetworkValue) (old new : BTreeMap ℕ (Rule T)) (delta : Delta) (meter meter' : ℕ) : Type 0 where
    pub stay : kept_rules (values new) ≡ kept_rules (values old)
    pub named : AreNamed kept_rule new.entries
    pub alphas : AreAlphas v turn.after
    pub over : AreRulesOver (live_facts v.memories) turn.after new.entries
    pub entered : AreRulesEntered v new.entries
    pub gone : delta.gone.items ≡ come_of (rule_keys (kept_rules (values old)) turn.after) (rule_keys (kept_rules (values old)) turn.before)
    pub come : delta.come.items ≡ come_of (rule_keys (kept_rules (values old)) turn.before) (rule_keys (kept_rules (values old)) turn.after)
    pub paid : meter' ≤ meter + rules_sum (join_tests turn) (kept_rules (values old))
    pub numbers : TellsNumbers (IsNumber (kept_numbers (values old))) (IsNumber (kept_numbers (values new))) delta
