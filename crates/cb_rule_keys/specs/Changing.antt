-- What a change of the facts does to a rule, and to a branch.
use Rattle.std.specs.Prelude.{◌≡◌, ◌+◌, ◌≤◌, ℕ}
use Rattle.cb_facts.specs.FactLists.{IndexedFacts}
use Rattle.cb_matches.specs.declared.delta.Delta.{Delta}
use Rattle.cb_rule_keys.specs.Keys.{Tells, branch_keys, keys_in_branch}
use Rattle.cb_rule_keys.specs.Numbers.{Kept}
use Rattle.cb_rule_keys.specs.Sums.{branches_sum}
use Rattle.cb_rules.specs.Elements.{Elements}

-- a rule becomes another that is right after the change, and this is told and paid
pub record IsRuleChanged {V : Type 0} (kept : V → Kept) (After : V → Type 0) (fs fs' : IndexedFacts) (cost : Elements → ℕ) (old new : V) (delta delta' : Delta) (meter meter' : ℕ) : Type 0 where
  pub stay : kept new ≡ kept old
  pub is : After new
  pub told : Tells delta delta' (branch_keys (kept old).0 0 (kept old).1 fs) (branch_keys (kept old).0 0 (kept old).1 fs')
  pub paid : meter' ≤ meter + branches_sum cost (kept old).1

-- so does a branch, by its place in the rule
pub record IsBranchChanged {B : Type 0} (of : B → Elements) (After : ℕ → B → Type 0) (fs fs' : IndexedFacts) (cost : Elements → ℕ) (rule n : ℕ) (old new : B) (delta delta' : Delta) (meter meter' : ℕ) : Type 0 where
  pub stay : of new ≡ of old
  pub is : After n new
  pub told : Tells delta delta' (keys_in_branch rule n (of old) fs) (keys_in_branch rule n (of old) fs')
  pub paid : meter' ≤ meter + cost (of old)
