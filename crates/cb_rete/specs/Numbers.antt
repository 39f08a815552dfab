-- The numbers of the matches of rules.
use Rattle.std.specs.Prelude.{◌≡◌, ◌+◌, ◌++◌, ℕ, List, [], ◌∷◌, Some, flat_map, slice_get}
use Rattle.cb_branch.specs.Branches.{branch_numbers}
use Rattle.cb_branch.specs.declared.branch.Branch.{Branch}
use Rattle.cb_matches.specs.Chains.{In}
use Rattle.cb_matches.specs.Changes.{IsNumber, Numbers}
use Rattle.cb_matches.specs.Keys.{KeyValue}
use Rattle.cb_rete.specs.declared.rule.Rule.{Rule}

module _ {T : Type 0} where
  -- those of branches that stand from this place on in the rule with this number; of a rule; and of rules
  abbrev pub branches_numbers : ℕ → ℕ → List (Branch T) → Numbers
  branches_numbers rule at [] = []
  branches_numbers rule at (b ∷ bs) = branch_numbers rule at b ++ branches_numbers rule (at + 1) bs

  abbrev pub rule_numbers : Rule T → Numbers
  rule_numbers r = branches_numbers r.id 0 r.branches.items

  abbrev pub kept_numbers : List (Rule T) → Numbers
  kept_numbers rules = flat_map rule_numbers rules

  -- the match with this key is one of a branch of these, and has this number
  pub record IsNumberInBranches (rule : ℕ) (bs : List (Branch T)) (k : KeyValue) (n : ℕ) : Type 0 where
    pub place : ℕ
    pub branch : Branch T
    pub got : slice_get bs place ≡ Some branch
    pub has : IsNumber (branch_numbers rule place branch) k n

  -- of a rule of these
  pub record IsNumberInRules (rules : List (ℕ × Rule T)) (k : KeyValue) (n : ℕ) : Type 0 where
    pub entry : ℕ × Rule T
    pub there : In entry rules
    pub has : IsNumberInBranches entry.1.id entry.1.branches.items k n
