-- Sums over branches and over rules.
use Rattle.std.proofs.Common.{◌≡◌, ◌≤◌, ◌+◌, ℕ, List, [], ◌∷◌, ◌++◌, arith}
use Rattle.cb_matches.specs.Networks.{Conditions}
use Rattle.cb_rule_keys.specs.Sums.{branches_sum, rules_sum}
use Rattle.cb_rules.specs.Elements.{Elements}

-- two sums within a third, where they are so at each branch
module _ (part rest whole : Elements → ℕ) (within : (es : Elements) → part es + rest es ≤ whole es) where
  pub branches_within : (bs : List Elements) → branches_sum part bs + branches_sum rest bs ≤ branches_sum whole bs
  branches_within [] = omega arith
  branches_within (es ∷ bs) = let l = within es in let more = branches_within bs in omega (arith, l, more)

  pub rules_within : (rs : Conditions) → rules_sum part rs + rules_sum rest rs ≤ rules_sum whole rs
  rules_within [] = omega arith
  rules_within (r ∷ rs) = let l = branches_within r.1 in let more = rules_within rs in omega (arith, l, more)

-- of more rules
pub rules_sum_with : (of : Elements → ℕ) (rs ss : Conditions) → rules_sum of (rs ++ ss) ≡ rules_sum of rs + rules_sum of ss
rules_sum_with of [] ss = omega arith
rules_sum_with of (r ∷ rs) ss = let more = rules_sum_with of rs ss in omega (arith, more)

-- of one branch more
pub branches_sum_with : (of : Elements → ℕ) (bs : List Elements) (es : Elements) → branches_sum of (bs ++ es ∷ []) ≡ branches_sum of bs + of es
branches_sum_with of [] es = omega arith
branches_sum_with of (b ∷ bs) es = let more = branches_sum_with of bs es in omega (arith, more)
