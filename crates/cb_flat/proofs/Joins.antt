-- What join nodes test, and the shape of the fact that is added tested once for each pattern, is what nodes may test.
use Rattle.std.proofs.Common.{◌≡◌, ◌≤◌, ℕ, ◌+◌, Bool, true, false, List, [], ◌∷◌, None, Some, cond, refl, subst, sym, arith}
use Rattle.cb_constraints.specs.PatternValues.{PatternValue}
use Rattle.cb_facts.specs.FactLists.{IndexedFacts}
use Rattle.cb_facts.specs.Facts.{FactValue}
use Rattle.cb_fit.specs.Shapes.{has_shape}
use Rattle.cb_flat.proofs.Whole.{probes_within}
use Rattle.cb_flat.specs.Joined.{flat_joins, flat_joins_of}
use Rattle.cb_flat.specs.Taking.{pattern_count, patterns_of}
use Rattle.cb_matches.specs.Order.{WaysRise}
use Rattle.cb_matches.specs.Probes.{added_probes, branch_probes}
use Rattle.cb_nodes.specs.Flat.{FlatNode, Lists, alone, branch_nodes, flat_probes, flat_probes_of, grouping, joining, testing}
use Rattle.cb_nodes.specs.Lists.{branch_lists}
use Rattle.cb_nodes.specs.Patterns.{HaveIndices}
use Rattle.cb_rules.specs.Elements.{Elements}

one_first : (a b : ℕ) → (a + b) + 1 ≡ a + (1 + b)
one_first a b = omega (arith)

both_sums : (a b c d e f : ℕ) → a + b ≡ c → d + e ≡ f → (a + d) + (b + e) ≡ c + f
both_sums a b c d e f h k = omega (arith, h, k)

-- the pattern of a group for which nothing is kept inside it is tested for the shape alone
shape_only : (p : PatternValue) (f : FactValue) → 1 ≡ added_probes p (Some f) 0
shape_only p f = go (has_shape p f)
  where
    go : (b : Bool) → 1 ≡ 1 + cond b 0 0
    go true = refl
    go false = refl

-- where a fact is added
node_joins : (f : FactValue) (fs' : IndexedFacts) (old new : Lists) (n : FlatNode) → flat_joins_of (Some f) fs' old new n + patterns_of n ≡ flat_probes_of (Some f) fs' old new n
node_joins f fs' old new (joining from x p ts) = one_first _ _
node_joins f fs' old new (testing from t) = refl
node_joins f fs' old new (grouping from inner positive width) = refl
node_joins f fs' old new (alone from p positive) = shape_only p f

all_joins : (f : FactValue) (fs' : IndexedFacts) (old new : Lists) (ns : List FlatNode) → flat_joins (Some f) fs' old new ns + pattern_count ns ≡ flat_probes (Some f) fs' old new ns
all_joins f fs' old new [] = refl
all_joins f fs' old new (n ∷ ns) = both_sums _ _ _ _ _ _ (node_joins f fs' old new n) (all_joins f fs' old new ns)

-- and where none is
node_only_joins : (fs' : IndexedFacts) (old new : Lists) (n : FlatNode) → flat_joins_of None fs' old new n ≡ flat_probes_of None fs' old new n
node_only_joins fs' old new (joining from x p ts) = refl
node_only_joins fs' old new (testing from t) = refl
node_only_joins fs' old new (grouping from inner positive width) = refl
node_only_joins fs' old new (alone from p positive) = refl

all_only_joins : (fs' : IndexedFacts) (old new : Lists) (ns : List FlatNode) → flat_joins None fs' old new ns ≡ flat_probes None fs' old new ns
all_only_joins fs' old new [] = refl
all_only_joins fs' old new (n ∷ ns) = let e = node_only_joins fs' old new n in let f = all_only_joins fs' old new ns in omega (arith, e, f)

-- so they are within what the branch may test
module _ (rise : WaysRise) (es : Elements) (fs fs' : IndexedFacts) (ns : List FlatNode) (indices : HaveIndices fs) (indices' : HaveIndices fs') (are : ns ≡ branch_nodes es) where
  pub joins_within : (f : FactValue) → flat_joins (Some f) fs' (branch_lists ns fs) (branch_lists ns fs') ns + pattern_count ns ≤ branch_probes (Some f) fs fs' es
  joins_within f = subst (λ it. it ≤ branch_probes (Some f) fs fs' es) (sym (all_joins f fs' (branch_lists ns fs) (branch_lists ns fs') ns)) (probes_within rise es fs fs' ns indices indices' are (Some f))

  pub only_joins_within : flat_joins None fs' (branch_lists ns fs) (branch_lists ns fs') ns ≤ branch_probes None fs fs' es
  only_joins_within = subst (λ it. it ≤ branch_probes None fs fs' es) (sym (all_only_joins fs' (branch_lists ns fs) (branch_lists ns fs') ns)) (probes_within rise es fs fs' ns indices indices' are None)
