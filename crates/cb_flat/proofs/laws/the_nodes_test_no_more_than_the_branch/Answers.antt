use Rattle.std.proofs.Common.{◌≡◌, refl}
use Rattle.std.specs.Cmp.Lexicographic.{slice_cmp}
use Rattle.std.specs.Ordering.{nat_cmp}
use Rattle.std.specs.declared.cmp.Ordering.TheVariants.{Less}
use Rattle.cb_fit.specs.Ways.{WayValue, ways}
use Rattle.cb_matches.proofs.Lists.{chain_from_pairs}
use Rattle.cb_matches.specs.Order.{WaysRise}
use Rattle.cb_flat.proofs.Joins.{joins_within, only_joins_within}
use Rattle.cb_flat.proofs.laws.the_nodes_test_no_more_than_the_branch.Goals as goal
use Rattle.cb_nodes.specs.Flat.{branch_nodes}

pub returns-clause-added : goal.returns-clause-added
returns-clause-added c = let rise : WaysRise = λ p f b. chain_from_pairs (λ (v : WayValue) (w : WayValue). slice_cmp nat_cmp v.cuts w.cuts ≡ Less) (ways p f b) (c.the_ways_rise_by_their_cuts.ensures p f b) in λ es f fs fs' before now. joins_within rise es fs fs' (branch_nodes es) before now refl f

pub returns-clause-taken : goal.returns-clause-taken
returns-clause-taken c = let rise : WaysRise = λ p f b. chain_from_pairs (λ (v : WayValue) (w : WayValue). slice_cmp nat_cmp v.cuts w.cuts ≡ Less) (ways p f b) (c.the_ways_rise_by_their_cuts.ensures p f b) in λ es fs fs' before now. only_joins_within rise es fs fs' (branch_nodes es) before now refl
