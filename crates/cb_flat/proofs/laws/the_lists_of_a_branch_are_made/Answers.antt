use Rattle.std.proofs.Common.{◌≡◌}
use Rattle.std.specs.Cmp.Lexicographic.{slice_cmp}
use Rattle.std.specs.Ordering.{nat_cmp}
use Rattle.std.specs.declared.cmp.Ordering.TheVariants.{Less}
use Rattle.cb_fit.specs.Ways.{WayValue, ways}
use Rattle.cb_matches.proofs.Lists.{chain_from_pairs}
use Rattle.cb_matches.specs.Order.{WaysRise}
use Rattle.cb_flat.proofs.Whole.{branch_once, branch_wide, whole_nodes}
use Rattle.cb_flat.proofs.laws.the_lists_of_a_branch_are_made.Goals as goal

pub returns-clause-whole : goal.returns-clause-whole
returns-clause-whole c = whole_nodes

pub returns-clause-wide : goal.returns-clause-wide
returns-clause-wide c = branch_wide

pub returns-clause-once : goal.returns-clause-once
returns-clause-once c = let rise : WaysRise = λ p f b. chain_from_pairs (λ (v : WayValue) (w : WayValue). slice_cmp nat_cmp v.cuts w.cuts ≡ Less) (ways p f b) (c.the_ways_rise_by_their_cuts.ensures p f b) in branch_once rise
