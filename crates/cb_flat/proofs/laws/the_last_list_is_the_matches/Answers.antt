use Rattle.std.proofs.Common.{◌≡◌}
use Rattle.std.specs.Cmp.Lexicographic.{slice_cmp}
use Rattle.std.specs.Ordering.{nat_cmp}
use Rattle.std.specs.declared.cmp.Ordering.TheVariants.{Less}
use Rattle.cb_fit.specs.Ways.{WayValue, ways}
use Rattle.cb_matches.proofs.Lists.{chain_from_pairs}
use Rattle.cb_matches.specs.Order.{WaysRise}
use Rattle.cb_flat.proofs.Last.{last_is}
use Rattle.cb_flat.proofs.Named.{branch_last_is_there}
use Rattle.cb_flat.proofs.laws.the_last_list_is_the_matches.Goals as goal

pub returns-clause-is : goal.returns-clause-is
returns-clause-is c = let rise : WaysRise = λ p f b. chain_from_pairs (λ (v : WayValue) (w : WayValue). slice_cmp nat_cmp v.cuts w.cuts ≡ Less) (ways p f b) (c.the_ways_rise_by_their_cuts.ensures p f b) in last_is rise

pub returns-clause-there : goal.returns-clause-there
returns-clause-there c = branch_last_is_there
