use Rattle.std.specs.Cmp.Lexicographic.{slice_cmp}
use Rattle.std.specs.Ordering.{nat_cmp}
use Rattle.std.specs.declared.cmp.Ordering.TheVariants.{Less}
use Rattle.std.proofs.Common.{◌≡◌}
use Rattle.cb_fit.specs.Ways.{WayValue, ways}
use Rattle.cb_matches.proofs.Rising.{keys_rise}
use Rattle.cb_matches.proofs.Lists.{chain_from_pairs}
use Rattle.cb_matches.proofs.laws.the_keys_of_all_matches_rise.Goals as goal

pub returns : goal.returns
returns c = keys_rise (λ p f before. chain_from_pairs (λ (v : WayValue) (w : WayValue). slice_cmp nat_cmp v.cuts w.cuts ≡ Less) (ways p f before) (c.the_ways_rise_by_their_cuts.ensures p f before))
