-- The numbers of the matches: nothing is kept for one from a change to the next, so each has the number 0.
use Rattle.std.specs.Prelude.{map}
use Rattle.cb_matches.specs.Changes.{Numbers}
use Rattle.cb_matches.specs.Networks.{Network, all_keys}

abbrev pub zero_numbers : Network → Numbers
zero_numbers n = map (λ k. (k, 0)) (all_keys n)
