use Rattle.std.proofs.Common.{◌⊎◌, drop}
use Rattle.cb_alpha_network.proofs.Found.{AreAdded}
use Rattle.cb_alpha_network.proofs.asked.Asked.add_numbers.Given as goal
use Rattle.cb_alpha_network.specs.declared.spots.Spot.{Spot}
use Rattle.cb_matches.specs.Chains.{In}

abbrev pub invariant-loop-spot : goal.invariant-loop-spot
invariant-loop-spot l = (s : Spot) → In s l.spot-items → AreAdded l.self l.fact l.found.items s ⊎ In s (drop l.spot-index l.spot-items)
