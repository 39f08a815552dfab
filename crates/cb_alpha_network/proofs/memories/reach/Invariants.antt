use Rattle.std.proofs.Common.{◌≡◌, ℕ, length}
use Rattle.cb_alpha_network.specs.Networks.{memory_in}
use Rattle.cb_alpha_network.proofs.memories.reach.Given as goal

abbrev pub invariant-loop-turn : goal.invariant-loop-turn
invariant-loop-turn l = (length l.all.items ≡ l._turn) × ((n : ℕ) → memory_in l.all.items n ≡ memory_in l.initial.all.items n)
