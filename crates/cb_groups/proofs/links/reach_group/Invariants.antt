use Rattle.std.proofs.Common.{◌≡◌, ℕ, length}
use Rattle.cb_groups.specs.Lines.{first_at}
use Rattle.cb_groups.proofs.links.reach_group.Given as goal

abbrev pub invariant-loop-turn : goal.invariant-loop-turn
invariant-loop-turn l = (length l.firsts.items ≡ l._turn) × ((g : ℕ) → first_at l.firsts.items g ≡ first_at l.initial.firsts.items g)
