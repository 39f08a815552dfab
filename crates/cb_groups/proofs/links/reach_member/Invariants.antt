use Rattle.std.proofs.Common.{◌≡◌, ℕ, length}
use Rattle.cb_groups.specs.Lines.{link_at}
use Rattle.cb_groups.proofs.links.reach_member.Given as goal

abbrev pub invariant-loop-turn : goal.invariant-loop-turn
invariant-loop-turn l = (length l.links.items ≡ l._turn) × ((m : ℕ) → link_at l.links.items m ≡ link_at l.initial.links.items m)
