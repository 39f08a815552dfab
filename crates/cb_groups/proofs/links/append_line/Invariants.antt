use Rattle.std.proofs.Common.{◌≡◌, ◌++◌, ℕ, List}
use Rattle.cb_groups.specs.Lines.{IsInLine}
use Rattle.cb_groups.proofs.Lines.{IsWalked}
use Rattle.cb_groups.proofs.links.append_line.Given as goal

abbrev pub invariant-loop-turn : goal.invariant-loop-turn
invariant-loop-turn l =
    ((more : List ℕ) × (l.all.items ≡ l.initial.all.items ++ more))
    × ((group before : ℕ) (members : List ℕ) → IsInLine l.links.items group before l.initial.next members → IsWalked l.links.items group l.initial.all.items l.all.items l.next members l._turn)
