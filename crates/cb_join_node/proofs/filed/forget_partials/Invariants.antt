use Rattle.std.proofs.Common.{ℕ, take}
use Rattle.cb_join_node.specs.Filings.{IsNowhere, IsSamePlace}
use Rattle.cb_matches.specs.Chains.{In}
use Rattle.cb_join_node.proofs.filed.forget_partials.Given as goal

abbrev pub invariant-loop-number : goal.invariant-loop-number
invariant-loop-number l =
    ((number : ℕ) → In number (take l.number-index l.numbers) → IsNowhere l.partials l.strays number)
    × ((number : ℕ) → (In number (take l.number-index l.numbers) → ⊥) → IsSamePlace l.initial.partials l.initial.strays l.partials l.strays number)
