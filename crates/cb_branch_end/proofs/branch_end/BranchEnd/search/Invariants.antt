use Rattle.std.proofs.Common.{ℕ, take}
use Rattle.cb_branch_end.specs.Internal.{IsMatch}
use Rattle.cb_branch_end.specs.TellingKeys.{at_end}
use Rattle.cb_matches.specs.Chains.{In}
use Rattle.cb_branch_end.proofs.branch_end.BranchEnd.search.Given as goal

abbrev pub invariant-loop-number : goal.invariant-loop-number
invariant-loop-number l = (n : ℕ) → In n (take l.number-index l.number-items) → IsMatch (at_end l.self) l.memory l.parts n → ⊥
