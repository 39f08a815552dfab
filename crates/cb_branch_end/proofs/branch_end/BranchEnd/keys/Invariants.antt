use Rattle.std.proofs.Common.{◌≡◌, ◌++◌, ℕ, drop, map}
use Rattle.cb_branch_end.specs.Internal.{key_at}
use Rattle.cb_branch_end.proofs.branch_end.BranchEnd.keys.Given as goal

abbrev pub invariant-loop-number : goal.invariant-loop-number
invariant-loop-number l = l.keys.items ++ map (λ (n : ℕ). (key_at l.self n, n)) (drop l.number-index l.numbers) ≡ map (λ (n : ℕ). (key_at l.self n, n)) l.numbers
