use Rattle.std.proofs.Common.{◌≡◌, ℕ, take}
use Rattle.cb_beta.specs.BetaMemories.{live_in}
use Rattle.cb_beta.specs.Tokens.{token_at}
use Rattle.cb_beta.proofs.filing.free.Given as goal

abbrev pub invariant-loop-number : goal.invariant-loop-number
invariant-loop-number l = (i : ℕ) → token_at l.tokens.slots i ≡ live_in l.initial.tokens.slots (take l.number-index l.numbers) i
