use Rattle.std.proofs.Common.{◌≡◌, ◌↔◌, ◌+◌, ℕ, suc}
use Rattle.cb_token_lists.specs.Partials.{partial_at, partial_in}
use Rattle.cb_token_lists.proofs.reading.TokenLists.has_parts.Given as goal

abbrev pub invariant-loop : goal.invariant-loop
invariant-loop l =
    (n : ℕ) → n + l.counter ≡ suc l.list
    → ((partial_at l.self.sources.now l.self.lists.now l.list l.number).parts ≡ l.parts) ↔ ((partial_in l.self.sources.now l.self.lists.now n l.reached l.met).parts ≡ l.left)
