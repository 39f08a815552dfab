use Rattle.std.proofs.Common.{◌≡◌, ◌+◌, ℕ, suc}
use Rattle.cb_exprs.specs.Bindings.{value_at}
use Rattle.cb_token_lists.specs.Partials.{partial_at, partial_in}
use Rattle.cb_token_lists.proofs.reading.TokenLists.value.Given as goal

abbrev pub invariant-loop : goal.invariant-loop
invariant-loop l =
    (n : ℕ) → n + l.counter ≡ suc l.list
    → value_at l.name (partial_at l.self.sources.now l.self.lists.now l.list l.number).env.variables ≡ value_at l.name (partial_in l.self.sources.now l.self.lists.now n l.reached l.met).env.variables
