use Rattle.std.proofs.Common.{OnOk, subst, sym}
use Rattle.cb_beta.specs.BetaMemories.{HasFact, Loses}
use Rattle.cb_beta.proofs.memory.BetaMemory.remove_fact.Goals as goal

pub returns-in-Some : goal.returns-in-Some
returns-in-Some c =
    subst (λ it. OnOk c.remove_with_fact.result (Loses c.args.self.now c.remove_with_fact.new.self (HasFact it))) (sym c.in-Some.is) c.remove_with_fact.ensures.ok
