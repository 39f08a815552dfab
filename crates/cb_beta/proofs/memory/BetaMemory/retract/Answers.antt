use Rattle.cb_beta.proofs.Losses.{on_ok, then}
use Rattle.cb_beta.specs.BetaMemories.{HasFact}
use Rattle.cb_beta.proofs.memory.BetaMemory.retract.Goals as goal
use Rattle.cb_matches.specs.Chains.{In}

pub returns : goal.returns
returns c =
    on_ok c.remove_fact.result
    (then c.args.self.now c.remove_all_children.new.self (λ t. In t.parent c.args.gone_before.now) c.in_ok-remove_all_children.ensures c.remove_fact.new.self (HasFact c.args.candidate))
    c.remove_fact.ensures
