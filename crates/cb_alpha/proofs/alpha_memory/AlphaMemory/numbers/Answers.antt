use Rattle.std.proofs.Common.{subst}
use Rattle.cb_alpha.proofs.LiveNumbers.{are_numbers}
use Rattle.cb_alpha.specs.AlphaMemories.{AlphaMemoryValue, live}
use Rattle.cb_alpha.specs.Internal.Joined.{AreListed}
use Rattle.cb_alpha.proofs.alpha_memory.AlphaMemory.numbers.Goals as goal

pub returns : goal.returns
returns c =
    let m = c.args.self.now in
    let all = c.self.inside.all in
    let listed : AreListed all (live m) = subst (λ (it : AlphaMemoryValue). AreListed all (live it)) c.self.view_is c.self.invariant.2 in
    are_numbers m all listed c.members.result.now c.members.ensures
