use Rattle.std.proofs.Common.{rules, ◌≡◌, subst}
use Rattle.cb_beta.proofs.FoundBy.{children_filed, children_lost}
use Rattle.cb_beta.proofs.Members.{behind_is}
use Rattle.cb_beta.specs.BetaMemories.{Loses}
use Rattle.cb_beta.specs.Internal.{AreLeft}
use Rattle.cb_beta.proofs.memory.BetaMemory.remove_children.Goals as goal

pub invariant_of-self-2 : goal.invariant_of-self-2
invariant_of-self-2 c =
    let old = c.self.inside in
    let l = c.in_ok-take.ensures.all in
    let more = behind_is old.gone.items l.members c.take.new.all.items c.as_slice.result.now c.len-start.result l.is (search rules) c.as_slice.ensures.value in
    children_filed old.tokens.slots old.gone.items old.come.items old.children old.with_fact c.self.invariant c.args.parent c.take.new.all.items l c.take.new.self c.leave.new.groups
    c.in_ok-take.ensures.groups (subst (AreLeft old.with_fact c.leave.new.groups) more c.leave.ensures)

pub returns-clause-ok : goal.returns-clause-ok
returns-clause-ok c =
    let old = c.self.inside in
    let gone = c.take.new.all.items in
    subst (λ it. Loses it (record { tokens = old.tokens.slots; gone = gone; come = old.come.items }) (λ t. t.parent ≡ c.args.parent)) c.self.view_is
    (children_lost old.tokens.slots old.gone.items old.come.items old.children old.with_fact c.self.invariant c.args.parent gone c.in_ok-take.ensures.all)
