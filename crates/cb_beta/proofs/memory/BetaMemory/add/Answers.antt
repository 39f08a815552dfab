use Rattle.std.proofs.Common.{rules, Some}
use Rattle.cb_beta.proofs.FoundBy.{filed_more}
use Rattle.cb_beta.specs.Internal.{IsInserted}
use Rattle.cb_beta.specs.Tokens.{candidate_of}
use Rattle.cb_beta.proofs.memory.BetaMemory.add.Goals as goal
use Rattle.cb_groups.specs.Groups.{Updates}

pub invariant_of-self-in-Ok : goal.invariant_of-self-in-Ok
invariant_of-self-in-Ok c =
    let old = c.self.inside in
    let number = c.in_ok-number.number in
    let is : IsInserted old.tokens.slots c.insert.new.tokens.slots number c.args.token = search rules in
    let by_parent : Updates old.children c.file-filed.new.children number (Some c.args.token.parent) = search rules in
    let by_fact : Updates old.with_fact c.file-filed.new.with_fact number (candidate_of c.args.token) = search rules in
    filed_more old.tokens.slots c.insert.new.tokens.slots old.gone.items old.children old.with_fact c.self.invariant number c.args.token is c.file-filed.new.children c.file-filed.new.with_fact by_parent by_fact
