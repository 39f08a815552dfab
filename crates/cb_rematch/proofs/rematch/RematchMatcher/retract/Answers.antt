use Rattle.std.proofs.Common.{subst}
use Rattle.cb_matches.specs.Changes.{IsNumber, TellsNumbers}
use Rattle.cb_matches.specs.Networks.{Network}
use Rattle.cb_rematch.specs.Numbering.{zero_numbers}
use Rattle.cb_rematch.proofs.rematch.RematchMatcher.retract.Goals as goal

pub returns-clause-numbers : goal.returns-clause-numbers
returns-clause-numbers g c =
    let now : Network = record { rules = c.self.inside.rules.items; facts = c.self.inside.facts } in
    let told = c.in_ok-delta.ensures.numbers now (c.self.invariant c.if-self.false) in
    subst (λ v. TellsNumbers (IsNumber v.numbers) (IsNumber (zero_numbers (record { rules = c.self.inside.rules.items; facts = c.remove.new.self }))) c.in_ok-delta.delta) c.self.view_is
    (subst (λ rs. TellsNumbers (IsNumber (zero_numbers now)) (IsNumber (zero_numbers (record { rules = rs; facts = c.remove.new.self }))) c.in_ok-delta.delta) c.as_slice.ensures.value told)
