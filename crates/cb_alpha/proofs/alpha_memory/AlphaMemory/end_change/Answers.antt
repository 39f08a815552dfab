use Rattle.std.proofs.Common.{rules, ◌≡◌, ℕ, None, Some}
use Rattle.cb_alpha.proofs.FoundFacts.{ended, found_ended}
use Rattle.cb_alpha.proofs.LiveNumbers.{listed_alike}
use Rattle.cb_alpha.specs.AlphaMemories.{live_in}
use Rattle.cb_alpha.specs.Internal.FactNumbers.{number_by}
use Rattle.cb_alpha.specs.Internal.Joined.{AreListed, IsFound}
use Rattle.cb_alpha.proofs.alpha_memory.AlphaMemory.end_change.Goals as goal

pub invariant_of-self : goal.invariant_of-self
invariant_of-self c =
    let m = c.self.inside in
    let was : IsFound m.candidates.slots (Some c.in-Some.number) (number_by m.numbers) m.joins.items = search rules in
    let listed : AreListed m.all (live_in m.candidates.slots (Some c.in-Some.number)) = search rules in (
      found_ended m.candidates.slots (number_by m.numbers) m.joins.items c.in-Some.number was c.try_remove.new.self.slots c.try_remove.ensures.updates.changed c.try_remove.ensures.updates.others,
      λ n e. absurd (none_is n e),
      listed_alike m.all (live_in m.candidates.slots (Some c.in-Some.number)) listed (live_in c.try_remove.new.self.slots None)
          (ended m.candidates.slots (number_by m.numbers) m.joins.items c.in-Some.number was c.try_remove.new.self.slots c.try_remove.ensures.updates.changed c.try_remove.ensures.updates.others),
    )
  where
    none_is : (n : ℕ) → None ≡ Some n → ⊥
    none_is n e = cc
