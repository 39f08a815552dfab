use Rattle.std.proofs.Common.{◌≡◌, ◌↔◌, ℕ, None, subst, true}
use Rattle.cb_alpha.specs.AlphaMemories.{AlphaMemoryValue, live}
use Rattle.cb_alpha.proofs.alpha_memory.AlphaMemory.is_empty.Goals as goal

pub returns : goal.returns
returns c = subst (λ (it : AlphaMemoryValue). (c.has_no_other.result ≡ true) ↔ ((n : ℕ) → live it n ≡ None)) c.self.view_is c.has_no_other.ensures
