use Rattle.std.proofs.Common.{◌≡◌, ◌∙◌, ◌↔◌, ℕ, None, map, subst, sym, true}
use Rattle.cb_alpha.proofs.LiveNumbers.{were_is}
use Rattle.cb_alpha.specs.AlphaMemories.{AlphaMemoryValue}
use Rattle.cb_alpha.specs.Internal.Joined.{fields_of}
use Rattle.cb_alpha.specs.Turning.{were_in}
use Rattle.cb_alpha.proofs.alpha_memory.AlphaMemory.was_empty.Goals as goal

pub returns : goal.returns
returns c =
    let m = c.self.inside in
    let value : AlphaMemoryValue = record { candidates = m.candidates.slots; gone = m.gone; come = m.come; joins = map fields_of m.joins.items } in
    subst (λ (it : AlphaMemoryValue). (c.has_no_other.result ≡ true) ↔ ((n : ℕ) → were_in it n ≡ None)) c.self.view_is (
      λ t n. were_is value n ∙ c.has_no_other.ensures.0 t n,
      λ none. c.has_no_other.ensures.1 (λ n. sym (were_is value n) ∙ none n),
    )
