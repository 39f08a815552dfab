-- Lists whose tokens go on from tokens that can be read.
use Rattle.std.proofs.Common.{◌≡◌, ℕ, List, Some, slice_get, subst}
use Rattle.cb_beta.specs.BetaMemories.{BetaMemoryValue}
use Rattle.cb_beta.specs.Tokens.{TokenValue, token_at}
use Rattle.cb_list_changes.proofs.Places.{token_is, token_of}
use Rattle.cb_list_changes.specs.Resting.{AreRooted}
use Rattle.cb_token_lists.specs.Partials.{AreClosed, LeadsTo, Meets, SourceValue, leads_here, leads_below, meets_here, meets_below, tokens_in}
use Rattle.cb_token_lists.specs.Turns.{IsReadable}

module _ (sources : List SourceValue) (lists : List BetaMemoryValue) (rooted : AreRooted sources lists) where
  pub closed : AreClosed sources lists
  closed = record {
    below = rooted.below;
    there = λ k j i s t is from there.
        let u = rooted.parents k i s t is there in
        (u.0, subst (λ (n : ℕ). token_at (tokens_in lists n) t.parent ≡ Some u.0) from u.1);
  }

  -- going down from what can be read, one that can be read is met
  pub goes_down_to : (from inner i : ℕ) (t : TokenValue) → LeadsTo sources from inner → token_at (tokens_in lists inner) i ≡ Some t
      → (g : ℕ) × (u : TokenValue) × (token_at (tokens_in lists from) g ≡ Some u) × Meets sources lists from g inner i
  goes_down_to from inner i t leads_here there = (i, t, there, meets_here)
  goes_down_to from inner i t (leads_below k s is more) there =
      let u = rooted.parents k i s t is there in
      let g = goes_down_to from s.from t.parent u.0 more u.1 in
      (g.0, g.1, g.2, meets_below k i s t is there g.3)

  pub descends : (from inner i : ℕ) (before within : BetaMemoryValue) → LeadsTo sources from inner → slice_get lists from ≡ Some before → slice_get lists inner ≡ Some within → IsReadable within i
      → (g : ℕ) × IsReadable before g × Meets sources lists from g inner i
  descends from inner i before within leads is inside h =
      let g = goes_down_to from inner i h.0 leads (token_is lists inner i within h.0 inside h.1) in
      (g.0, (g.1, token_of lists from g.0 before g.1 is g.2), g.3)
