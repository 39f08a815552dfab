-- A group of one pattern that stands alone stays ready, where the same numbers stand for the same partial matches.
use Rattle.std.proofs.Common.{◌≡◌, ◌∙◌, ℕ, Bool, true, false, Option, Some, ap, subst, sym}
use Rattle.cb_beta.specs.BetaMemories.{BetaMemoryValue, live}
use Rattle.cb_beta.specs.Tokens.{TokenValue}
use Rattle.cb_lone_node.specs.LoneNodes.{ArePassedAlone, IsLoneReady, PassesAll}
use Rattle.cb_lone_node.specs.declared.node.LoneNode.{LoneNode}
use Rattle.cb_matches.proofs.Growth.{Fact}
use Rattle.cb_matches.specs.Matches.{Partial}
use Rattle.cb_token_lists.proofs.Keeping.{tokens_stay}
use Rattle.cb_token_lists.specs.Keeping.{AreAlike, HasSameTokens}

passes_so : (positive : Bool) (facts facts' : ℕ → Option Fact) → ((n : ℕ) → facts n ≡ facts' n) → PassesAll positive facts → PassesAll positive facts'
passes_so true facts facts' same h = λ none. h (λ n. same n ∙ none n)
passes_so false facts facts' same h = λ n. sym (same n) ∙ h n

module _ {T : Type 0} (node : LoneNode T) (There There' : ℕ → Type 0) (facts facts' : ℕ → Option Fact) (own own' : BetaMemoryValue) where
  pub lone_stays : (at at' : ℕ → Partial) → IsLoneReady node There facts own → AreAlike at at' There There' → ((n : ℕ) → facts n ≡ facts' n) → HasSameTokens own own'
      → IsLoneReady node There' facts' own'
  lone_stays at at' is alike same_facts same = record {
    stands = is.stands;
    parents = record { are = λ n e. alike.to n (is.parents.are n e); all = λ n h. is.parents.all n (alike.from n h) };
    tokens = tokens_stay own own' (ArePassedAlone node.positive facts There) (ArePassedAlone node.positive facts' There')
        (λ t h. (h.0, alike.to h.0 h.1, passes_so node.positive facts facts' same_facts h.2, h.3))
        (λ t h. (h.0, alike.from h.0 h.1, passes_so node.positive facts' facts (λ n. sym (same_facts n)) h.2, h.3)) same is.tokens;
  }

-- what a token goes on from is there
pub parent_there : {T : Type 0} (node : LoneNode T) (There : ℕ → Type 0) (facts : ℕ → Option Fact) (own : BetaMemoryValue) → IsLoneReady node There facts own
    → (i : ℕ) (t : TokenValue) → live own i ≡ Some t → There t.parent
parent_there node There facts own is i t e =
    let h = is.tokens.are i t e in
    subst There (ap (λ (it : TokenValue). it.parent) (sym h.3)) h.1
