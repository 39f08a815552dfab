-- A group node stays ready, where the same numbers stand for the same partial matches.
use Rattle.std.proofs.Common.{◌≡◌, ◌∙◌, ◌↔◌, ℕ, List, Some, ap, subst, sym}
use Rattle.cb_beta.specs.BetaMemories.{BetaMemoryValue, live}
use Rattle.cb_beta.specs.Tokens.{TokenValue}
use Rattle.cb_group_node.specs.Nodes.{AreBehind, IsGroupReady, IsInside}
use Rattle.cb_group_node.specs.declared.node.GroupNode.{GroupNode}
use Rattle.cb_groups.specs.Groups.{Membership}
use Rattle.cb_matches.specs.Matches.{Partial}
use Rattle.cb_nodes.specs.Lists.{group_with}
use Rattle.cb_token_lists.proofs.Keeping.{tokens_stay}
use Rattle.cb_token_lists.specs.Keeping.{AreAlike, HasSameTokens}

module _ (Met Met' : ℕ → ℕ → Type 0) (Within Within' : ℕ → Type 0) (to : (i : ℕ) → Within i → Within' i) (from : (i : ℕ) → Within' i → Within i)
    (met : (i g : ℕ) → Within i → Met g i ↔ Met' g i) where
  inside_stays : (inside : Membership) → IsInside Met Within inside → IsInside Met' Within' inside
  inside_stays inside is = record {
    are = λ i g e. let k = is.are i g e in (to i k.0, (met i g k.0).0 k.1);
    all = λ i g there m. let k = from i there in is.all i g k ((met i g k).1 m);
  }

  pub group_stays : (node : GroupNode) (at at' : ℕ → Partial) (There There' : ℕ → Type 0) (complete : List Partial) (own own' : BetaMemoryValue)
      → IsGroupReady node Met at There Within complete own → AreAlike at at' There There' → HasSameTokens own own' → IsGroupReady node Met' at' There' Within' complete own'
  group_stays node at at' There There' complete own own' is alike same = record {
    inside = inside_stays node.inside is.inside;
    waiting = is.waiting;
    tokens = tokens_stay own own' (AreBehind node.positive complete at There) (AreBehind node.positive complete at' There')
        (λ t h. (h.0, alike.to h.0 h.1, ap (group_with node.positive complete) (sym (alike.same h.0 h.1)) ∙ h.2, h.3))
        (λ t h. let there = alike.from h.0 h.1 in (h.0, there, ap (group_with node.positive complete) (alike.same h.0 there) ∙ h.2, h.3))
        same is.tokens;
  }

-- what a token goes on from is there
pub parent_there : (node : GroupNode) (Met : ℕ → ℕ → Type 0) (at : ℕ → Partial) (There Within : ℕ → Type 0) (complete : List Partial) (own : BetaMemoryValue)
    → IsGroupReady node Met at There Within complete own → (i : ℕ) (t : TokenValue) → live own i ≡ Some t → There t.parent
parent_there node Met at There Within complete own is i t e =
    let h = is.tokens.are i t e in
    subst There (ap (λ (it : TokenValue). it.parent) (sym h.3)) h.1
