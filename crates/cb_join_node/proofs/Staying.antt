-- A join node that is ready stays so, where the same is there by the same or another word.
use Rattle.std.proofs.Common.{◌≡◌, ◌∙◌, ℕ, List, Option, Some, ap, subst, sym}
use Rattle.cb_alpha.specs.Buckets.{Filing}
use Rattle.cb_beta.specs.BetaMemories.{BetaMemoryValue, live}
use Rattle.cb_beta.specs.Tokens.{TokenValue}
use Rattle.cb_constraints.specs.PatternValues.{PatternValue}
use Rattle.cb_exprs.specs.Terms.{Term}
use Rattle.cb_facts.specs.Facts.{FactValue}
use Rattle.cb_fit.specs.declared.join_fields.JoinField.{JoinField}
use Rattle.cb_groups.specs.Groups.{Membership}
use Rattle.cb_join_node.specs.Filings.{ArePartialsFiled, IsFiled}
use Rattle.cb_join_node.specs.Joins.{Joins, JoinsOne}
use Rattle.cb_join_node.specs.Nodes.{IsReady, tests_of}
use Rattle.cb_join_node.specs.declared.node.JoinNode.{JoinNode}
use Rattle.cb_matches.specs.Matches.{Partial}
use Rattle.cb_token_lists.proofs.Keeping.{alike_back, tokens_stay}
use Rattle.cb_token_lists.specs.Keeping.{AreAlike, HasSameTokens}

partials_stay : (js : List JoinField) (filing : Filing) (strays : Membership) (at at' : ℕ → Partial) (There There' : ℕ → Type 0) → AreAlike at at' There There'
    → ArePartialsFiled js filing strays at There → ArePartialsFiled js filing strays at' There'
partials_stay js filing strays at at' There There' alike is = record {
  there = λ n h. let k = alike.from n h in subst (IsFiled js filing strays n) (alike.same n k) (is.there n k);
  filed = λ n vs e. alike.to n (is.filed n vs e);
  strayed = λ n g e. alike.to n (is.strayed n g e);
}

joins_stay : (x : Option (List ℕ)) (p : PatternValue) (ts : List Term) (at at' : ℕ → Partial) (There There' : ℕ → Type 0) (facts facts' : ℕ → Option (ℕ × FactValue))
    → AreAlike at at' There There' → ((n : ℕ) → facts n ≡ facts' n) → (t : TokenValue) → Joins x p ts at There facts t → Joins x p ts at' There' facts' t
joins_stay x p ts at at' There There' facts facts' alike same t h =
    (h.0, alike.to h.0 h.1, subst (λ m. JoinsOne x p ts m h.0 facts' t) (alike.same h.0 h.1) (h.2.0, (h.2.1.0, sym (same h.2.0) ∙ h.2.1.1, h.2.1.2)))

pub ready_stays : {T : Type 0} (node : JoinNode T) (at at' : ℕ → Partial) (There There' : ℕ → Type 0) (facts facts' : ℕ → Option (ℕ × FactValue)) (own own' : BetaMemoryValue)
    → IsReady node at There facts own → AreAlike at at' There There' → ((n : ℕ) → facts n ≡ facts' n) → HasSameTokens own own' → IsReady node at' There' facts' own'
ready_stays node at at' There There' facts facts' own own' is alike same tokens =
    let x = node.asked.address in
    let p = node.asked.pattern in
    let ts = tests_of node.asked in
    record {
      fields = is.fields;
      partials_filed = partials_stay node.asked.fields.items node.partials node.strays at at' There There' alike is.partials_filed;
      tokens = tokens_stay own own' (Joins x p ts at There facts) (Joins x p ts at' There' facts') (joins_stay x p ts at at' There There' facts facts' alike same)
          (joins_stay x p ts at' at There' There facts' facts (alike_back at at' There There' alike) (λ n. sym (same n))) tokens is.tokens;
    }

-- the number of its join says nothing of that
pub ready_with_join : {T : Type 0} (node : JoinNode T) (join : ℕ) (at : ℕ → Partial) (There : ℕ → Type 0) (facts : ℕ → Option (ℕ × FactValue)) (own : BetaMemoryValue)
    → IsReady node at There facts own → IsReady (record node { join = join }) at There facts own
ready_with_join node join at There facts own is = record { fields = is.fields; partials_filed = is.partials_filed; tokens = is.tokens }

-- a token goes on from what is there
pub goes_on_from : {T : Type 0} (node : JoinNode T) (at : ℕ → Partial) (There : ℕ → Type 0) (facts : ℕ → Option (ℕ × FactValue)) (own : BetaMemoryValue) (i : ℕ) (t : TokenValue)
    → IsReady node at There facts own → live own i ≡ Some t → There t.parent
goes_on_from node at There facts own i t is e =
    let h = is.tokens.are i t e in
    subst There (sym (ap (λ (it : TokenValue). it.parent) h.2.1.2.2.1)) h.1
