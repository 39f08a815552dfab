-- A group of one pattern that is looked up stays ready, where the same numbers stand for the same partial matches.
use Rattle.std.proofs.Common.{◌≡◌, ◌∙◌, ℕ, Bool, true, false, List, Option, Some, None, ap, subst, sym}
use Rattle.cb_alpha.specs.AlphaMemories.{values_in}
use Rattle.cb_alpha.specs.Buckets.{values_at}
use Rattle.cb_alpha.specs.JoinValues.{variable_values}
use Rattle.cb_beta.specs.BetaMemories.{BetaMemoryValue, live}
use Rattle.cb_beta.specs.Tokens.{TokenValue}
use Rattle.cb_facts.specs.declared.value.Value.{Value}
use Rattle.cb_fit.specs.declared.comparison.ComparedField.{ComparedField}
use Rattle.cb_fit.specs.declared.comparison.Comparison.{Comparison}
use Rattle.cb_fit.specs.declared.join_fields.JoinField.{JoinField}
use Rattle.cb_groups.specs.Groups.{group_of}
use Rattle.cb_lookup_node.specs.LookupNodes.{AreKept, ArePassedOn, HasPlace, HasSeen, IsLookupReady, Looking, Passes, SeesBy, SeesFact, SeesOne, by_witness, compares_with, filed_by, in_order, looking_of}
use Rattle.cb_lookup_node.specs.declared.node.LookupNode.{LookupNode}
use Rattle.cb_lookup_node.specs.declared.sight.Sight.{Sight}
use Rattle.cb_lookup_node.specs.declared.sight.Sight.TheVariants as sight
use Rattle.cb_matches.proofs.Growth.{Fact}
use Rattle.cb_matches.specs.Matches.{Partial}
use Rattle.cb_scopes.specs.Scopes.{Scope}
use Rattle.cb_token_lists.proofs.Keeping.{alike_back, tokens_stay}
use Rattle.cb_token_lists.specs.Keeping.{AreAlike, HasSameTokens}

seen_so : (comparison : Option Comparison) (js : List JoinField) (facts facts' : ℕ → Option Fact) → ((n : ℕ) → facts n ≡ facts' n) → (vs : List Value) → HasSeen comparison js facts vs → HasSeen comparison js facts' vs
seen_so None js facts facts' same vs h = (h.0, ap (values_in js) (sym (same h.0)) ∙ h.1)
seen_so (Some c) js facts facts' same vs h = (h.0, h.1, (h.2.0, ap (values_in js) (sym (same h.2.0)) ∙ h.2.1))

sees_so : (comparison : Option Comparison) (js : List JoinField) (facts facts' : ℕ → Option Fact) → ((n : ℕ) → facts n ≡ facts' n) → (m m' : Partial) → m ≡ m' → SeesOne comparison js facts m → SeesOne comparison js facts' m'
sees_so comparison js facts facts' same m m' e h =
    (h.0, ap (λ (it : Partial). variable_values js it.env) (sym e) ∙ h.1, seen_so comparison js facts facts' same h.0 h.2)

-- the same fact is seen
pub fact_so : (cs : List ComparedField) (js : List JoinField) (facts facts' : ℕ → Option Fact) (m m' : Partial) → m ≡ m' → (k : ℕ) → facts k ≡ facts' k → SeesFact cs js facts m k → SeesFact cs js facts' m' k
fact_so cs js facts facts' m m' e k same (vs, is, has, so) = (
  vs,
  ap (λ (it : Partial). variable_values js it.env) (sym e) ∙ is,
  ap (values_in js) (sym same) ∙ has,
  ap (λ it. compares_with cs it m') (sym same) ∙ (ap (λ it. compares_with cs (facts k) it) (sym e) ∙ so),
)

sees_by : (looking : Looking) (js : List JoinField) (facts facts' : ℕ → Option Fact) → ((n : ℕ) → facts n ≡ facts' n) → (m m' : Partial) → m ≡ m' → SeesBy looking js facts m → SeesBy looking js facts' m'
sees_by (in_order comparison) js facts facts' same m m' e h = sees_so comparison js facts facts' same m m' e h
sees_by (by_witness cs) js facts facts' same m m' e h = (h.0, fact_so cs js facts facts' m m' e h.0 (same h.0) h.1)

-- and the same place is right
placed_so : (cs : List ComparedField) (js : List JoinField) (facts facts' : ℕ → Option Fact) → ((n : ℕ) → facts n ≡ facts' n) → (m m' : Partial) → m ≡ m' → (witness : Option ℕ) (filed : Option (List Value))
    → HasPlace cs js facts m witness filed → HasPlace cs js facts' m' witness filed
placed_so cs js facts facts' same m m' e (Some k) filed h = (fact_so cs js facts facts' m m' e k (same k) h.0, h.1)
placed_so cs js facts facts' same m m' e None filed h =
    (h.0 ∙ ap (λ (it : Partial). variable_values js it.env) e, λ k sees. h.1 k (fact_so cs js facts' facts m' m (sym e) k (sym (same k)) sees))

passes_so : (positive : Bool) (One Other : Type 0) → (One → Other) → (Other → One) → Passes positive One → Passes positive Other
passes_so true One Other to from h = to h
passes_so false One Other to from h = λ k. h (from k)

passed_so : (positive : Bool) (looking : Looking) (js : List JoinField) (facts facts' : ℕ → Option Fact) → ((n : ℕ) → facts n ≡ facts' n) → (at at' : ℕ → Partial) (There There' : ℕ → Type 0) → AreAlike at at' There There'
    → (t : TokenValue) → ArePassedOn positive looking js facts at There t → ArePassedOn positive looking js facts' at' There' t
passed_so positive looking js facts facts' same at at' There There' alike t h =
    let e = alike.same h.0 h.1 in (
      h.0,
      alike.to h.0 h.1,
      passes_so positive (SeesBy looking js facts (at h.0)) (SeesBy looking js facts' (at' h.0)) (sees_by looking js facts facts' same (at h.0) (at' h.0) e)
          (sees_by looking js facts' facts (λ n. sym (same n)) (at' h.0) (at h.0) (sym e)) h.2,
      h.3,
    )

kept_so : (it : Sight) (js : List JoinField) (facts facts' : ℕ → Option Fact) → ((n : ℕ) → facts n ≡ facts' n) → (at at' : ℕ → Partial) (There There' : ℕ → Type 0) → AreAlike at at' There There'
    → AreKept it js at There facts → AreKept it js at' There' facts'
kept_so (sight.InOrder o) js facts facts' same at at' There There' alike is = record {
  there = λ n h. let k = alike.from n h in is.there n k ∙ ap (λ (it : Partial). filed_by o.comparison (variable_values js it.env)) (alike.same n k);
  only = λ n vs e. alike.to n (is.only n vs e);
}
kept_so (sight.ByWitness w) js facts facts' same at at' There There' alike is = record {
  there = λ n h.
      let k = alike.from n h in
      placed_so w.compared.items js facts facts' same (at n) (at' n) (alike.same n k) (group_of w.kept.given n) (values_at w.kept.unseen n) (is.there n k);
  given_there = λ n k e. alike.to n (is.given_there n k e);
  unseen_there = λ n vs e. alike.to n (is.unseen_there n vs e);
}

module _ {T : Type 0} (node : LookupNode T) (names : Scope) (There There' : ℕ → Type 0) (facts facts' : ℕ → Option Fact) (own own' : BetaMemoryValue) where
  pub lookup_stays : (at at' : ℕ → Partial) → IsLookupReady node names at There facts own → AreAlike at at' There There' → ((n : ℕ) → facts n ≡ facts' n) → HasSameTokens own own'
      → IsLookupReady node names at' There' facts' own'
  lookup_stays at at' is alike same_facts same =
      let js = node.fields.items in
      record {
        lookup = is.lookup;
        kept = kept_so node.sight.value js facts facts' same_facts at at' There There' alike is.kept;
        tokens = tokens_stay own own' (ArePassedOn node.positive (looking_of node.sight.value) js facts at There) (ArePassedOn node.positive (looking_of node.sight.value) js facts' at' There')
            (passed_so node.positive (looking_of node.sight.value) js facts facts' same_facts at at' There There' alike)
            (passed_so node.positive (looking_of node.sight.value) js facts' facts (λ n. sym (same_facts n)) at' at There' There (alike_back at at' There There' alike)) same is.tokens;
      }

-- what a token goes on from is there
pub parent_there : {T : Type 0} (node : LookupNode T) (names : Scope) (at : ℕ → Partial) (There : ℕ → Type 0) (facts : ℕ → Option Fact) (own : BetaMemoryValue)
    → IsLookupReady node names at There facts own → (i : ℕ) (t : TokenValue) → live own i ≡ Some t → There t.parent
parent_there node names at There facts own is i t e =
    let h = is.tokens.are i t e in
    subst There (ap (λ (it : TokenValue). it.parent) (sym h.3)) h.1

-- the number of the join leaves a node ready
pub ready_with_join : {T : Type 0} (node : LookupNode T) (join : ℕ) (names : Scope) (at : ℕ → Partial) (There : ℕ → Type 0) (facts : ℕ → Option Fact) (own : BetaMemoryValue)
    → IsLookupReady node names at There facts own → IsLookupReady (record node { join = join }) names at There facts own
ready_with_join node join names at There facts own is =
    let l = is.lookup in
    record { lookup = record { decided = l.decided; unchosen = l.unchosen; unconditional = l.unconditional; asks = l.asks }; kept = is.kept; tokens = is.tokens }
