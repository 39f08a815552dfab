-- A group before which no partial match is, and was none, is as it was.
use Rattle.std.proofs.Common.{◌≡◌, ◌≢◌, ◌∙◌, ℕ, List, None, Option, filter, subst, sym}
use Rattle.cb_alpha.specs.AlphaMemories.{AlphaMemoryValue, live}
use Rattle.cb_alpha.specs.Turning.{were_in}
use Rattle.cb_beta.proofs.Live.{some_none, there_is}
use Rattle.cb_beta.specs.BetaMemories.{BetaMemoryValue}
use Rattle.cb_beta.specs.Tokens.{partial_after, token_at}
use Rattle.cb_facts.specs.FactLists.{IndexedFacts}
use Rattle.cb_fit.specs.declared.join_fields.JoinField.{JoinField}
use Rattle.cb_lookup_node.specs.LookupNodes.{AreKept, IsAfterLookup, IsBeforeLookup}
use Rattle.cb_lookup_node.specs.declared.node.LookupNode.{LookupNode}
use Rattle.cb_lookup_node.specs.declared.sight.Sight.{Sight}
use Rattle.cb_lookup_node.specs.declared.sight.Sight.TheVariants as sight
use Rattle.cb_matches.proofs.Growth.{Fact}
use Rattle.cb_matches.proofs.Lists.{in_filter}
use Rattle.cb_matches.specs.Chains.{Chain, In}
use Rattle.cb_matches.specs.Matches.{Partial}
use Rattle.cb_nodes.specs.Flat.{holds_alone}
use Rattle.cb_scopes.specs.Scopes.{Scope}
use Rattle.cb_token_lists.proofs.Keeping.{there_read}
use Rattle.cb_token_lists.specs.Turns.{IsReadable, IsThere, StandFor, WasThere}

-- nobody is kept, before as after
kept_nobody : (it : Sight) (js : List JoinField) (facts facts' : ℕ → Option Fact) (at : ℕ → Partial) (There There' : ℕ → Type 0) → ((n : ℕ) → There n → ⊥) → ((n : ℕ) → There' n → ⊥)
    → AreKept it js at There facts → AreKept it js at There' facts'
kept_nobody (sight.InOrder o) js facts facts' at There There' none none' is = record {
  there = λ n h. absurd (none' n h);
  only = λ n vs e. absurd (none n (is.only n vs e));
}
kept_nobody (sight.ByWitness w) js facts facts' at There There' none none' is = record {
  there = λ n h. absurd (none' n h);
  given_there = λ n k e. absurd (none n (is.given_there n k e));
  unseen_there = λ n vs e. absurd (none n (is.unseen_there n vs e));
}

-- no number stands for what is in no list
nobody_stands : (at : ℕ → Partial) (There : ℕ → Type 0) (ms : List Partial) → ((n : ℕ) → There n → ⊥) → ((z : Partial) → In z ms → ⊥) → StandFor at There ms
nobody_stands at There ms none empty = record {
  to = λ n h. absurd (none n h);
  from = λ z h. absurd (empty z h);
}

module _ {T : Type 0} (node : LookupNode T) (names : Scope) (at : ℕ → Partial) (before : BetaMemoryValue) (alpha : AlphaMemoryValue) (own : BetaMemoryValue) (fs fs' : IndexedFacts)
    (old new : List Partial) (b : IsBeforeLookup node names at before alpha own fs fs' old new) (none : (n : ℕ) → token_at before.tokens n ≡ None) where
  abbrev js : List JoinField
  js = node.fields.items

  not_read : (n : ℕ) → IsReadable before n → ⊥
  not_read n h = some_none (token_at before.tokens n) h.1 (none n)

  not_was : (n : ℕ) → WasThere before n → ⊥
  not_was n h = not_read n h.0

  not_there : (n : ℕ) → IsThere before n → ⊥
  not_there n h = not_read n (there_read before n h)

  -- so no token is behind it
  no_token : (n : ℕ) → IsReadable own n → ⊥
  no_token n h =
      let t = h.0 in
      let p = b.ready.tokens.are n t (there_is own.tokens own.gone n (λ k. subst (In n) b.none_gone k) ∙ h.1) in
      not_was p.0 p.1

  no_old : (z : Partial) → In z (filter (holds_alone node.positive node.pattern fs) old) → ⊥
  no_old z h = let n = b.turns.was.from z (in_filter (holds_alone node.positive node.pattern fs) z old h).0 in not_was n.0 n.1

  no_new : (z : Partial) → In z (filter (holds_alone node.positive node.pattern fs') new) → ⊥
  no_new z h = let n = b.turns.is.from z (in_filter (holds_alone node.positive node.pattern fs') z new h).0 in not_there n.0 n.1

  -- and it is as it was
  pub as_it_was : IsAfterLookup node names at before alpha own fs fs' old new
  as_it_was = record {
    ready = record {
      lookup = b.ready.lookup;
      kept = kept_nobody node.sight.value js (were_in alpha) (live alpha) at (WasThere before) (IsThere before) not_was not_there b.ready.kept;
      tokens = record {
        are = λ n t e. absurd (let p = b.ready.tokens.are n t e in not_was p.0 p.1);
        all = λ t h. absurd (not_there h.0 h.1);
        one = b.ready.tokens.one;
      };
    };
    turns = record {
      was = nobody_stands (partial_after None own.tokens at) (WasThere own) (filter (holds_alone node.positive node.pattern fs) old) (λ n h. no_token n h.0) no_old;
      is = nobody_stands (partial_after None own.tokens at) (IsThere own) (filter (holds_alone node.positive node.pattern fs') new) (λ n h. no_token n (there_read own n h)) no_new;
      one = λ i j h k e. absurd (no_token i h);
      went = λ i h. absurd (subst (In i) b.none_gone h);
      came = λ i h. absurd (subst (In i) b.none_come h);
      gone_once = subst (Chain (λ (i : ℕ) (j : ℕ). i ≢ j)) (sym b.none_gone) tt;
      come_once = subst (Chain (λ (i : ℕ) (j : ℕ). i ≢ j)) (sym b.none_come) tt;
    };
  }
