-- A whole change of a group of one pattern that is looked up, from its steps.
use Rattle.std.proofs.Common.{◌≡◌, ◌≢◌, ◌⊎◌, ◌↔◌, ℕ, Bool, true, false, List, cond, inl, inr, refl, subst, sym}
use Rattle.cb_alpha.specs.AlphaMemories.{AlphaMemoryValue, live}
use Rattle.cb_alpha.specs.Turning.{were_in}
use Rattle.cb_beta.specs.BetaMemories.{BetaMemoryValue, Loses}
use Rattle.cb_facts.specs.FactLists.{IndexedFacts}
use Rattle.cb_fit.specs.Comparisons.{compared_fields}
use Rattle.cb_fit.specs.JoinFields.{join_fields}
use Rattle.cb_fit.specs.declared.join_fields.JoinField.{JoinField}
use Rattle.cb_lookup_node.proofs.Changed.{tokens_after, turns_after}
use Rattle.cb_lookup_node.proofs.Seen.{AgreeByValues, HoldsBySight, HoldsOpposite, holds_so, sees_or, well_ordered}
use Rattle.cb_lookup_node.specs.Internal.{Arrives, HadOne, HasChanged, HasOneNow, IsToChange, Leaves, Stays}
use Rattle.cb_lookup_node.specs.LookupNodes.{ArePassedOn, AsksBy, IsAfterLookup, IsBeforeLookup, Looking, Passes, looking_of}
use Rattle.cb_lookup_node.specs.declared.node.LookupNode.{LookupNode}
use Rattle.cb_lookup_node.specs.declared.sight.Sight.{Sight}
use Rattle.cb_matches.specs.Chains.{Chain, In}
use Rattle.cb_matches.specs.Matches.{Partial}
use Rattle.cb_nodes.specs.Flat.{holds_alone}
use Rattle.cb_scopes.specs.Decided.{known_fields}
use Rattle.cb_scopes.specs.Scopes.{Scope}
use Rattle.cb_token_lists.specs.Growth.{AreTokens}
use Rattle.cb_token_lists.specs.Turns.{IsThere, WasThere}

-- one of two lists, by whether the group is positive
module _ (There Had Has : ℕ → Type 0) (lost gained : List ℕ) (losing : (n : ℕ) → In n lost ↔ (There n × (Had n × (Has n → ⊥)))) (gaining : (n : ℕ) → In n gained ↔ (There n × ((Had n → ⊥) × Has n))) where
  leaving : (b : Bool) (leave : List ℕ) → leave ≡ cond b lost gained → (n : ℕ) → In n leave ↔ (There n × Leaves b (Had n) (Has n))
  leaving true leave e n = (λ h. (losing n).0 (subst (In n) e h), λ h. subst (In n) (sym e) ((losing n).1 h))
  leaving false leave e n = (λ h. (gaining n).0 (subst (In n) e h), λ h. subst (In n) (sym e) ((gaining n).1 h))

  arriving : (b : Bool) (arrive : List ℕ) → arrive ≡ cond b gained lost → (n : ℕ) → In n arrive ↔ (There n × Arrives b (Had n) (Has n))
  arriving true arrive e n = (λ h. (gaining n).0 (subst (In n) e h), λ h. subst (In n) (sym e) ((gaining n).1 h))
  arriving false arrive e n = (λ h. (losing n).0 (subst (In n) e h), λ h. subst (In n) (sym e) ((losing n).1 h))

pub one_once : (b : Bool) (one other xs : List ℕ) → xs ≡ cond b one other → Chain (λ (i : ℕ) (j : ℕ). i ≢ j) one → Chain (λ (i : ℕ) (j : ℕ). i ≢ j) other → Chain (λ (i : ℕ) (j : ℕ). i ≢ j) xs
one_once true one other xs e first second = subst (Chain (λ (i : ℕ) (j : ℕ). i ≢ j)) (sym e) first
one_once false one other xs e first second = subst (Chain (λ (i : ℕ) (j : ℕ). i ≢ j)) (sym e) second

module _ {T : Type 0} (agree : AgreeByValues) (by_sight : HoldsBySight) (opposite : HoldsOpposite) (node : LookupNode T) (names : Scope) (at : ℕ → Partial) (before : BetaMemoryValue)
    (alpha : AlphaMemoryValue) (own₀ : BetaMemoryValue) (fs fs' : IndexedFacts) (old new : List Partial) (b : IsBeforeLookup node names at before alpha own₀ fs fs' old new) where
  abbrev js : List JoinField
  js = node.fields.items

  abbrev looking : Looking
  looking = looking_of node.sight.value

  asked : AsksBy looking js (known_fields (join_fields node.pattern.parts) names) (compared_fields node.pattern.parts)
  asked = b.ready.lookup.asks

  pub to_change : IsToChange node.sight.value js at before alpha node.join
  to_change = record {
    kept = b.ready.kept;
    ordered = well_ordered looking js (known_fields (join_fields node.pattern.parts) names) (compared_fields node.pattern.parts) asked;
    has_join = b.has_join;
    apart = b.facts.apart;
    single = b.facts.single;
    came = b.turns.came;
    come_once = b.turns.come_once;
  }

  module _ (sight' : Sight) (same : looking_of sight' ≡ looking) (own₁ own : BetaMemoryValue) (lost₁ : Loses own₀ own₁ (λ t. In t.parent before.gone))
      (done : HasChanged node.positive node.sight.value sight' js at before alpha own₁ own) where
    abbrev Had : ℕ → Type 0
    Had n = HadOne looking js at alpha n

    abbrev Has : ℕ → Type 0
    Has n = HasOneNow looking js at alpha n

    held_so : (n : ℕ) → WasThere before n → (holds_alone node.positive node.pattern fs (at n) ≡ true) ↔ Passes node.positive (Had n)
    held_so n h =
        holds_so agree by_sight opposite node.pattern b.ready.lookup.decided b.ready.lookup.unchosen b.ready.lookup.unconditional names (at n) (b.scope (at n) (inl (b.turns.was.to n h))) fs (were_in alpha) b.facts.was js looking asked
        node.positive

    now_so : (n : ℕ) → IsThere before n → (holds_alone node.positive node.pattern fs' (at n) ≡ true) ↔ Passes node.positive (Has n)
    now_so n h =
        holds_so agree by_sight opposite node.pattern b.ready.lookup.decided b.ready.lookup.unchosen b.ready.lookup.unconditional names (at n) (b.scope (at n) (inr (b.turns.is.to n h))) fs' (live alpha) b.facts.is js looking asked
        node.positive

    had_or : (n : ℕ) → Stays before n → Had n ⊎ (Had n → ⊥)
    had_or n h =
        sees_or agree by_sight opposite node.pattern b.ready.lookup.decided b.ready.lookup.unchosen b.ready.lookup.unconditional names (at n) (b.scope (at n) (inl (b.turns.was.to n h.0))) fs (were_in alpha) b.facts.was js looking asked

    has_or : (n : ℕ) → Stays before n → Has n ⊎ (Has n → ⊥)
    has_or n h =
        sees_or agree by_sight opposite node.pattern b.ready.lookup.decided b.ready.lookup.unchosen b.ready.lookup.unconditional names (at n) (b.scope (at n) (inl (b.turns.was.to n h.0))) fs' (live alpha) b.facts.is js looking asked

    abbrev leave : List ℕ
    leave = cond node.positive done.lost done.gained

    abbrev arrive : List ℕ
    arrive = cond node.positive done.gained done.lost

    leaves : (n : ℕ) → In n leave ↔ (Stays before n × Leaves node.positive (Had n) (Has n))
    leaves = leaving (Stays before) Had Has done.lost done.gained done.losing done.gaining node.positive leave refl

    arrives : (n : ℕ) → In n arrive ↔ (Stays before n × Arrives node.positive (Had n) (Has n))
    arrives = arriving (Stays before) Had Has done.lost done.gained done.losing done.gaining node.positive arrive refl

    pub whole : IsAfterLookup (record node { sight = record node.sight { value = sight' } }) names at before alpha own fs fs' old new
    whole =
        let l = b.ready.lookup in
        record {
          ready = record {
            lookup = record {
              decided = l.decided;
              unchosen = l.unchosen;
              unconditional = l.unconditional;
              asks = subst (λ (it : Looking). AsksBy it js (known_fields (join_fields node.pattern.parts) names) (compared_fields node.pattern.parts)) (sym same) asked;
            };
            kept = done.kept;
            tokens = subst (λ (it : Looking). AreTokens own (ArePassedOn node.positive it js (live alpha) at (IsThere before))) (sym same)
                (tokens_after node.positive Had Has at before old new b.turns (holds_alone node.positive node.pattern fs) (holds_alone node.positive node.pattern fs') held_so now_so had_or has_or leave arrive
                leaves arrives own₀ own₁ done.between done.turned own b.ready.tokens b.none_gone b.none_come lost₁ done.goes done.comes done.passed);
          };
          turns = turns_after node.positive Had Has at before old new b.turns (holds_alone node.positive node.pattern fs) (holds_alone node.positive node.pattern fs') held_so now_so had_or has_or leave arrive
              leaves arrives own₀ own₁ done.between done.turned own b.ready.tokens b.none_gone b.none_come lost₁ done.goes done.comes done.passed;
        }
