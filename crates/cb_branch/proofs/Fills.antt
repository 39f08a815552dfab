-- All nodes of a branch that are ready, or keep nothing.
use Rattle.std.proofs.Common.{◌≡◌, ◌∙◌, ◌≤◌, ℕ, suc, List, None, Some, ap, length, refl, slice_get, subst, sym}
use Rattle.std.proofs.lemmas.Option.{get_or_from_slice_get, slice_get-map}
use Rattle.std.specs.Option.{option_and_then, option_map}
use Rattle.cb_beta.specs.BetaMemories.{BetaMemoryValue, live}
use Rattle.cb_branch.proofs.Alike.{AreListsAlike, node_stays}
use Rattle.cb_branch.specs.Alphas.{AlphaUse, Facts, HasUse, alpha_use}
use Rattle.cb_branch.specs.Ready.{AreNodesCleared, AreNodesReady}
use Rattle.cb_branch.specs.Turning.{LeadsWithin}
use Rattle.cb_list_changes.proofs.Ends.{alike_then, met_then}
use Rattle.cb_list_changes.proofs.Places.{at_same, within}
use Rattle.cb_list_changes.specs.Halfway.{AreHalfway}
use Rattle.cb_list_changes.specs.Resting.{AreEnded}
use Rattle.cb_nodes.specs.Flat.{AreWidths, FlatNode, IsWell, Lists}
use Rattle.cb_branch.specs.Nodes.{flat_node, flat_nodes, no_tokens}
use Rattle.cb_branch.specs.declared.node.Node.{Node}
use Rattle.cb_token_lists.proofs.Keeping.{alike_itself, ended_same, same_itself}
use Rattle.cb_token_lists.specs.Keeping.{HasSameTokens}
use Rattle.cb_token_lists.specs.Partials.{SourceValue, partial_at}
use Rattle.cb_token_lists.specs.Turns.{IsThere}

-- the node of the definitions at a place
pub flat_at : {T : Type 0} (nodes : List (Node T)) (k : ℕ) (n : Node T) → slice_get nodes k ≡ Some n → slice_get (flat_nodes nodes) k ≡ Some (flat_node n)
flat_at nodes k n is = slice_get-map flat_node nodes k ∙ ap (option_map flat_node) is

pub use_at : {T : Type 0} (nodes : List (Node T)) (k : ℕ) (n : Node T) (u : AlphaUse) → slice_get nodes k ≡ Some n → alpha_use n ≡ Some u → HasUse nodes k u
use_at nodes k n u is e = ap (option_and_then alpha_use) is ∙ e

module _ {T : Type 0} (sources : List SourceValue) (nodes : List (Node T)) (ws : ℕ → ℕ) (widths : AreWidths (flat_nodes nodes) ws)
    (leads : (k : ℕ) (n : FlatNode) → slice_get (flat_nodes nodes) k ≡ Some n → LeadsWithin sources n) where
  pub well_at : (k : ℕ) (n : Node T) → slice_get nodes k ≡ Some n → IsWell k (flat_node n) ws
  well_at k n is =
      let at = flat_at nodes k n is in
      let l = within (flat_nodes nodes) k (flat_node n) at in
      subst (λ (it : FlatNode). IsWell k it ws) (get_or_from_slice_get (flat_nodes nodes) k (flat_node n) (flat_node n) at) (widths.well k (flat_node n) l)

  -- each node of one branch by another word
  all_stay : (lists lists' : List BetaMemoryValue) (facts facts' : Facts) (ls ls' : Lists) → ((k : ℕ) → AreListsAlike IsThere IsThere sources lists lists' k)
      → ((k : ℕ) (u : AlphaUse) → HasUse nodes k u → (i : ℕ) → facts u.alpha i ≡ facts' u.alpha i) → ((j : ℕ) → ls j ≡ ls' j)
      → ((j : ℕ) (m' : BetaMemoryValue) → slice_get lists' j ≡ Some m' → (m : BetaMemoryValue) × (slice_get lists j ≡ Some m) × HasSameTokens m m')
      → AreNodesReady facts sources lists ls nodes → AreNodesReady facts' sources lists' ls' nodes
  all_stay lists lists' facts facts' ls ls' alike same_facts same_lists tokens ready k n own is at =
      let m = tokens (suc k) own at in
      node_stays IsThere IsThere sources lists lists' k ws n facts facts' ls ls' m.0 own (well_at k n is) (leads k (flat_node n) (flat_at nodes k n is)) (alike k)
      (λ u e. same_facts k u (use_at nodes k n u is e)) same_lists m.2 (ready k n m.0 is m.1)

  same_alike : (lists : List BetaMemoryValue) (k : ℕ) → AreListsAlike IsThere IsThere sources lists lists k
  same_alike lists k = record {
    alike = λ j m l is. (m, is, alike_itself (partial_at sources lists j) (IsThere m));
    met = λ from inner g i m l lead is there. (λ h. h, λ h. h);
  }

  -- other facts or lists that are the same
  pub facts_stay : (lists : List BetaMemoryValue) (facts facts' : Facts) (ls ls' : Lists) → ((k : ℕ) (u : AlphaUse) → HasUse nodes k u → (i : ℕ) → facts u.alpha i ≡ facts' u.alpha i)
      → ((j : ℕ) → ls j ≡ ls' j) → AreNodesReady facts sources lists ls nodes → AreNodesReady facts' sources lists ls' nodes
  facts_stay lists facts facts' ls ls' same_facts same_lists ready =
      all_stay lists lists facts facts' ls ls' (same_alike lists) same_facts same_lists (λ j m is. (m, is, same_itself m)) ready

  -- the end of a change
  pub ends_ready : (before lists ended : List BetaMemoryValue) (old new : Lists) (last : ℕ) (facts : Facts) (ls : Lists) → AreHalfway sources before lists old new last → length lists ≤ suc last
      → AreEnded lists ended → AreNodesReady facts sources lists ls nodes → AreNodesReady facts sources ended ls nodes
  ends_ready before lists ended old new last facts ls halfway long ends ready =
      all_stay lists ended facts facts ls ls
      (λ k. record {
        alike = λ j m' l is.
            let m = at_same ended lists j m' (sym ends.long) is in
            (m.0, m.1, alike_then sources before lists ended old new last halfway long ends j m.0 m' m.1 is);
        met = λ from inner g i m l lead is there. met_then sources before lists ended old new last halfway long ends from inner g i m lead is there;
      })
      (λ k u e i. refl) (λ j. refl)
      (λ j m' is. let m = at_same ended lists j m' (sym ends.long) is in (m.0, m.1, ended_same m.0 m' (ends.each j m.0 m' m.1 is)))
      ready

  -- nodes that keep nothing are ready where nothing is
  none_there : (m : BetaMemoryValue) → m ≡ no_tokens → (i : ℕ) → IsThere m i → ⊥
  none_there m e i h = let no : None ≡ Some h.0 = ap (λ it. live it i) (sym e) ∙ h.1 in cc

  pub empty_ready : (lists : List BetaMemoryValue) (facts : Facts) (ls : Lists) → ((j : ℕ) (m : BetaMemoryValue) → slice_get lists j ≡ Some m → m ≡ no_tokens) → AreNodesCleared nodes
      → AreNodesReady facts sources lists ls nodes
  empty_ready lists facts ls empty cleared k n own is at =
      node_stays (λ before number. ⊥) IsThere sources lists lists k ws n facts facts ls ls no_tokens own (well_at k n is) (leads k (flat_node n) (flat_at nodes k n is))
      (record {
        alike = λ j m l there. (m, there, record { to = λ i h. absurd h; from = λ i h. none_there m (empty j m there) i h; same = λ i h. absurd h });
        met = λ from inner g i m l lead there h. absurd h;
      })
      (λ u e i. refl) (λ j. refl) (subst (λ it. HasSameTokens no_tokens it) (sym (empty (suc k) own at)) (same_itself no_tokens)) (cleared k n is facts sources lists ls)
