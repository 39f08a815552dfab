-- A branch when its lists have turned, and when the change has ended.
use Rattle.std.proofs.Common.{◌≡◌, ◌∙◌, ◌<◌, ◌≤◌, ℕ, suc, List, Some, ap, arith, length, slice_get, subst, sym}
use Rattle.std.proofs.lemmas.List.{length-map}
use Rattle.cb_alpha_network.specs.Networks.{MemoryValues}
use Rattle.cb_beta.specs.BetaMemories.{BetaMemoryValue}
use Rattle.cb_branch.proofs.Fills.{ends_ready}
use Rattle.cb_branch.specs.Alphas.{live_facts}
use Rattle.cb_branch.specs.Ready.{AreNodesReady}
use Rattle.cb_branch.specs.Turning.{AreNodesAfter, AreNodesBefore}
use Rattle.cb_facts.specs.FactLists.{IndexedFacts}
use Rattle.cb_list_changes.proofs.Ends.{all_rest}
use Rattle.cb_list_changes.proofs.Places.{at_place}
use Rattle.cb_list_changes.specs.Resting.{AreEnded, AreResting}
use Rattle.cb_matches.specs.Matches.{Partial}
use Rattle.cb_nodes.specs.Flat.{AreWidths, FlatNode, Lists}
use Rattle.cb_branch.specs.Nodes.{flat_node, flat_nodes}
use Rattle.cb_branch.specs.declared.node.Node.{Node}
use Rattle.cb_token_lists.specs.Partials.{SourceValue, partial_at}
use Rattle.cb_token_lists.specs.Turns.{Turns}

module _ {T : Type 0} (alphas : MemoryValues) (sources : List SourceValue) (before start : List BetaMemoryValue) (fs fs' : IndexedFacts) (one one' : List Partial) (old new : Lists)
    (first : List (Node T)) (w : AreNodesBefore alphas sources before start fs fs' one one' old new first)
    (lists : List BetaMemoryValue) (nodes : List (Node T)) (same : flat_nodes nodes ≡ flat_nodes first) (after : AreNodesAfter alphas sources before lists old new nodes) where
  as_many : length nodes ≡ length first
  as_many = sym (length-map nodes flat_node) ∙ (ap length same ∙ length-map first flat_node)

  pub last_there : (last : ℕ) → last < suc (length first) → (m : BetaMemoryValue) × (slice_get lists last ≡ Some m)
  last_there last within = at_place lists last (let long = after.long in omega (arith, within, as_many, long))

  -- the last list has turned
  pub last_turns : (last : ℕ) (within : last < suc (length first)) → Turns (partial_at sources lists last) (last_there last within).0 (old last) (new last)
  last_turns last within = let m = last_there last within in after.halfway.turned last m.0 (omega (arith, within, as_many)) m.1

  -- and at the end of the change
  module _ (ended : List BetaMemoryValue) (ends : AreEnded lists ended) where
    short : length lists ≤ suc (length nodes)
    short = let long = after.long in omega (arith, long)

    pub ended_long : length ended ≡ suc (length nodes)
    ended_long = ends.long ∙ after.long

    pub ended_rest : AreResting sources ended new
    ended_rest = all_rest sources before lists ended old new (length nodes) after.halfway short ends

    pub ended_ready : AreNodesReady (live_facts alphas) sources ended new nodes
    ended_ready =
        ends_ready sources nodes w.widths (subst (λ (it : List FlatNode). AreWidths it w.widths) (sym same) w.well)
        (λ k n is. w.leads k n (subst (λ (it : List FlatNode). slice_get it k ≡ Some n) same is))
        before lists ended old new (length nodes) (live_facts alphas) new after.halfway short ends after.ready
