-- Nodes that are cleared one after another.
use Rattle.std.proofs.Common.{◌≡◌, ◌∙◌, ◌+◌, ◌<◌, ◌≤◌, ℕ, List, Some, ap, arith, get_or, inl, inr, length, refl, set, slice_get, subst, sym}
use Rattle.std.proofs.lemmas.Bool.{cases_eq}
use Rattle.cb_branch.proofs.Loop.{same_first, same_step}
use Rattle.cb_branch.proofs.Sets.{set_others, set_there}
use Rattle.cb_branch.specs.Ready.{AreNodesCleared, IsNodeCleared}
use Rattle.cb_branch.specs.Turning.{ArePrepared, AreSameNodes, IsSameNode}
use Rattle.cb_list_changes.proofs.Places.{one_some, within}
use Rattle.cb_branch.specs.Nodes.{IsPrepared, flat_nodes}
use Rattle.cb_branch.specs.declared.node.Node.{Node}
use Rattle.cb_scopes.specs.Scopes.{Scope, scope_of}
use Rattle.cb_token_lists.proofs.Down.{got}

-- the nodes below number i are cleared, and the others are as they were
pub record AreClearedTo {T : Type 0} (first nodes : List (Node T)) (i : ℕ) : Type 0 where
  pub same : AreSameNodes first nodes
  pub cleared : ArePrepared first → (k : ℕ) (n : Node T) → k < i → slice_get nodes k ≡ Some n → IsNodeCleared n
  pub left : (k : ℕ) → i ≤ k → slice_get nodes k ≡ slice_get first k

module _ {T : Type 0} where
  pub cleared_first : (nodes : List (Node T)) → AreClearedTo nodes nodes 0
  cleared_first nodes = record { same = same_first nodes; cleared = λ p k n l is. absurd (omega (arith, l)); left = λ k l. refl }

  pub cleared_step : (first nodes : List (Node T)) (i : ℕ) (n n' : Node T) → i < length nodes → n ≡ get_or nodes i n → IsSameNode n n' → ((scopes : ℕ → Scope) → IsPrepared scopes n → IsNodeCleared n')
      → AreClearedTo first nodes i → AreClearedTo first (set nodes i n') (i + 1)
  cleared_step first nodes i n n' l is same clears t =
      let there : slice_get nodes i ≡ Some n = got nodes i n l is in
      record {
        same = same_step first nodes i n n' there t.same same;
        cleared = λ p k m h at. elim (cases_eq k i) as (λ _. IsNodeCleared m) [
          | inl e ↦
              let m_is : n' ≡ m = one_some (sym (set_there nodes i n' l) ∙ (ap (slice_get (set nodes i n')) (sym e) ∙ at)) in
              subst (λ (it : Node T). IsNodeCleared it) m_is (clears (scope_of (flat_nodes first)) (p i n (sym (t.left i (omega arith)) ∙ there)))
          | inr d ↦ t.cleared p k m (omega (arith, h, d)) (sym (set_others nodes i n' k d) ∙ at)
        ];
        left = λ k h. set_others nodes i n' k (λ e. absurd (omega (arith, h, e))) ∙ t.left k (omega (arith, h));
      }

  pub cleared_last : (first nodes : List (Node T)) (i : ℕ) → AreClearedTo first nodes i → length nodes ≤ i → ArePrepared first → AreNodesCleared nodes
  cleared_last first nodes i t l p k n is = t.cleared p k n (let m = within nodes k n is in omega (arith, m, l)) is
