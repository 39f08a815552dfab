-- A change of a node that joins.
use Rattle.std.proofs.Common.{◌≡◌, ◌∙◌, ◌≤◌, ◌<◌, ℕ, suc, List, Option, Some, ap, ap₂, arith, refl, slice_get, subst, sym}
use Rattle.std.proofs.lemmas.Option.{get_or_from_slice_get}
use Rattle.cb_alpha.specs.AlphaMemories.{AlphaMemoryValue, live}
use Rattle.cb_alpha.specs.Turning.{AlphaTurns, were_in}
use Rattle.cb_alpha_network.specs.Networks.{memory_in, no_memory}
use Rattle.cb_beta.specs.BetaMemories.{BetaMemoryValue}
use Rattle.cb_beta.specs.Tokens.{partial_after}
use Rattle.cb_branch.proofs.JoinAsked.{join_found}
use Rattle.cb_branch.proofs.Relied.{none_come, none_gone, relied, turns}
use Rattle.cb_branch.specs.Alphas.{AlphaUse, HasTurned, join_asked}
use Rattle.cb_branch.specs.Turning.{IsNodeAfter, IsNodeBefore, IsSameNode}
use Rattle.cb_constraints.specs.PatternValues.{PatternValue}
use Rattle.cb_facts.specs.FactLists.{IndexedFacts}
use Rattle.cb_fit.specs.declared.join_fields.JoinField.{JoinField}
use Rattle.cb_join_node.proofs.Staying.{goes_on_from}
use Rattle.cb_join_node.specs.Nodes.{AsksTheSame, FindsFacts, IsAfter, IsBefore, IsByValues, IsReady, tests_of}
use Rattle.cb_join_node.specs.declared.by_values.ByValues.{ByValues}
use Rattle.cb_join_node.specs.declared.joining.Joining.{Joining}
use Rattle.cb_join_node.specs.declared.node.JoinNode.{JoinNode}
use Rattle.cb_list_changes.proofs.Places.{one_at}
use Rattle.cb_list_changes.specs.Halfway.{IsStepped}
use Rattle.cb_nodes.specs.Flat.{Lists, joining, next_where}
use Rattle.cb_nodes.specs.Patterns.{AreJoinFields}
use Rattle.cb_branch.specs.declared.node.Node.TheVariants as kept
use Rattle.cb_token_lists.specs.Keeping.{KeepsTokens}
use Rattle.cb_token_lists.specs.Partials.{SourceValue, partial_at}
use Rattle.cb_token_lists.specs.Turns.{IsThere, Turns, WasThere}

abbrev use_of : PatternValue → ℕ → Option (ℕ × List JoinField) → AlphaUse
use_of p alpha join = record { pattern = p; alpha = alpha; join = join }

-- what the node is but for what it keeps
pub join_same : {T : Type 0} (alpha : ℕ) (node node' : JoinNode T) → AsksTheSame node node' → IsSameNode (kept.Join alpha node) (kept.Join alpha node')
join_same {T} alpha node node' same = record {
  flat = ap₂ (λ (n : ℕ) (it : Joining T). joining n it.address it.pattern (tests_of it)) same.from same.asked;
  uses = ap₂ (λ (n : ℕ) (it : Joining T). Some (use_of it.pattern alpha (join_asked n it.fields.items))) same.join same.asked;
  prepared = λ scopes h.
      let P : ℕ → Joining T → Type 0 = λ n it. AreJoinFields it.fields.items it.address it.pattern × ((by : ByValues) → it.by_values ≡ Some by → IsByValues (scopes n) it by) in
      subst (λ (n : ℕ). P n node'.asked) (sym same.from) (subst (λ (it : Joining T). P node.from it) (sym same.asked) h);
}

module _ {T : Type 0} (alphas : List AlphaMemoryValue) (sources : List SourceValue) (before now read : List BetaMemoryValue) (fs fs' : IndexedFacts) (old new : Lists) (k : ℕ) (alpha : ℕ)
    (node : JoinNode T) (own m : BetaMemoryValue) (a : AlphaMemoryValue) (b : IsNodeBefore alphas sources before now read fs fs' old new k (kept.Join alpha node) own)
    (memory : slice_get alphas alpha ≡ Some a) (is : slice_get read node.from ≡ Some m) where
  abbrev used : AlphaUse
  used = record { pattern = node.asked.pattern; alpha = alpha; join = join_asked node.join node.asked.fields.items }

  turned : HasTurned alphas fs fs' used
  turned = b.turned used refl

  same_memory : memory_in alphas alpha ≡ a
  same_memory = get_or_from_slice_get alphas alpha a no_memory memory

  pub near : node.from ≤ k
  near = let w : node.from < suc k = b.well in omega (arith, w)

  pub join_before : IsBefore node (partial_at sources read node.from) m a own fs fs' (old node.from) (new node.from)
  join_before = record {
    turns = turns alphas sources before now read fs fs' old new k (kept.Join alpha node) own b node.from m near is;
    facts = subst (λ it. AlphaTurns node.asked.pattern it fs fs') same_memory turned.1;
    has_join = subst (λ it. FindsFacts it node.join node.asked.fields.items) same_memory (join_found (memory_in alphas alpha) node.join node.asked.fields.items turned.2);
    ready = subst (λ it. IsReady node (partial_at sources read node.from) (WasThere m) (were_in it) own) same_memory
        (relied alphas sources before now read fs fs' old new k (kept.Join alpha node) own b m is);
    by_values = λ by e. (b.scopes node.from, b.prepared.1 by e, λ m' h. b.scoped node.from near m' h);
    none_gone = none_gone alphas sources before now read fs fs' old new k (kept.Join alpha node) own b;
    none_come = none_come alphas sources before now read fs fs' old new k (kept.Join alpha node) own b;
  }

  pub join_after : (node' : JoinNode T) (own' : BetaMemoryValue) → AsksTheSame node node'
      → IsAfter node' (partial_at sources read node.from) m a own' fs fs' (old node.from) (new node.from) → KeepsTokens own own'
      → IsNodeAfter alphas sources read fs fs' old new (kept.Join alpha node) (kept.Join alpha node') own own'
  join_after node' own' same after keeps = record {
    step = λ from at. subst (λ it. IsStepped sources read (record { from = node.from; address = node.asked.address }) it own own'
        (next_where node.asked.address node.asked.pattern (tests_of node.asked) fs (old node.from)) (next_where node.asked.address node.asked.pattern (tests_of node.asked) fs' (new node.from)))
        (one_at read node.from m from is at)
        (record {
          turns = subst (λ (it : Joining T). Turns (partial_after it.address own'.tokens (partial_at sources read node.from)) own'
              (next_where it.address it.pattern (tests_of it) fs (old node.from)) (next_where it.address it.pattern (tests_of it) fs' (new node.from))) same.asked after.turns;
          keeps = keeps;
          parents = λ i t there. goes_on_from node' (partial_at sources read node.from) (IsThere m) (live a) own' i t after.ready there;
        });
    ready = λ m' at.
        let here : slice_get read node.from ≡ Some m' = ap (slice_get read) (sym same.from) ∙ at in
        subst (λ o. IsReady node' (partial_at sources read node'.from) (IsThere m') (live o) own') (sym same_memory)
        (subst (λ it. IsReady node' (partial_at sources read it) (IsThere m') (live a) own') (sym same.from)
        (subst (λ it. IsReady node' (partial_at sources read node.from) (IsThere it) (live a) own') (one_at read node.from m m' is here) after.ready));
  }
