-- A change of a group of one pattern that stands alone.
use Rattle.std.proofs.Common.{◌≡◌, ◌∙◌, ◌≤◌, ◌<◌, ℕ, suc, Bool, true, List, None, Some, ap, arith, filter, refl, slice_get, subst, sym}
use Rattle.std.proofs.lemmas.Option.{get_or_from_slice_get}
use Rattle.cb_alpha.specs.AlphaMemories.{AlphaMemoryValue, live}
use Rattle.cb_alpha.specs.Turning.{AlphaTurns, were_in}
use Rattle.cb_alpha_network.specs.Networks.{memory_in, no_memory}
use Rattle.cb_beta.specs.BetaMemories.{BetaMemoryValue}
use Rattle.cb_beta.specs.Tokens.{partial_after}
use Rattle.cb_branch.proofs.Relied.{none_come, none_gone, relied, turns}
use Rattle.cb_branch.specs.Alphas.{AlphaUse, HasTurned}
use Rattle.cb_branch.specs.Turning.{IsNodeAfter, IsNodeBefore, IsSameNode}
use Rattle.cb_constraints.specs.PatternValues.{PatternValue}
use Rattle.cb_facts.specs.FactLists.{IndexedFacts}
use Rattle.cb_fit.specs.StandsAlone.{stands_alone}
use Rattle.cb_list_changes.proofs.Places.{one_at}
use Rattle.cb_list_changes.specs.Halfway.{IsStepped}
use Rattle.cb_lone_node.proofs.Staying.{parent_there}
use Rattle.cb_lone_node.specs.LoneNodes.{IsAfterLone, IsBeforeLone, IsLoneReady}
use Rattle.cb_lone_node.specs.declared.node.LoneNode.{LoneNode}
use Rattle.cb_nodes.specs.Flat.{Lists, alone, holds_alone}
use Rattle.cb_branch.specs.declared.node.Node.{Node}
use Rattle.cb_branch.specs.declared.node.Node.TheVariants as kept
use Rattle.cb_token_lists.specs.Keeping.{KeepsTokens}
use Rattle.cb_token_lists.specs.Partials.{SourceValue, partial_at}
use Rattle.cb_token_lists.specs.Turns.{IsThere, Turns, WasThere}

abbrev use_of : ℕ → PatternValue → AlphaUse
use_of alpha p = record { pattern = p; alpha = alpha; join = None }

-- what the node is but for what it keeps
pub lone_same : {T : Type 0} (alpha : ℕ) (node node' : LoneNode T) → node'.from ≡ node.from → node'.positive ≡ node.positive → node'.pattern ≡ node.pattern
    → IsSameNode (kept.Lone alpha node) (kept.Lone alpha node')
lone_same alpha node node' same_from same_positive same_pattern = record {
  flat = ap (λ n. alone n node'.pattern node'.positive) same_from
      ∙ (ap (λ (it : Bool). alone node.from node'.pattern it) same_positive ∙ ap (λ (p : PatternValue). alone node.from p node.positive) same_pattern);
  uses = ap (λ (p : PatternValue). Some (use_of alpha p)) same_pattern;
  prepared = λ scopes h. subst (λ (p : PatternValue). stands_alone p ≡ true) (sym same_pattern) h;
}

module _ {T : Type 0} (alphas : List AlphaMemoryValue) (sources : List SourceValue) (before now read : List BetaMemoryValue) (fs fs' : IndexedFacts) (old new : Lists) (k : ℕ) (alpha : ℕ)
    (node : LoneNode T) (own m : BetaMemoryValue) (a : AlphaMemoryValue) (b : IsNodeBefore alphas sources before now read fs fs' old new k (kept.Lone alpha node) own)
    (memory : slice_get alphas alpha ≡ Some a) (is : slice_get read node.from ≡ Some m) where
  abbrev this : Node T
  this = kept.Lone alpha node

  abbrev used : AlphaUse
  used = record { pattern = node.pattern; alpha = alpha; join = None }

  turned : HasTurned alphas fs fs' used
  turned = b.turned used refl

  same_memory : memory_in alphas alpha ≡ a
  same_memory = get_or_from_slice_get alphas alpha a no_memory memory

  pub near : node.from ≤ k
  near = let w : node.from < suc k = b.well in omega (arith, w)

  pub lone_before : IsBeforeLone node (partial_at sources read node.from) m a own fs fs' (old node.from) (new node.from)
  lone_before = record {
    turns = turns alphas sources before now read fs fs' old new k this own b node.from m near is;
    facts = subst (λ it. AlphaTurns node.pattern it fs fs') same_memory turned.1;
    ready = subst (λ it. IsLoneReady node (WasThere m) (were_in it) own) same_memory
        (relied alphas sources before now read fs fs' old new k this own b m is);
    none_gone = none_gone alphas sources before now read fs fs' old new k this own b;
    none_come = none_come alphas sources before now read fs fs' old new k this own b;
  }

  pub lone_after : (node' : LoneNode T) (own' : BetaMemoryValue) → node'.from ≡ node.from → node'.positive ≡ node.positive → node'.pattern ≡ node.pattern
      → IsAfterLone node' (partial_at sources read node.from) m a own' fs fs' (old node.from) (new node.from) → KeepsTokens own own'
      → IsNodeAfter alphas sources read fs fs' old new this (kept.Lone alpha node') own own'
  lone_after node' own' same_from same_positive same_pattern after keeps = record {
    step = λ f at. subst (λ it. IsStepped sources read (record { from = node.from; address = None }) it own own'
        (filter (holds_alone node.positive node.pattern fs) (old node.from)) (filter (holds_alone node.positive node.pattern fs') (new node.from)))
        (one_at read node.from m f is at)
        (record {
          turns = subst (λ (p : PatternValue). Turns (partial_after None own'.tokens (partial_at sources read node.from)) own'
              (filter (holds_alone node.positive p fs) (old node.from)) (filter (holds_alone node.positive p fs') (new node.from))) same_pattern
              (subst (λ (it : Bool). Turns (partial_after None own'.tokens (partial_at sources read node.from)) own'
              (filter (holds_alone it node'.pattern fs) (old node.from)) (filter (holds_alone it node'.pattern fs') (new node.from))) same_positive after.turns);
          keeps = keeps;
          parents = λ i t there. parent_there node' (IsThere m) (live a) own' after.ready i t there;
        });
    ready = λ m' at.
        let here : slice_get read node.from ≡ Some m' = ap (slice_get read) (sym same_from) ∙ at in
        subst (λ o. IsLoneReady node' (IsThere m') (live o) own') (sym same_memory)
        (subst (λ it. IsLoneReady node' (IsThere it) (live a) own') (one_at read node.from m m' is here) after.ready);
  }
