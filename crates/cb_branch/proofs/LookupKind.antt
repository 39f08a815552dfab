-- A change of a group of one pattern that is looked up by values.
use Rattle.std.proofs.Common.{◌≡◌, ◌∙◌, ◌≤◌, ◌<◌, ℕ, suc, Bool, List, None, Some, Global, Vec, ap, arith, filter, refl, slice_get, subst, sym}
use Rattle.std.proofs.lemmas.Option.{get_or_from_slice_get}
use Rattle.cb_alpha.specs.AlphaMemories.{AlphaMemoryValue, live}
use Rattle.cb_alpha.specs.Turning.{AlphaTurns, HasJoin, were_in}
use Rattle.cb_alpha_network.specs.Networks.{memory_in, no_memory}
use Rattle.cb_beta.specs.BetaMemories.{BetaMemoryValue}
use Rattle.cb_beta.specs.Tokens.{partial_after}
use Rattle.cb_branch.proofs.Relied.{none_come, none_gone, relied, turns}
use Rattle.cb_branch.specs.Alphas.{AlphaUse, HasTurned}
use Rattle.cb_branch.specs.Turning.{IsNodeAfter, IsNodeBefore, IsSameNode}
use Rattle.cb_constraints.specs.PatternValues.{PatternValue}
use Rattle.cb_facts.specs.FactLists.{IndexedFacts}
use Rattle.cb_fit.specs.Comparisons.{choice_fields, compared_fields, conditions, is_decided}
use Rattle.cb_fit.specs.JoinFields.{join_fields}
use Rattle.cb_fit.specs.declared.join_fields.JoinField.{JoinField}
use Rattle.cb_list_changes.proofs.Places.{one_at}
use Rattle.cb_list_changes.specs.Halfway.{IsStepped}
use Rattle.cb_lookup_node.proofs.Staying.{parent_there}
use Rattle.cb_lookup_node.specs.LookupNodes.{AsksBy, AsksTheSame, IsAfterLookup, IsBeforeLookup, IsLookup, IsLookupReady, Looking, looking_of}
use Rattle.cb_lookup_node.specs.declared.node.LookupNode.{LookupNode}
use Rattle.cb_nodes.specs.Flat.{Lists, alone, holds_alone}
use Rattle.cb_branch.specs.declared.node.Node.{Node}
use Rattle.cb_branch.specs.declared.node.Node.TheVariants as kept
use Rattle.cb_scopes.specs.Decided.{known_fields}
use Rattle.cb_scopes.specs.Scopes.{Scope}
use Rattle.cb_token_lists.specs.Keeping.{KeepsTokens}
use Rattle.cb_token_lists.specs.Partials.{SourceValue, partial_at}
use Rattle.cb_token_lists.specs.Turns.{IsThere, Turns, WasThere}

abbrev use_of : ℕ → PatternValue → ℕ → List JoinField → AlphaUse
use_of alpha p join fields = record { pattern = p; alpha = alpha; join = Some (join, fields) }

module _ {T : Type 0} where
  -- the number of the join says nothing of what is looked up
  pub lookup_of_join : (names : Scope) (node : LookupNode T) (join : ℕ) → IsLookup names node → IsLookup names (record node { join = join })
  lookup_of_join names node join is = record { decided = is.decided; unchosen = is.unchosen; unconditional = is.unconditional; asks = is.asks }

  pub lookup_of_any : (names : Scope) (node : LookupNode T) (join : ℕ) → IsLookup names (record node { join = join }) → IsLookup names node
  lookup_of_any names node join is = record { decided = is.decided; unchosen = is.unchosen; unconditional = is.unconditional; asks = is.asks }

  -- what is looked up is, where the node asks the same
  pub lookup_with : (names : Scope) (node node' : LookupNode T) → AsksTheSame node node' → IsLookup names node → IsLookup names node'
  lookup_with names node node' same is = record {
    decided = ap (λ (p : PatternValue). is_decided p) same.pattern ∙ is.decided;
    unchosen = ap (λ (p : PatternValue). choice_fields p.parts) same.pattern ∙ is.unchosen;
    unconditional = ap (λ (p : PatternValue). conditions p.parts) same.pattern ∙ is.unconditional;
    asks = subst (λ (it : Looking). AsksBy it node'.fields.items (known_fields (join_fields node'.pattern.parts) names) (compared_fields node'.pattern.parts)) (sym same.looking)
        (subst (λ (v : Vec JoinField Global). AsksBy (looking_of node.sight.value) v.items (known_fields (join_fields node'.pattern.parts) names) (compared_fields node'.pattern.parts)) (sym same.fields)
        (subst (λ (p : PatternValue). AsksBy (looking_of node.sight.value) node.fields.items (known_fields (join_fields p.parts) names) (compared_fields p.parts)) (sym same.pattern) is.asks));
  }

  pub lookup_back : (names : Scope) (node node' : LookupNode T) → AsksTheSame node node' → IsLookup names node' → IsLookup names node
  lookup_back names node node' same is =
      lookup_with names node' node
      (record { from = sym same.from; positive = sym same.positive; pattern = sym same.pattern; join = sym same.join; fields = sym same.fields; looking = sym same.looking }) is

  -- what the node is but for what it keeps
  pub lookup_same : (alpha : ℕ) (node node' : LookupNode T) → AsksTheSame node node' → IsSameNode (kept.Lookup alpha node) (kept.Lookup alpha node')
  lookup_same alpha node node' same = record {
    flat = ap (λ n. alone n node'.pattern node'.positive) same.from
        ∙ (ap (λ (it : Bool). alone node.from node'.pattern it) same.positive ∙ ap (λ (p : PatternValue). alone node.from p node.positive) same.pattern);
    uses = ap (λ (p : PatternValue). Some (use_of alpha p node'.join node'.fields.items)) same.pattern
        ∙ (ap (λ n. Some (use_of alpha node.pattern n node'.fields.items)) same.join ∙ ap (λ (v : Vec JoinField Global). Some (use_of alpha node.pattern node.join v.items)) same.fields);
    prepared = λ scopes h. subst (λ n. IsLookup (scopes n) node') (sym same.from) (lookup_with (scopes node.from) node node' same h);
  }

module _ {T : Type 0} (alphas : List AlphaMemoryValue) (sources : List SourceValue) (before now read : List BetaMemoryValue) (fs fs' : IndexedFacts) (old new : Lists) (k : ℕ) (alpha : ℕ)
    (node : LookupNode T) (own m : BetaMemoryValue) (a : AlphaMemoryValue) (b : IsNodeBefore alphas sources before now read fs fs' old new k (kept.Lookup alpha node) own)
    (memory : slice_get alphas alpha ≡ Some a) (is : slice_get read node.from ≡ Some m) where
  abbrev this : Node T
  this = kept.Lookup alpha node

  abbrev used : AlphaUse
  used = record { pattern = node.pattern; alpha = alpha; join = Some (node.join, node.fields.items) }

  turned : HasTurned alphas fs fs' used
  turned = b.turned used refl

  same_memory : memory_in alphas alpha ≡ a
  same_memory = get_or_from_slice_get alphas alpha a no_memory memory

  pub near : node.from ≤ k
  near = let w : node.from < suc k = b.well in omega (arith, w)

  pub lookup_before : IsBeforeLookup node (b.scopes node.from) (partial_at sources read node.from) m a own fs fs' (old node.from) (new node.from)
  lookup_before = record {
    turns = turns alphas sources before now read fs fs' old new k this own b node.from m near is;
    scope = λ m' h. b.scoped node.from near m' h;
    facts = subst (λ it. AlphaTurns node.pattern it fs fs') same_memory turned.1;
    has_join = subst (λ it. HasJoin it node.join node.fields.items) same_memory turned.2;
    ready = subst (λ it. IsLookupReady node (b.scopes node.from) (partial_at sources read node.from) (WasThere m) (were_in it) own) same_memory
        (relied alphas sources before now read fs fs' old new k this own b (b.scopes node.from) m b.prepared is);
    none_gone = none_gone alphas sources before now read fs fs' old new k this own b;
    none_come = none_come alphas sources before now read fs fs' old new k this own b;
  }

  pub lookup_after : (node' : LookupNode T) (own' : BetaMemoryValue) → AsksTheSame node node'
      → IsAfterLookup node' (b.scopes node.from) (partial_at sources read node.from) m a own' fs fs' (old node.from) (new node.from) → KeepsTokens own own'
      → IsNodeAfter alphas sources read fs fs' old new this (kept.Lookup alpha node') own own'
  lookup_after node' own' same after keeps = record {
    step = λ f at. subst (λ it. IsStepped sources read (record { from = node.from; address = None }) it own own'
        (filter (holds_alone node.positive node.pattern fs) (old node.from)) (filter (holds_alone node.positive node.pattern fs') (new node.from)))
        (one_at read node.from m f is at)
        (record {
          turns = subst (λ (p : PatternValue). Turns (partial_after None own'.tokens (partial_at sources read node.from)) own'
              (filter (holds_alone node.positive p fs) (old node.from)) (filter (holds_alone node.positive p fs') (new node.from))) same.pattern
              (subst (λ (it : Bool). Turns (partial_after None own'.tokens (partial_at sources read node.from)) own'
              (filter (holds_alone it node'.pattern fs) (old node.from)) (filter (holds_alone it node'.pattern fs') (new node.from))) same.positive after.turns);
          keeps = keeps;
          parents = λ i t there. parent_there node' (b.scopes node.from) (partial_at sources read node.from) (IsThere m) (live a) own' after.ready i t there;
        });
    ready = λ names m' looked at.
        let here : slice_get read node.from ≡ Some m' = ap (slice_get read) (sym same.from) ∙ at in
        subst (λ o. IsLookupReady node' names (partial_at sources read node'.from) (IsThere m') (live o) own') (sym same_memory)
        (subst (λ n. IsLookupReady node' names (partial_at sources read n) (IsThere m') (live a) own') (sym same.from)
        (subst (λ it. IsLookupReady node' names (partial_at sources read node.from) (IsThere it) (live a) own') (one_at read node.from m m' is here)
        (record { lookup = looked; kept = after.ready.kept; tokens = after.ready.tokens })));
  }
