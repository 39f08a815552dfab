-- A change of all nodes, as far as it has come.
use Rattle.std.proofs.Common.{◌≡◌, ◌∙◌, ◌≤◌, ◌<◌, ℕ, suc, List, [], Some, ap, arith, get_or, inl, inr, length, refl, set, slice_get, subst, sym}
use Rattle.std.proofs.Math.Seq.{map-set_same}
use Rattle.std.proofs.lemmas.Bool.{cases_eq}
use Rattle.std.proofs.lemmas.List.{length-map}
use Rattle.std.proofs.lemmas.Option.{get_or_from_slice_get, slice_get-map}
use Rattle.std.specs.Option.{option_and_then, option_map}
use Rattle.cb_alpha.specs.AlphaMemories.{AlphaMemoryValue}
use Rattle.cb_beta.specs.BetaMemories.{BetaMemoryValue}
use Rattle.cb_branch.proofs.Alike.{node_stays}
use Rattle.cb_branch.proofs.Done.{agree_alike, put_agree}
use Rattle.cb_branch.proofs.Fills.{flat_at, use_at, well_at}
use Rattle.cb_branch.proofs.Sets.{set_others, set_there}
use Rattle.cb_branch.specs.Alphas.{alpha_use, live_facts}
use Rattle.cb_branch.specs.Ready.{IsNodeReady}
use Rattle.cb_branch.specs.Turning.{AreNodesAfter, AreNodesBefore, AreSameNodes, IsNodeBefore, IsNodeDone, IsSameNode, LeadsWithin}
use Rattle.cb_facts.specs.FactLists.{IndexedFacts}
use Rattle.cb_flat.specs.Sources.{source_of, sources_of}
use Rattle.cb_list_changes.proofs.Places.{at_place, one_some, within}
use Rattle.cb_list_changes.specs.Halfway.{AreHalfway}
use Rattle.cb_list_changes.specs.Resting.{AgreeTo}
use Rattle.cb_matches.specs.Chains.{In}
use Rattle.cb_matches.specs.Matches.{Partial}
use Rattle.cb_nodes.specs.Flat.{AreLists, AreWidths, FlatNode, IsWell, Lists, node_list}
use Rattle.cb_branch.specs.Nodes.{IsPrepared, flat_node, flat_nodes}
use Rattle.cb_branch.specs.declared.node.Node.{Node}
use Rattle.cb_scopes.specs.Scopes.{HasValuesOf, scope_of}
use Rattle.cb_token_lists.proofs.Keeping.{same_itself}
use Rattle.cb_token_lists.specs.Partials.{SourceValue}
use Rattle.cb_token_lists.specs.Turns.{IsThere}

-- the law of the scopes of lists
abbrev pub GivesScopes : Type 0
GivesScopes = (ns : List FlatNode) (ws : ℕ → ℕ) (fs : IndexedFacts) (first : List Partial) (ls : Lists) → AreWidths ns ws → AreLists ns fs first ls
    → ((m : Partial) → In m first → HasValuesOf [] m) → (k : ℕ) → k ≤ length ns → (m : Partial) → In m (ls k) → HasValuesOf (scope_of ns k) m

-- the nodes up to number i have been changed, and those behind are as they were
pub record AreTurnedTo {T : Type 0} (alphas : List AlphaMemoryValue) (sources : List SourceValue) (before lists : List BetaMemoryValue) (old new : Lists) (first nodes : List (Node T)) (i : ℕ) : Type 0 where
  pub halfway : AreHalfway sources before lists old new i
  pub long : length lists ≡ suc (length first)
  pub done : (k : ℕ) (n : Node T) (own : BetaMemoryValue) → k < i → slice_get nodes k ≡ Some n → slice_get lists (suc k) ≡ Some own → IsNodeReady (live_facts alphas) sources lists new own n
  pub left : (k : ℕ) → i ≤ k → slice_get nodes k ≡ slice_get first k

sources_at : (ns : List FlatNode) (i : ℕ) (n : FlatNode) → slice_get ns i ≡ Some n → slice_get (sources_of ns) i ≡ Some (source_of n)
sources_at ns i n is = slice_get-map source_of ns i ∙ ap (option_map source_of) is

-- one node of several is another one now, which is the same but for what it keeps
pub same_step : {T : Type 0} (first nodes : List (Node T)) (i : ℕ) (n n' : Node T) → slice_get nodes i ≡ Some n → AreSameNodes first nodes → IsSameNode n n' → AreSameNodes first (set nodes i n')
same_step {T} first nodes i n n' is so_far same =
    let there : slice_get (set nodes i n') i ≡ Some n' = set_there nodes i n' (within nodes i n is) in
    let flat : flat_nodes (set nodes i n') ≡ flat_nodes nodes = map-set_same flat_node nodes i n' n (same.flat ∙ ap flat_node (sym (get_or_from_slice_get nodes i n n is))) in
    record {
      flat = flat ∙ so_far.flat;
      uses = λ k u.
          let e : option_and_then alpha_use (slice_get (set nodes i n') k) ≡ option_and_then alpha_use (slice_get nodes k) =
          elim (cases_eq k i) as (λ _. option_and_then alpha_use (slice_get (set nodes i n') k) ≡ option_and_then alpha_use (slice_get nodes k)) [
            | inl at ↦ ap (λ j. option_and_then alpha_use (slice_get (set nodes i n') j)) at
                ∙ (ap (option_and_then alpha_use) there ∙ (same.uses ∙ sym (ap (λ j. option_and_then alpha_use (slice_get nodes j)) at ∙ ap (option_and_then alpha_use) is)))
            | inr d ↦ ap (option_and_then alpha_use) (set_others nodes i n' k d)
          ] in
          (λ h. e ∙ (so_far.uses k u).0 h, λ h. (so_far.uses k u).1 (sym e ∙ h));
      prepared = λ were k m at. subst (λ (ns : List FlatNode). IsPrepared (scope_of ns) m) (sym flat) (elim (cases_eq k i) as (λ _. IsPrepared (scope_of (flat_nodes nodes)) m) [
        | inl e ↦ subst (IsPrepared (scope_of (flat_nodes nodes))) (one_some (sym there ∙ (ap (slice_get (set nodes i n')) (sym e) ∙ at)))
            (same.prepared (scope_of (flat_nodes nodes)) (so_far.prepared were i n is))
        | inr d ↦ so_far.prepared were k m (sym (set_others nodes i n' k d) ∙ at)
      ]);
    }

pub same_first : {T : Type 0} (nodes : List (Node T)) → AreSameNodes nodes nodes
same_first nodes = record { flat = refl; uses = λ k u. (λ h. h, λ h. h); prepared = λ h. h }

module _ {T : Type 0} (alphas : List AlphaMemoryValue) (sources : List SourceValue) (before start : List BetaMemoryValue) (fs fs' : IndexedFacts) (one one' : List Partial) (old new : Lists)
    (first : List (Node T)) (w : AreNodesBefore alphas sources before start fs fs' one one' old new first) (scoping : GivesScopes) where
  pub turned_first : AreTurnedTo alphas sources before start old new first first 0
  turned_first = record { halfway = w.begun; long = w.long; done = λ k n own l is at. absurd (omega (arith, l)); left = λ k l. refl }

  module _ (lists : List BetaMemoryValue) (nodes : List (Node T)) (i : ℕ) (t : AreTurnedTo alphas sources before lists old new first nodes i) (so_far : AreSameNodes first nodes) where
    as_long : length nodes ≡ length first
    as_long = sym (length-map nodes flat_node) ∙ (ap length so_far.flat ∙ length-map first flat_node)

    -- when all have been changed
    pub turned_last : i ≡ length nodes → AreNodesAfter alphas sources before lists old new nodes
    turned_last e = record {
      halfway = subst (AreHalfway sources before lists old new) e t.halfway;
      long = t.long ∙ ap suc (sym as_long);
      ready = λ k n own is at. t.done k n own (let l = within nodes k n is in omega (arith, l, e)) is at;
    }

    module _ (n : Node T) (is : slice_get nodes i ≡ Some n) where
      pub in_first : slice_get first i ≡ Some n
      in_first = sym (t.left i (omega arith)) ∙ is

      pub flat_is : slice_get (flat_nodes first) i ≡ Some (flat_node n)
      flat_is = flat_at first i n in_first

      place : i < length (flat_nodes first)
      place = within (flat_nodes first) i (flat_node n) flat_is

      flat_get : get_or (flat_nodes first) i (flat_node n) ≡ flat_node n
      flat_get = get_or_from_slice_get (flat_nodes first) i (flat_node n) (flat_node n) flat_is

      pub own_there : (own : BetaMemoryValue) × (slice_get lists (suc i) ≡ Some own)
      own_there = let l = within first i n in_first in at_place lists (suc i) (omega (arith, l, t.long))

      pub was_list : old (suc i) ≡ node_list (flat_node n) fs old
      was_list = w.were.each i (flat_node n) place ∙ ap (λ (it : FlatNode). node_list it fs old) flat_get

      pub now_list : new (suc i) ≡ node_list (flat_node n) fs' new
      now_list = w.are.each i (flat_node n) place ∙ ap (λ (it : FlatNode). node_list it fs' new) flat_get

      -- where its turn comes
      pub node_before : IsNodeBefore alphas sources before lists lists fs fs' old new i n own_there.0
      node_before = record {
        rest = w.rest;
        halfway = t.halfway;
        agree = λ j l. refl;
        source = subst (λ (it : List SourceValue). slice_get it i ≡ Some (source_of (flat_node n))) (sym w.sources_are) (sources_at (flat_nodes first) i (flat_node n) flat_is);
        behind = own_there.1;
        ready = w.ready i n own_there.0 in_first (sym (t.halfway.others (suc i) (omega arith)) ∙ own_there.1);
        turned = λ u e. w.turned i u (use_at first i n u in_first e);
        widths = w.widths;
        well = well_at sources first w.widths w.well w.leads i n in_first;
        wide = let l = within first i n in_first in record { was = λ j k. w.wide.was j (omega (arith, k, l)); is = λ j k. w.wide.is j (omega (arith, k, l)) };
        leads = w.leads i (flat_node n) flat_is;
        scopes = scope_of (flat_nodes first);
        prepared = w.prepared i n in_first;
        scoped = λ j l m h.
            let near : j ≤ length (flat_nodes first) = let p = place in omega (arith, p, l) in
            elim h as (λ _. HasValuesOf (scope_of (flat_nodes first) j) m) [
              | inl k ↦ scoping (flat_nodes first) w.widths fs one old w.well w.were (λ m' i'. w.unbound m' (inl i')) j near m k
              | inr k ↦ scoping (flat_nodes first) w.widths fs' one' new w.well w.are (λ m' i'. w.unbound m' (inr i')) j near m k
            ];
      }

      -- and when it has been changed
      module _ (n' : Node T) (lists' : List BetaMemoryValue) (same : IsSameNode n n') (d : IsNodeDone alphas sources before lists lists' old new i n') where
        done_earlier : (k : ℕ) (m : Node T) (own : BetaMemoryValue) → k < i → slice_get nodes k ≡ Some m → slice_get lists' (suc k) ≡ Some own → IsNodeReady (live_facts alphas) sources lists' new own m
        done_earlier k m own l at own_at =
            let widths : AreWidths (flat_nodes nodes) w.widths = subst (λ (it : List FlatNode). AreWidths it w.widths) (sym so_far.flat) w.well in
            let in_nodes = flat_at nodes k m at in
            let lead : LeadsWithin sources (flat_node m) = w.leads k (flat_node m) (subst (λ (it : List FlatNode). slice_get it k ≡ Some (flat_node m)) so_far.flat in_nodes) in
            let agree : AgreeTo k lists lists' = λ j h. put_agree lists lists' i d.own d.put j (omega (arith, h, l)) in
            let was_at : slice_get lists (suc k) ≡ Some own = sym (d.put.others (suc k) (λ e. absurd (omega (arith, e, l)))) ∙ own_at in
            node_stays IsThere IsThere sources lists lists' k w.widths m (live_facts alphas) (live_facts alphas) new new own own
            (subst (λ (it : FlatNode). IsWell k it w.widths) (get_or_from_slice_get (flat_nodes nodes) k (flat_node m) (flat_node m) in_nodes) (widths.well k (flat_node m) (within (flat_nodes nodes) k (flat_node m) in_nodes)))
            lead (agree_alike sources lists lists' k w.rest.rooted.below agree) (λ u e j. refl) (λ j. refl) (same_itself own) (t.done k m own l at was_at)

        pub turned_next : (j : ℕ) → j ≡ suc i → AreTurnedTo alphas sources before lists' old new first (set nodes i n') j
        turned_next j next = subst (AreTurnedTo alphas sources before lists' old new first (set nodes i n')) (sym next) (record {
          halfway = d.halfway;
          long = d.put.long ∙ t.long;
          done = λ k m own l at own_at. elim (cases_eq k i) as (λ _. IsNodeReady (live_facts alphas) sources lists' new own m) [
            | inl e ↦
                let m_is : n' ≡ m = one_some (sym (set_there nodes i n' (within nodes i n is)) ∙ (ap (slice_get (set nodes i n')) (sym e) ∙ at)) in
                let own_is : d.own ≡ own = one_some (sym d.put.there ∙ (ap (λ it. slice_get lists' (suc it)) (sym e) ∙ own_at)) in
                subst (λ it. IsNodeReady (live_facts alphas) sources lists' new own it) m_is (subst (λ it. IsNodeReady (live_facts alphas) sources lists' new it n') own_is d.ready)
            | inr apart ↦ done_earlier k m own (omega (arith, l, apart)) (sym (set_others nodes i n' k apart) ∙ at) own_at
          ];
          left = λ k l. set_others nodes i n' k (λ e. absurd (omega (arith, l, e))) ∙ t.left k (omega (arith, l));
        })
