-- A branch where a change begins.
use Rattle.std.proofs.Common.{◌≡◌, ◌∙◌, ◌≤◌, ℕ, suc, List, [], ◌∷◌, None, Some, ap, arith, inl, inr, length, refl, slice_get, subst, sym}
use Rattle.std.proofs.lemmas.List.{length-map}
use Rattle.cb_alpha_network.specs.Networks.{MemoryValues}
use Rattle.cb_beta.specs.BetaMemories.{BetaMemoryValue}
use Rattle.cb_branch.proofs.Matched.{last_sorted}
use Rattle.cb_branch.specs.Branches.{AreTurned, CanBeFilled, IsBefore, branch_elements}
use Rattle.cb_branch.specs.Internal.{BeginsFilling, IsTurning}
use Rattle.cb_branch.specs.declared.branch.Branch.{Branch}
use Rattle.cb_branch.proofs.Fills.{empty_ready}
use Rattle.cb_branch.specs.Alphas.{were_facts}
use Rattle.cb_branch.specs.Ready.{AreNodesCleared}
use Rattle.cb_branch.specs.Turning.{LeadsWithin}
use Rattle.cb_facts.specs.FactLists.{IndexedFacts}
use Rattle.cb_flat.proofs.Last.{nothing_of_nothing}
use Rattle.cb_flat.proofs.Leads.{branch_below, inside_leads}
use Rattle.cb_flat.proofs.Whole.{branch_wide, whole_nodes}
use Rattle.cb_flat.proofs.Widths.{branch_widths}
use Rattle.cb_flat.specs.Sources.{source_of, sources_of}
use Rattle.cb_list_changes.proofs.Begins.{change_begins, empty_rest, filling_begins}
use Rattle.cb_list_changes.proofs.Places.{at_place}
use Rattle.cb_list_changes.specs.Halfway.{AreHalfway}
use Rattle.cb_list_changes.specs.Resting.{AreResting}
use Rattle.cb_matches.specs.Chains.{In}
use Rattle.cb_matches.specs.Matches.{Partial, no_parts}
use Rattle.cb_matches.specs.Order.{IsRising, IsSorted, WaysRise}
use Rattle.cb_nodes.specs.Flat.{AreWidths, FlatNode, Lists, branch_nodes, lists_of, widths_of}
use Rattle.cb_nodes.specs.Lists.{AreWhole, HaveParts, branch_lists}
use Rattle.cb_branch.specs.Nodes.{flat_node, flat_nodes, no_tokens}
use Rattle.cb_scopes.specs.Scopes.{HasValuesOf}
use Rattle.cb_token_lists.specs.Partials.{AreBelow, LeadsTo, SourceValue}

module _ {T : Type 0} (b : Branch T) (planned : CanBeFilled b) where
  abbrev ns : List FlatNode
  ns = flat_nodes b.nodes.items

  abbrev sources : List SourceValue
  sources = b.sources.items

  as_many : length ns ≡ length b.nodes.items
  as_many = length-map b.nodes.items flat_node

  whole : AreWhole ns
  whole = subst AreWhole (sym planned.nodes) (whole_nodes (branch_elements b))

  pub widths : AreWidths ns (widths_of ns)
  widths = subst (λ (it : List FlatNode). AreWidths it (widths_of it)) (sym planned.nodes) (branch_widths (branch_elements b))

  wide : (fs : IndexedFacts) (k : ℕ) → k ≤ length b.nodes.items → HaveParts (widths_of ns k) (branch_lists ns fs k)
  wide fs k l =
      let long : length ns ≡ length (branch_nodes (branch_elements b)) = ap length planned.nodes in
      subst (λ (it : List FlatNode). HaveParts (widths_of it k) (branch_lists it fs k)) (sym planned.nodes) (branch_wide (branch_elements b) fs k (omega (arith, l, long, as_many)))

  sources_are : sources ≡ sources_of (branch_nodes (branch_elements b))
  sources_are = planned.sources ∙ ap sources_of planned.nodes

  below : AreBelow sources
  below = subst AreBelow (sym sources_are) (branch_below (branch_elements b))

  pub leads : (k : ℕ) (n : FlatNode) → slice_get ns k ≡ Some n → LeadsWithin sources n
  leads k n is from inner width positive e =
      subst (λ (it : List SourceValue). LeadsTo it from inner) (sym sources_are)
      (inside_leads (branch_elements b) k from inner positive width (ap (λ (it : List FlatNode). slice_get it k) (sym planned.nodes) ∙ (is ∙ ap Some e)))

  -- what each list but the first goes on from
  pub sources_long : length sources ≡ length b.nodes.items
  sources_long = ap length planned.sources ∙ (length-map ns source_of ∙ as_many)

  start : (fs : IndexedFacts) (first : List Partial) → lists_of ns fs first 0 ≡ first
  start fs first = (whole.lists fs first).start

  none : (fs : IndexedFacts) (k : ℕ) → lists_of ns fs [] k ≡ []
  none fs k = nothing_of_nothing ns fs k

-- no variable has a value in the partial match of no parts
nothing_bound : (m : Partial) → In m (no_parts ∷ []) → HasValuesOf [] m
nothing_bound m h = elim h as (λ _. HasValuesOf [] m) [
  | inl e ↦ subst (HasValuesOf []) (sym e) (λ x. (λ some. absurd (some refl), λ none. absurd none))
  | inr none ↦ absurd none
]

-- a change of facts
pub change_turning : {T : Type 0} (alphas : MemoryValues) (fs fs' : IndexedFacts) (b : Branch T) → WaysRise → IsBefore alphas fs fs' b
    → IsTurning alphas b.lists.items fs fs' (no_parts ∷ []) (no_parts ∷ []) (branch_lists (flat_nodes b.nodes.items) fs) (branch_lists (flat_nodes b.nodes.items) fs') b
change_turning alphas fs fs' b rise before =
    let over = before.over in
    let planned = over.planned in
    let w = whole b planned in
    record {
      planned = planned;
      nodes = record {
        rest = over.rest;
        begun = change_begins b.sources.items b.lists.items (branch_lists (flat_nodes b.nodes.items) fs) (branch_lists (flat_nodes b.nodes.items) fs') over.rest
            (start b planned fs (no_parts ∷ []) ∙ sym (start b planned fs' (no_parts ∷ [])));
        long = over.long;
        sources_are = planned.sources;
        were = w.lists fs (no_parts ∷ []);
        are = w.lists fs' (no_parts ∷ []);
        widths = widths_of (flat_nodes b.nodes.items);
        well = widths b planned;
        wide = record { was = λ j l. wide b planned fs j l; is = λ j l. wide b planned fs' j l };
        leads = leads b planned;
        ready = over.ready;
        prepared = planned.prepared;
        unbound = λ m h. elim h as (λ _. HasValuesOf [] m) [ inl i ↦ nothing_bound m i | inr i ↦ nothing_bound m i ];
        turned = before.turned;
      };
      sorted = last_sorted b planned rise fs before.rising;
      sorted_now = last_sorted b planned rise fs' before.rising_now;
    }

-- and a filling
module _ {T : Type 0} (alphas : MemoryValues) (fs : IndexedFacts) (rise : WaysRise) (rising : IsRising fs) (b : Branch T) (planned : CanBeFilled b)
    (empties : List BetaMemoryValue) (long : length empties ≡ suc (length b.nodes.items)) (empty : (j : ℕ) (m : BetaMemoryValue) → slice_get empties j ≡ Some m → m ≡ no_tokens)
    (cleared : AreNodesCleared b.nodes.items) (first : BeginsFilling empties b.lists.items) (turned : AreTurned alphas fs fs b) where
  abbrev nodes_of : List FlatNode
  nodes_of = flat_nodes b.nodes.items

  abbrev was : Lists
  was = lists_of nodes_of fs []

  rest : AreResting b.sources.items empties was
  rest = empty_rest b.sources.items empties was (below b planned) empty (none b planned fs)

  one : (m : BetaMemoryValue) × (slice_get empties 0 ≡ Some m)
  one = at_place empties 0 (omega (arith, long))

  begun : AreHalfway b.sources.items empties b.lists.items was (branch_lists nodes_of fs) 0
  begun =
      let g = first.gains one.0 one.1 in
      filling_begins b.sources.items empties b.lists.items was (branch_lists nodes_of fs) one.0 g.0 g.1 (record { parent = 0; taken = None }) rest (none b planned fs 0)
      (start b planned fs (no_parts ∷ [])) one.1 g.2 g.3

  pub fill_turning : IsTurning alphas empties fs fs [] (no_parts ∷ []) was (branch_lists nodes_of fs) b
  fill_turning = record {
    planned = planned;
    nodes = record {
      rest = rest;
      begun = begun;
      long = first.long ∙ long;
      sources_are = planned.sources;
      were = (whole b planned).lists fs [];
      are = (whole b planned).lists fs (no_parts ∷ []);
      widths = widths_of nodes_of;
      well = widths b planned;
      wide = record { was = λ j l m h. absurd (subst (In m) (none b planned fs j) h); is = λ j l. wide b planned fs j l };
      leads = leads b planned;
      ready = empty_ready b.sources.items b.nodes.items (widths_of nodes_of) (widths b planned) (leads b planned) empties (were_facts alphas) was empty cleared;
      prepared = planned.prepared;
      unbound = λ m h. elim h as (λ _. HasValuesOf [] m) [ inl i ↦ absurd i | inr i ↦ nothing_bound m i ];
      turned = turned;
    };
    sorted = subst IsSorted (sym (none b planned fs b.last)) tt;
    sorted_now = last_sorted b planned rise fs rising;
  }
