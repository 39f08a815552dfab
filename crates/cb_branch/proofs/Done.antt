-- One list more has turned, behind its node.
use Rattle.std.proofs.Common.{◌≡◌, ◌∙◌, ◌++◌, ◌<◌, ℕ, suc, List, Some, ap, arith, get_or, length, refl, set, slice_get, subst, sym}
use Rattle.std.proofs.lemmas.Option.{slice_get-get_or}
use Rattle.cb_alpha.specs.AlphaMemories.{AlphaMemoryValue}
use Rattle.cb_beta.specs.BetaMemories.{BetaMemoryValue}
use Rattle.cb_branch.proofs.Alike.{AreListsAlike, node_stays}
use Rattle.cb_branch.proofs.Sets.{in_front, in_second, set_put, set_second}
use Rattle.cb_branch.specs.Alphas.{live_facts, were_facts}
use Rattle.cb_branch.specs.Ready.{IsNodeReady}
use Rattle.cb_branch.specs.Turning.{IsNodeAfter, IsNodeBefore, IsNodeDone, IsSameNode, LeadsWithin}
use Rattle.cb_facts.specs.FactLists.{IndexedFacts}
use Rattle.cb_flat.specs.Sources.{source_of}
use Rattle.cb_list_changes.proofs.Local.{local, met_same_local}
use Rattle.cb_list_changes.proofs.Places.{at_place, one_some, within}
use Rattle.cb_list_changes.proofs.Steps.{stepped}
use Rattle.cb_list_changes.specs.Halfway.{IsStepped}
use Rattle.cb_list_changes.specs.Resting.{AgreeTo, IsPut}
use Rattle.cb_nodes.specs.Flat.{FlatNode, IsWell, Lists, node_list}
use Rattle.cb_branch.specs.Nodes.{flat_node}
use Rattle.cb_branch.specs.declared.node.Node.{Node}
use Rattle.cb_token_lists.proofs.Keeping.{same_itself}
use Rattle.cb_token_lists.specs.Partials.{AreBelow, SourceValue}
use Rattle.cb_token_lists.specs.Turns.{IsThere}

-- lists that are the same up to a number
pub agree_alike : (sources : List SourceValue) (lists lists' : List BetaMemoryValue) (k : ℕ) → AreBelow sources → AgreeTo k lists lists' → AreListsAlike IsThere IsThere sources lists lists' k
agree_alike sources lists lists' k below agree = record {
  alike = λ j m' l is. (m', sym (agree j l) ∙ is, record { to = λ i h. h; from = λ i h. h; same = λ i h. local sources below k lists lists' agree j i l });
  met = λ from inner g i m l leads is there. met_same_local sources below k lists lists' agree from g inner i l;
}

-- a list that is put says nothing of those before it
pub put_agree : (lists lists' : List BetaMemoryValue) (k : ℕ) (m : BetaMemoryValue) → IsPut lists lists' (suc k) m → AgreeTo k lists lists'
put_agree lists lists' k m put j l = put.others j (λ e. absurd (omega (arith, l, e)))

-- lists that are cut before the list behind node k
module _ (lists read behind : List BetaMemoryValue) (n k : ℕ) (at : n ≡ suc k) (parts : lists ≡ read ++ behind) (long : length read ≡ n) (some : 0 < length behind) where
  in_parts : slice_get lists (suc k) ≡ slice_get behind 0
  in_parts = ap (λ it. slice_get it (suc k)) parts ∙ in_second read behind (suc k) (long ∙ at)

  pub cut_first : (d : BetaMemoryValue) → slice_get behind 0 ≡ Some (get_or behind 0 d)
  cut_first d = slice_get-get_or behind 0 d some

  pub cut_there : (d : BetaMemoryValue) → slice_get lists (suc k) ≡ Some (get_or behind 0 d)
  cut_there d = in_parts ∙ cut_first d

  pub cut_agree : AgreeTo k lists read
  cut_agree j l = in_front read behind j (omega (arith, l, long, at)) ∙ ap (λ it. slice_get it j) (sym parts)

  -- the first of the second part is another one now
  pub cut_put : (lists' : List BetaMemoryValue) (own' : BetaMemoryValue) → lists' ≡ read ++ set behind 0 own' → IsPut lists lists' (suc k) own'
  cut_put lists' own' e =
      let l : suc k < length lists = within lists (suc k) (get_or behind 0 own') (cut_there own') in
      let same : lists' ≡ set lists (suc k) own' = e ∙ (set_second read behind (suc k) own' (long ∙ at) ∙ ap (λ it. set it (suc k) own') (sym parts)) in
      subst (λ it. IsPut lists it (suc k) own') (sym same) (set_put lists (suc k) own' l)

module _ {T : Type 0} (alphas : List AlphaMemoryValue) (sources : List SourceValue) (before lists read : List BetaMemoryValue) (fs fs' : IndexedFacts) (old new : Lists) (k : ℕ)
    (node : Node T) (own taken : BetaMemoryValue) (b : IsNodeBefore alphas sources before lists lists fs fs' old new k node own) (is : slice_get lists (suc k) ≡ Some taken)
    (agree : AgreeTo k lists read) where
  own_is : taken ≡ own
  own_is = one_some (sym is ∙ b.behind)

  -- the node may read other lists, which are the same up to its own
  pub before_others : IsNodeBefore alphas sources before lists read fs fs' old new k node taken
  before_others = record {
    rest = b.rest;
    halfway = b.halfway;
    agree = agree;
    source = b.source;
    behind = is;
    ready = subst (λ it. IsNodeReady (were_facts alphas) sources before old it node) (sym own_is) b.ready;
    turned = b.turned;
    widths = b.widths;
    well = b.well;
    wide = b.wide;
    leads = b.leads;
    scopes = b.scopes;
    prepared = b.prepared;
    scoped = b.scoped;
  }

  module _ (node' : Node T) (lists' : List BetaMemoryValue) (own' : BetaMemoryValue) (same : IsSameNode node node')
      (after : IsNodeAfter alphas sources read fs fs' old new node node' taken own') (put : IsPut lists lists' (suc k) own')
      (was : old (suc k) ≡ node_list (flat_node node) fs old) (now : new (suc k) ≡ node_list (flat_node node) fs' new) where
    abbrev s : SourceValue
    s = source_of (flat_node node)

    before_it : (from : BetaMemoryValue) × (slice_get lists s.from ≡ Some from)
    before_it =
        let below = b.rest.rooted.below k s b.source in
        let l = within lists (suc k) taken is in
        at_place lists s.from (omega (arith, below, l))

    step : IsStepped sources read s before_it.0 taken own' (old (suc k)) (new (suc k))
    step =
        let below = b.rest.rooted.below k s b.source in
        let at : slice_get read s.from ≡ Some before_it.0 = agree s.from (omega (arith, below)) ∙ before_it.1 in
        subst (λ z. IsStepped sources read s before_it.0 taken own' z (new (suc k))) (sym was)
        (subst (λ z. IsStepped sources read s before_it.0 taken own' (node_list (flat_node node) fs old) z) (sym now) (after.step before_it.0 at))

    then : AgreeTo k read lists'
    then j l = put_agree lists lists' k own' put j l ∙ sym (agree j l)

    pub done : IsNodeDone alphas sources before lists lists' old new k node'
    done = record {
      own = own';
      put = put;
      halfway = stepped sources before lists read lists' old new k s before_it.0 taken own' b.halfway b.source before_it.1 is agree step put;
      ready = node_stays IsThere IsThere sources read lists' k b.widths node' (live_facts alphas) (live_facts alphas) new new own' own'
          (subst (λ (n : FlatNode). IsWell k n b.widths) (sym same.flat) b.well) (subst (λ (n : FlatNode). LeadsWithin sources n) (sym same.flat) b.leads)
          (agree_alike sources read lists' k b.rest.rooted.below then) (λ u e i. refl) (λ j. refl) (same_itself own') after.ready;
    }
