-- Nodes that are ready stay so, where the same numbers stand for the same partial matches.
use Rattle.std.proofs.Common.{◌≡◌, ◌≤◌, ◌<◌, ◌↔◌, ℕ, suc, List, Some, None, arith, refl, slice_get, subst}
use Rattle.cb_beta.specs.BetaMemories.{BetaMemoryValue}
use Rattle.cb_branch.specs.Alphas.{AlphaUse, Facts, alpha_use, join_asked}
use Rattle.cb_branch.specs.Ready.{IsNodeReadyFor}
use Rattle.cb_branch.specs.Turning.{LeadsWithin}
use Rattle.cb_exprs.specs.Terms.{term_of}
use Rattle.cb_group_node.proofs.Staying.{group_stays}
use Rattle.cb_group_node.specs.Nodes.{IsGroupReady}
use Rattle.cb_join_node.proofs.Staying.{ready_stays}
use Rattle.cb_lone_node.proofs.Staying.{lone_stays}
use Rattle.cb_lookup_node.proofs.Staying.{lookup_stays}
use Rattle.cb_nodes.specs.Flat.{IsWell, Lists}
use Rattle.cb_branch.specs.Nodes.{flat_node}
use Rattle.cb_branch.specs.declared.node.Node.{Node}
use Rattle.cb_branch.specs.declared.node.Node.TheVariants as kept
use Rattle.cb_test_node.proofs.Staying.{passed_stay}
use Rattle.cb_token_lists.specs.Keeping.{AreAlike, HasSameTokens}
use Rattle.cb_token_lists.specs.Partials.{LeadsTo, Meets, SourceValue, partial_at}

-- such numbers of the lists up to this one stand for the same as such of the others, and the same is met from them
pub record AreListsAlike (There There' : BetaMemoryValue → ℕ → Type 0) (sources : List SourceValue) (lists lists' : List BetaMemoryValue) (k : ℕ) : Type 0 where
  pub alike : (j : ℕ) (m' : BetaMemoryValue) → j ≤ k → slice_get lists' j ≡ Some m'
      → (m : BetaMemoryValue) × (slice_get lists j ≡ Some m) × AreAlike (partial_at sources lists j) (partial_at sources lists' j) (There m) (There' m')
  pub met : (from inner g i : ℕ) (m : BetaMemoryValue) → inner ≤ k → LeadsTo sources from inner → slice_get lists inner ≡ Some m → There m i
      → Meets sources lists from g inner i ↔ Meets sources lists' from g inner i

-- the facts of a node's alpha memory are the same
abbrev pub HasSameFacts : {T : Type 0} → Node T → Facts → Facts → Type 0
HasSameFacts n facts facts' = (u : AlphaUse) → alpha_use n ≡ Some u → (i : ℕ) → facts u.alpha i ≡ facts' u.alpha i

pub node_stays : {T : Type 0} (There There' : BetaMemoryValue → ℕ → Type 0) (sources : List SourceValue) (lists lists' : List BetaMemoryValue) (k : ℕ) (ws : ℕ → ℕ) (n : Node T)
    (facts facts' : Facts) (ls ls' : Lists) (own own' : BetaMemoryValue) → IsWell k (flat_node n) ws → LeadsWithin sources (flat_node n) → AreListsAlike There There' sources lists lists' k
    → HasSameFacts n facts facts' → ((j : ℕ) → ls j ≡ ls' j) → HasSameTokens own own' → IsNodeReadyFor There facts sources lists ls own n → IsNodeReadyFor There' facts' sources lists' ls' own' n
node_stays There There' sources lists lists' k ws (kept.Join alpha node) facts facts' ls ls' own own' well leads are same_facts same_lists tokens ready = λ before is.
    let m = are.alike node.from before (omega (arith, well)) is in
    ready_stays node (partial_at sources lists node.from) (partial_at sources lists' node.from) (There m.0) (There' before) (facts alpha) (facts' alpha) own own' (ready m.0 m.1) m.2
    (λ i. same_facts (record { pattern = node.asked.pattern; alpha = alpha; join = join_asked node.join node.asked.fields.items }) refl i) tokens
node_stays There There' sources lists lists' k ws (kept.Test from test) facts facts' ls ls' own own' well leads are same_facts same_lists tokens ready = λ before is.
    let m = are.alike from before (omega (arith, well)) is in
    passed_stay (term_of test) (partial_at sources lists from) (partial_at sources lists' from) (There m.0) (There' before) own own' (ready m.0 m.1) m.2 tokens
node_stays There There' sources lists lists' k ws (kept.Group width node) facts facts' ls ls' own own' well leads are same_facts same_lists tokens ready = λ before within is inside.
    let below : node.from < suc k = well.0 in
    let inner_below : node.inner < suc k = well.1 in
    let l : node.inner ≤ k = omega (arith, inner_below) in
    let m = are.alike node.from before (omega (arith, below)) is in
    let w = are.alike node.inner within l inside in
    let leads_to : LeadsTo sources node.from node.inner = leads node.from node.inner width node.positive refl in
    let met = λ (i g : ℕ) (there : There w.0 i). are.met node.from node.inner g i w.0 l leads_to w.1 there in
    subst (λ it. IsGroupReady node (λ g i. Meets sources lists' node.from g node.inner i) (partial_at sources lists' node.from) (There' before) (There' within) it own') (same_lists node.inner)
    (group_stays (λ g i. Meets sources lists node.from g node.inner i) (λ g i. Meets sources lists' node.from g node.inner i) (There w.0) (There' within) w.2.to w.2.from met
    node (partial_at sources lists node.from) (partial_at sources lists' node.from) (There m.0) (There' before) (ls node.inner) own own' (ready m.0 w.0 m.1 w.1) m.2 tokens)
node_stays There There' sources lists lists' k ws (kept.Lone alpha node) facts facts' ls ls' own own' well leads are same_facts same_lists tokens ready = λ before is.
    let m = are.alike node.from before (omega (arith, well)) is in
    lone_stays node (There m.0) (There' before) (facts alpha) (facts' alpha) own own' (partial_at sources lists node.from) (partial_at sources lists' node.from) (ready m.0 m.1) m.2
    (λ i. same_facts (record { pattern = node.pattern; alpha = alpha; join = None }) refl i) tokens
node_stays There There' sources lists lists' k ws (kept.Lookup alpha node) facts facts' ls ls' own own' well leads are same_facts same_lists tokens ready = λ names before looked is.
    let m = are.alike node.from before (omega (arith, well)) is in
    lookup_stays node names (There m.0) (There' before) (facts alpha) (facts' alpha) own own' (partial_at sources lists node.from) (partial_at sources lists' node.from) (ready names m.0 looked m.1) m.2
    (λ i. same_facts (record { pattern = node.pattern; alpha = alpha; join = Some (node.join, node.fields.items) }) refl i) tokens
