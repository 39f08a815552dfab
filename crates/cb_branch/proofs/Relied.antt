-- What a node may rely on where its turn comes in a change.
use Rattle.std.proofs.Common.{◌≡◌, ◌∙◌, ◌≤◌, ℕ, suc, List, [], Some, arith, inl, inr, length, refl, slice_get, sym}
use Rattle.cb_alpha.specs.AlphaMemories.{AlphaMemoryValue}
use Rattle.cb_beta.specs.BetaMemories.{BetaMemoryValue}
use Rattle.cb_branch.proofs.Alike.{AreListsAlike, node_stays}
use Rattle.cb_branch.specs.Alphas.{were_facts}
use Rattle.cb_branch.specs.Ready.{IsNodeReadyFor}
use Rattle.cb_branch.specs.Turning.{IsNodeBefore}
use Rattle.cb_facts.specs.FactLists.{IndexedFacts}
use Rattle.cb_list_changes.proofs.Local.{local, met_local, met_same_local}
use Rattle.cb_list_changes.proofs.Memories.{read_is}
use Rattle.cb_list_changes.proofs.Places.{at_place, at_same, within}
use Rattle.cb_list_changes.proofs.Relying.{alike_was, met_was}
use Rattle.cb_list_changes.proofs.Rooted.{descends}
use Rattle.cb_nodes.specs.Flat.{Lists}
use Rattle.cb_branch.specs.declared.node.Node.{Node}
use Rattle.cb_token_lists.proofs.Keeping.{alike_then, same_itself, turns_alike}
use Rattle.cb_token_lists.specs.Keeping.{Rests}
use Rattle.cb_token_lists.specs.Partials.{LeadsTo, Meets, SourceValue, partial_at}
use Rattle.cb_token_lists.specs.Turns.{IsReadable, IsThere, Turns, WasThere}

module _ {T : Type 0} (alphas : List AlphaMemoryValue) (sources : List SourceValue) (before now read : List BetaMemoryValue) (fs fs' : IndexedFacts) (old new : Lists) (k : ℕ) (node : Node T)
    (own : BetaMemoryValue) (b : IsNodeBefore alphas sources before now read fs fs' old new k node own) where
  at_now : (j : ℕ) (m : BetaMemoryValue) → j ≤ k → slice_get read j ≡ Some m → slice_get now j ≡ Some m
  at_now j m l is = sym (b.agree j l) ∙ is

  at_read : (j : ℕ) (m : BetaMemoryValue) → j ≤ k → slice_get now j ≡ Some m → slice_get read j ≡ Some m
  at_read j m l is = b.agree j l ∙ is

  same_now : (j i : ℕ) → j ≤ k → partial_at sources now j i ≡ partial_at sources read j i
  same_now j i l = local sources b.rest.rooted.below k now read b.agree j i l

  lists_alike : AreListsAlike IsThere WasThere sources before read k
  lists_alike = record {
    alike = λ j m' l is.
        let m = at_same now before j m' (sym b.halfway.long) (at_now j m' l is) in (
          m.0,
          m.1,
          alike_then (partial_at sources before j) (partial_at sources now j) (partial_at sources read j) (IsThere m.0) (WasThere m') (WasThere m')
              (alike_was sources before now old new k b.rest b.halfway j m.0 m' m.1 (at_now j m' l is))
              (record { to = λ i h. h; from = λ i h. h; same = λ i h. same_now j i l }),
        );
    met = λ from inner g i m l leads is there.
        let first = met_was sources before now old new k b.rest b.halfway from inner g i m leads is there in
        let then = met_same_local sources b.rest.rooted.below k now read b.agree from g inner i l in
        (λ h. then.0 (first.0 h), λ h. first.1 (then.1 h));
  }

  -- it is ready for what was there
  pub relied : IsNodeReadyFor WasThere (were_facts alphas) sources read old own node
  relied = node_stays IsThere WasThere sources before read k b.widths node (were_facts alphas) (were_facts alphas) old old own own b.well b.leads lists_alike (λ u e i. refl) (λ j. refl) (same_itself own) b.ready

  -- the lists before it have turned
  pub turns : (j : ℕ) (m : BetaMemoryValue) → j ≤ k → slice_get read j ≡ Some m → Turns (partial_at sources read j) m (old j) (new j)
  turns j m l is = turns_alike (partial_at sources now j) (partial_at sources read j) m (old j) (new j) (λ i h. same_now j i l) (b.halfway.turned j m l (at_now j m l is))

  -- its own rests
  own_rests : Rests (partial_at sources before (suc k)) own (old (suc k))
  own_rests = b.rest.each (suc k) own (sym (b.halfway.others (suc k) (omega arith)) ∙ b.behind)

  pub none_gone : own.gone ≡ []
  none_gone = own_rests.none_gone

  pub none_come : own.come ≡ []
  none_come = own_rests.none_come

  -- what can be read in them has so many parts
  pub long : (j : ℕ) (m : BetaMemoryValue) → j ≤ k → slice_get read j ≡ Some m → (g : ℕ) → IsReadable m g → length (partial_at sources read j g).parts ≡ b.widths j
  long j m l is g h = elim (read_is (partial_at sources read j) m (old j) (new j) (turns j m l is) g h) as (λ _. length (partial_at sources read j g).parts ≡ b.widths j) [
    | inl i ↦ b.wide.was j l (partial_at sources read j g) i
    | inr i ↦ b.wide.is j l (partial_at sources read j g) i
  ]

  -- from what is inside a group something before it is met
  pub met_before : (from inner i : ℕ) (m w : BetaMemoryValue) → from ≤ k → inner ≤ k → LeadsTo sources from inner → slice_get read from ≡ Some m → slice_get read inner ≡ Some w → IsReadable w i
      → (g : ℕ) × IsReadable m g × Meets sources read from g inner i
  met_before from inner i m w l n leads is inside h =
      let g = descends sources now b.halfway.rooted from inner i m w leads (at_now from m l is) (at_now inner w n inside) h in
      (g.0, g.1, met_local sources b.rest.rooted.below k now read b.agree from g.0 inner i n g.2)

  -- each list up to the node's own is there
  pub list_there : (j : ℕ) → j ≤ k → (m : BetaMemoryValue) × (slice_get read j ≡ Some m)
  list_there j l =
      let n = within now (suc k) own b.behind in
      let m = at_place now j (omega (arith, l, n)) in
      (m.0, at_read j m.0 l m.1)
