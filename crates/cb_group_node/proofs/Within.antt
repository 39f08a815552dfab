-- What is inside a group, before and after a change, and whether it holds.
use Rattle.std.proofs.Common.{◌≡◌, ◌∙◌, ◌↔◌, ℕ, not, Bool, true, false, List, Some, None, ap, inl, inr, subst, sym}
use Rattle.std.specs.List.{list_any}
use Rattle.cb_beta.proofs.Live.{live_token, some_none, there_is}
use Rattle.cb_beta.proofs.Members.{by_in}
use Rattle.cb_beta.specs.BetaMemories.{BetaMemoryValue}
use Rattle.cb_group_node.proofs.Beginnings.{in_some, some_in}
use Rattle.cb_group_node.specs.Internal.{Enters, GroupHolds, Sets}
use Rattle.cb_group_node.specs.Nodes.{IsInside}
use Rattle.cb_groups.specs.Groups.{HasMember, Membership, group_of}
use Rattle.cb_matches.proofs.Lists.{by_test}
use Rattle.cb_matches.specs.Chains.{In}
use Rattle.cb_matches.specs.Matches.{Partial}
use Rattle.cb_nodes.proofs.Grown.{not_true}
use Rattle.cb_nodes.specs.Flat.{begins}
use Rattle.cb_nodes.specs.Lists.{group_with}
use Rattle.cb_token_lists.specs.Turns.{IsReadable, IsThere, StandFor, WasThere}

pub there_read : (m : BetaMemoryValue) (i : ℕ) → IsThere m i → (In i m.gone → ⊥) × IsReadable m i
there_read m i h = let l = live_token m.tokens m.gone i h.0 h.1 in (l.0, (h.0, l.1))

pub is_there : (m : BetaMemoryValue) (i : ℕ) → IsReadable m i → (In i m.gone → ⊥) → IsThere m i
is_there m i h n = (h.0, there_is m.tokens m.gone i n ∙ h.1)

-- after what went left and what came entered
module _ (Met : ℕ → ℕ → Type 0) (Before : ℕ → Type 0) (within : BetaMemoryValue) (old mid new : Membership) (was : IsInside Met (WasThere within) old)
    (descend : (i : ℕ) → IsReadable within i → (g : ℕ) × Before g × Met g i)
    (went : (i : ℕ) → In i within.gone → WasThere within i) (came : (i : ℕ) → In i within.come → IsThere within i)
    (left : Sets old mid (λ i. In i within.gone) None) (entered : Enters Met (λ i. In i within.come) mid new) where
  pub is_inside : IsInside Met (IsThere within) new
  is_inside = record {
    are = λ i g e. elim (by_in i within.come) as (λ _. IsThere within i × Met g i) [
      | inl h ↦
          let there = came i h in
          let d = descend i (there_read within i there).1 in
          let both : Some d.0 ≡ Some g = sym (entered.entered i d.0 h d.2) ∙ e in
          let one : d.0 ≡ g = cc in
          (there, subst (λ a. Met a i) one d.2)
      | inr n ↦
          let e' = sym (entered.others i n) ∙ e in
          elim (by_in i within.gone) as (λ _. IsThere within i × Met g i) [
            | inl h ↦ some_none (group_of mid i) e' (left.set i h)
            | inr m ↦ let k = was.are i g (sym (left.others i m) ∙ e') in (is_there within i k.0.0 m, k.1)
          ]
    ];
    all = λ i g there met. elim (by_in i within.come) as (λ _. group_of new i ≡ Some g) [
      | inl h ↦ entered.entered i g h met
      | inr n ↦ let r = there_read within i there in entered.others i n ∙ (left.others i r.0 ∙ was.all i g (r.1, n) met)
    ];
  }

  -- nothing changed for those that nothing that went or came goes on from
  pub kept : (g : ℕ) → ((i : ℕ) → In i within.gone → Met g i → ⊥) → HasMember old g → HasMember new g
  kept g none h =
      let k = was.are h.0 g h.1 in
      (h.0, is_inside.all h.0 g (is_there within h.0 k.0.0 (λ i. none h.0 i k.1)) k.1)

  pub kept_back : (g : ℕ) → ((i : ℕ) → In i within.come → Met g i → ⊥) → HasMember new g → HasMember old g
  kept_back g none h =
      let k = is_inside.are h.0 g h.1 in
      (h.0, was.all h.0 g ((there_read within h.0 k.0).1, λ i. none h.0 i k.1) k.1)

-- whether the group holds
module _ (Met : ℕ → ℕ → Type 0) (at within_at : ℕ → Partial) (There : ℕ → Type 0) (ms : List Partial) (stand : StandFor within_at There ms) (inside : Membership)
    (is : IsInside Met There inside) (g : ℕ) (goes : (i : ℕ) → There i → (begins (at g).parts (within_at i) ≡ true) ↔ Met g i) where
  any_member : (list_any (begins (at g).parts) ms ≡ true) ↔ HasMember inside g
  any_member = (
    λ e.
        let z = some_in (begins (at g).parts) ms e in
        let i = stand.from z.0 z.1 in
        (i.0, is.all i.0 g i.1 ((goes i.0 i.1).0 (subst (λ it. begins (at g).parts it ≡ true) i.2 z.2))),
    λ h.
        let k = is.are h.0 g h.1 in
        in_some (begins (at g).parts) (within_at h.0) ms (stand.to h.0 k.0) ((goes h.0 k.0).1 k.1),
  )

  pub group_holds : (positive : Bool) → (group_with positive ms (at g) ≡ true) ↔ GroupHolds positive inside g
  group_holds true = any_member
  group_holds false = (
    λ e h. not_true (list_any (begins (at g).parts) ms) (any_member.1 h) e,
    λ none. by_test (list_any (begins (at g).parts) ms) (λ t. absurd (none (any_member.0 t))) (λ f. ap not f),
  )

pub same_holds : (positive : Bool) (old new : Membership) (g : ℕ) → (HasMember old g → HasMember new g) → (HasMember new g → HasMember old g) → GroupHolds positive old g → GroupHolds positive new g
same_holds true old new g to from h = to h
same_holds false old new g to from h = λ k. h (from k)
