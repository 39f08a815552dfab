-- What a change does behind a group.
use Rattle.std.proofs.Common.{◌≡◌, ◌≢◌, ◌∙◌, ◌⊎◌, ◌↔◌, ℕ, Bool, true, false, List, [], Some, None, ap, filter, inl, inr, refl, subst, sym}
use Rattle.std.specs.Option.{option_map_or}
use Rattle.cb_beta.proofs.Live.{some_none}
use Rattle.cb_beta.proofs.Losses.{then}
use Rattle.cb_beta.proofs.Members.{apart_of, by_in, contains_in, in_contains}
use Rattle.cb_beta.specs.BetaMemories.{BetaMemoryValue, Loses}
use Rattle.cb_beta.specs.Tokens.{TokenValue, Tokens, partial_after, token_at, with_taken}
use Rattle.cb_group_node.proofs.Within.{group_holds, is_inside, is_there, kept, kept_back, same_holds, there_read}
use Rattle.cb_group_node.proofs.Touching.{AreTouched}
use Rattle.cb_group_node.specs.Internal.{ArePassedByGroup, Enters, GroupHolds, Sets}
use Rattle.cb_group_node.specs.Nodes.{AreBehind, IsAfterGroup, IsInside}
use Rattle.cb_group_node.specs.Outer.{passed_by_group}
use Rattle.cb_group_node.specs.declared.node.GroupNode.{GroupNode}
use Rattle.cb_groups.specs.Groups.{AppendsMembers, Membership, Releases, group_of}
use Rattle.cb_matches.proofs.Lists.{by_test, filter_in, in_filter}
use Rattle.cb_matches.specs.Chains.{Chain, In}
use Rattle.cb_matches.specs.Matches.{Partial, no_parts}
use Rattle.cb_nodes.specs.Flat.{begins}
use Rattle.cb_nodes.specs.Lists.{group_with}
use Rattle.cb_token_lists.proofs.After.{is_new, new_is, old_was, they_are, they_turn, was_old}
use Rattle.cb_token_lists.specs.Growth.{AreTokens, Comes}
use Rattle.cb_token_lists.specs.Turns.{IsReadable, IsThere, StandFor, Turns, WasThere}

-- what a token behind the group stands for
stands_for : (at : ℕ → Partial) (ts : Tokens) (i n : ℕ) → token_at ts i ≡ Some (passed_by_group n) → partial_after None ts at i ≡ at n
stands_for at ts i n e = ap (λ o. option_map_or (λ (t : TokenValue). with_taken None t.taken (at t.parent)) o no_parts) e

they_stand : (positive : Bool) (complete : List Partial) (at : ℕ → Partial) (ts : Tokens) (Th There : ℕ → Type 0) (ms : List Partial) → StandFor at Th ms
    → ((i : ℕ) → There i → (t : TokenValue) × (token_at ts i ≡ Some t) × AreBehind positive complete at Th t)
    → ((t : TokenValue) → AreBehind positive complete at Th t → (i : ℕ) × There i × (token_at ts i ≡ Some t))
    → StandFor (partial_after None ts at) There (filter (group_with positive complete) ms)
they_stand positive complete at ts Th There ms stand are all = record {
  to = λ i h.
      let a = are i h in
      let n = a.2.0 in
      let is : partial_after None ts at i ≡ at n = stands_for at ts i n (a.1 ∙ ap Some a.2.3) in
      subst (λ z. In z (filter (group_with positive complete) ms)) (sym is) (filter_in (group_with positive complete) (at n) ms (stand.to n a.2.1) a.2.2);
  from = λ z h.
      let k = in_filter (group_with positive complete) z ms h in
      let n = stand.from z k.0 in
      let i = all (passed_by_group n.0) (n.0, n.1, (ap (group_with positive complete) (sym n.2) ∙ k.1), refl) in
      (i.0, i.1, n.2 ∙ sym (stands_for at ts i.0 n.0 i.2));
}

module _ (positive : Bool) (Met : ℕ → ℕ → Type 0) (at within_at : ℕ → Partial) (before within : BetaMemoryValue) (old new begun begun' : List Partial)
    (turns : Turns at before old new) (inner_turns : Turns within_at within begun begun')
    (descend : (i : ℕ) → IsReadable within i → (g : ℕ) × IsReadable before g × Met g i) (one : (g h i : ℕ) → Met g i → Met h i → g ≡ h)
    (goes : (g i : ℕ) → IsReadable before g → IsReadable within i → (begins (at g).parts (within_at i) ≡ true) ↔ Met g i)
    (inside₀ inside₁ inside : Membership) (was_inside : IsInside Met (WasThere within) inside₀)
    (left : Sets inside₀ inside₁ (λ i. In i within.gone) None) (entered : Enters Met (λ i. In i within.come) inside₁ inside)
    (first touched : List ℕ) (touch₁ : AreTouched Met within.gone [] first) (touch₂ : AreTouched Met within.come first touched)
    (w₀ w₁ w₂ w₃ w : Membership) (none_waiting : (g : ℕ) → group_of w₀ g ≡ None) (wait₁ : Sets w₀ w₁ (λ n. In n touched × (GroupHolds positive inside₀ n → ⊥)) (Some 0))
    (wait₂ : Sets w₁ w₂ (λ n. In n before.come) (Some 0)) (wait₃ : Sets w₂ w₃ (λ n. In n before.gone) None) (settled : List ℕ)
    (taken : AppendsMembers w₃ 0 [] settled) (released : Releases w₃ w 0) where
  now_inside : IsInside Met (IsThere within) inside
  now_inside = is_inside Met (IsReadable before) within inside₀ inside₁ inside was_inside descend inner_turns.went inner_turns.came left entered

  held : (g : ℕ) → IsReadable before g → (group_with positive begun (at g) ≡ true) ↔ GroupHolds positive inside₀ g
  held g r = group_holds Met at within_at (WasThere within) begun inner_turns.was inside₀ was_inside g (λ i h. goes g i r h.0) positive

  holds_now : (g : ℕ) → IsReadable before g → (group_with positive begun' (at g) ≡ true) ↔ GroupHolds positive inside g
  holds_now g r = group_holds Met at within_at (IsThere within) begun' inner_turns.is inside now_inside g (λ i h. goes g i r (there_read within i h).1) positive

  touched_gone : (g i : ℕ) → In i within.gone → Met g i → In g touched
  touched_gone g i h m = (touch₂ g).1 (inl ((touch₁ g).1 (inr (i, h, m))))

  touched_come : (g i : ℕ) → In i within.come → Met g i → In g touched
  touched_come g i h m = (touch₂ g).1 (inr (i, h, m))

  met_read : (g i : ℕ) → IsReadable within i → Met g i → IsReadable before g
  met_read g i r m = let d = descend i r in subst (IsReadable before) (one d.0 g i d.2 m) d.1

  touched_read : (g : ℕ) → In g touched → IsReadable before g
  touched_read g h = elim ((touch₂ g).0 h) as (λ _. IsReadable before g) [
    | inr t ↦ met_read g t.0 (there_read within t.0 (inner_turns.came t.0 t.1)).1 t.2
    | inl k ↦ elim ((touch₁ g).0 k) as (λ _. IsReadable before g) [
      | inl none ↦ absurd none
      | inr t ↦ met_read g t.0 (inner_turns.went t.0 t.1).0 t.2
    ]
  ]

  same_on : (g : ℕ) → (In g touched → ⊥) → GroupHolds positive inside₀ g → GroupHolds positive inside g
  same_on g n = same_holds positive inside₀ inside g
      (kept Met (IsReadable before) within inside₀ inside₁ inside was_inside descend inner_turns.went inner_turns.came left entered g (λ i h m. n (touched_gone g i h m)))
      (kept_back Met (IsReadable before) within inside₀ inside₁ inside was_inside descend inner_turns.went inner_turns.came left entered g (λ i h m. n (touched_come g i h m)))

  same_back : (g : ℕ) → (In g touched → ⊥) → GroupHolds positive inside g → GroupHolds positive inside₀ g
  same_back g n = same_holds positive inside inside₀ g
      (kept_back Met (IsReadable before) within inside₀ inside₁ inside was_inside descend inner_turns.went inner_turns.came left entered g (λ i h m. n (touched_come g i h m)))
      (kept Met (IsReadable before) within inside₀ inside₁ inside was_inside descend inner_turns.went inner_turns.came left entered g (λ i h m. n (touched_gone g i h m)))

  -- what waited
  abbrev Waits : ℕ → Type 0
  Waits g = In g touched × (GroupHolds positive inside₀ g → ⊥)

  waits : (g : ℕ) → group_of w₁ g ≡ Some 0 → Waits g
  waits g e = elim (by_in g touched) as (λ _. Waits g) [
    | inr n ↦ some_none (group_of w₁ g) e (wait₁.others g (λ q. n q.0) ∙ none_waiting g)
    | inl h ↦ by_test (group_with positive begun (at g))
        (λ t. some_none (group_of w₁ g) e (wait₁.others g (λ q. q.1 ((held g (touched_read g h)).0 t)) ∙ none_waiting g))
        (λ f. (h, λ k. absurd (let no : true ≡ false = sym ((held g (touched_read g h)).1 k) ∙ f in cc)))
  ]

  of_settled : (g : ℕ) → In g settled → (In g before.gone → ⊥) × (In g before.come ⊎ Waits g)
  of_settled g h =
      let e = (taken.are.are g).0 (in_contains taken.members g (subst (In g) taken.is h)) in
      elim (by_in g before.gone) as (λ _. (In g before.gone → ⊥) × (In g before.come ⊎ Waits g)) [
        | inl k ↦ some_none (group_of w₃ g) e (wait₃.set g k)
        | inr n ↦ (
          n,
          elim (by_in g before.come) as (λ _. In g before.come ⊎ Waits g) [
            | inl k ↦ inl k
            | inr m ↦ inr (waits g (sym (wait₃.others g n ∙ wait₂.others g m) ∙ e))
          ],
        )
      ]

  to_settled : (g : ℕ) → (In g before.gone → ⊥) → In g before.come ⊎ Waits g → In g settled
  to_settled g n h =
      let e : group_of w₂ g ≡ Some 0 = elim (by_in g before.come) as (λ _. group_of w₂ g ≡ Some 0) [
        | inl k ↦ wait₂.set g k
        | inr m ↦ wait₂.others g m ∙ wait₁.set g (elim h as (λ _. Waits g) [ inl k ↦ absurd (m k) | inr q ↦ q ])
      ] in
      subst (In g) (sym taken.is) (contains_in taken.members g ((taken.are.are g).1 (wait₃.others g n ∙ e)))

  settled_once : Chain (λ (i : ℕ) (j : ℕ). i ≢ j) settled
  settled_once = subst (Chain (λ (i : ℕ) (j : ℕ). i ≢ j)) (sym taken.is) (apart_of taken.members taken.are.once)

  -- then nothing waits
  none_waits : (g : ℕ) → group_of w g ≡ None
  none_waits g = elim (by_in g settled) as (λ _. group_of w g ≡ None) [
    | inl h ↦ released.released g ((taken.are.are g).0 (in_contains taken.members g (subst (In g) taken.is h)))
    | inr n ↦
        let not_there : group_of w₃ g ≡ Some 0 → ⊥ = λ e. n (subst (In g) (sym taken.is) (contains_in taken.members g ((taken.are.are g).1 e))) in
        released.others g not_there ∙ elim (by_in g before.gone) as (λ _. group_of w₃ g ≡ None) [
          | inl k ↦ wait₃.set g k
          | inr m ↦
              let fresh : (In g before.come → ⊥) = λ k. n (to_settled g m (inl k)) in
              wait₃.others g m ∙ (wait₂.others g fresh ∙ (wait₁.others g (λ q. n (to_settled g m (inr q))) ∙ none_waiting g))
        ]
  ]

  module _ (own₀ own₁ own₂ own : BetaMemoryValue) (behind : AreTokens own₀ (AreBehind positive begun at (WasThere before))) (none_gone : own₀.gone ≡ []) (none_come : own₀.come ≡ [])
      (lost₁ : Loses own₀ own₁ (λ t. In t.parent before.gone)) (lost₂ : Loses own₁ own₂ (λ t. In t.parent touched × (GroupHolds positive inside t.parent → ⊥)))
      (comes : Chain (λ (i : ℕ) (j : ℕ). i ≢ j) settled → Comes own₂ own (ArePassedByGroup positive inside (λ n. In n settled))) where
    come : Comes own₂ own (ArePassedByGroup positive inside (λ n. In n settled))
    come = comes settled_once

    abbrev Was : TokenValue → Type 0
    Was = AreBehind positive begun at (WasThere before)

    abbrev Lost : TokenValue → Type 0
    Lost t = In t.parent before.gone ⊎ (In t.parent touched × (GroupHolds positive inside t.parent → ⊥))

    abbrev Came : TokenValue → Type 0
    Came = ArePassedByGroup positive inside (λ n. In n settled)

    abbrev Final : TokenValue → Type 0
    Final = AreBehind positive begun' at (IsThere before)

    lost : Loses own₀ own₂ Lost
    lost = then own₀ own₁ (λ t. In t.parent before.gone) lost₁ own₂ (λ t. In t.parent touched × (GroupHolds positive inside t.parent → ⊥)) lost₂

    parent_is : (t : TokenValue) (n : ℕ) → t ≡ passed_by_group n → n ≡ t.parent
    parent_is t n e = ap (λ (it : TokenValue). it.parent) (sym e)

    -- the group holds still for what isn't lost
    still : (g : ℕ) → IsReadable before g → GroupHolds positive inside₀ g → (In g touched × (GroupHolds positive inside g → ⊥) → ⊥) → group_with positive begun' (at g) ≡ true
    still g r h apart = by_test (group_with positive begun' (at g)) (λ t. t)
        (λ f.
        let no : GroupHolds positive inside g → ⊥ = λ k. absurd (let both : true ≡ false = sym ((holds_now g r).1 k) ∙ f in cc) in
        elim (by_in g touched) as (λ _. group_with positive begun' (at g) ≡ true) [
          | inl i ↦ absurd (apart (i, no))
          | inr n ↦ absurd (no (same_on g n h))
        ])

    stay : (t : TokenValue) → Was t → (Lost t → ⊥) → Final t
    stay t h apart =
        let p = parent_is t h.0 h.3 in (
          h.0,
          is_there before h.0 h.1.0 (λ k. apart (inl (subst (λ it. In it before.gone) p k))),
          still h.0 h.1.0 ((held h.0 h.1.0).0 h.2) (λ q. apart (inr (subst (λ it. In it touched × (GroupHolds positive inside it → ⊥)) p q))),
          h.3,
        )

    arrive : (t : TokenValue) → Came t → Final t
    arrive t h =
        let s = of_settled h.0 h.1 in
        let there : IsThere before h.0 = elim s.1 as (λ _. IsThere before h.0) [
          | inl k ↦ turns.came h.0 k
          | inr q ↦ is_there before h.0 (touched_read h.0 q.0) s.0
        ] in
        (h.0, there, (holds_now h.0 (there_read before h.0 there).1).1 h.2.0, h.2.1)

    split : (t : TokenValue) → Final t → (Was t × (Lost t → ⊥)) ⊎ Came t
    split t h =
        let r = there_read before h.0 h.1 in
        let now = (holds_now h.0 r.1).0 h.2 in
        let p = sym (parent_is t h.0 h.3) in
        elim (by_in h.0 before.come) as (λ _. (Was t × (Lost t → ⊥)) ⊎ Came t) [
          | inl k ↦ inr (h.0, to_settled h.0 r.0 (inl k), (now, h.3))
          | inr m ↦ by_test (group_with positive begun (at h.0))
              (λ t'. inl (
                (h.0, (r.1, m), t', h.3),
                λ l. elim l as (λ _. ⊥) [
                  | inl g ↦ r.0 (subst (λ it. In it before.gone) p g)
                  | inr q ↦ q.1 (subst (GroupHolds positive inside) (sym p) now)
                ],
              ))
              (λ f.
              let no : GroupHolds positive inside₀ h.0 → ⊥ = λ k. absurd (let both : true ≡ false = sym ((held h.0 r.1).1 k) ∙ f in cc) in
              elim (by_in h.0 touched) as (λ _. (Was t × (Lost t → ⊥)) ⊎ Came t) [
                | inl i ↦ inr (h.0, to_settled h.0 r.0 (inr (i, no)), (now, h.3))
                | inr n ↦ absurd (no (same_back h.0 n now))
              ])
        ]

    apart : (t : TokenValue) → Was t → Came t → ⊥
    apart t h k =
        let same : k.0 ≡ h.0 = parent_is t k.0 k.2.1 ∙ sym (parent_is t h.0 h.3) in
        elim (of_settled k.0 k.1).1 as (λ _. ⊥) [
          | inl c ↦ h.1.1 (subst (λ n. In n before.come) same c)
          | inr q ↦ q.1 (subst (GroupHolds positive inside₀) (sym same) ((held h.0 h.1.0).0 h.2))
        ]

    read : (t : TokenValue) → Was t ⊎ Final t → (n : ℕ) × IsReadable before n × (t ≡ passed_by_group n)
    read t (inl h) = (h.0, h.1.0, h.3)
    read t (inr h) = (h.0, (there_read before h.0 h.1).1, h.3)

    same : (i j : ℕ) (t u : TokenValue) → token_at own.tokens i ≡ Some t → token_at own.tokens j ≡ Some u → Was t ⊎ Final t → Was u ⊎ Final u
        → (partial_after None own.tokens at i).parts ≡ (partial_after None own.tokens at j).parts → t ≡ u
    same i j t u e d h k parts =
        let n = read t h in
        let m = read u k in
        let one = stands_for at own.tokens i n.0 (e ∙ ap Some n.2) in
        let other = stands_for at own.tokens j m.0 (d ∙ ap Some m.2) in
        let equal : n.0 ≡ m.0 = turns.one n.0 m.0 n.1 m.1 (ap (λ (it : Partial). it.parts) (sym one) ∙ (parts ∙ ap (λ (it : Partial). it.parts) other)) in
        n.2 ∙ (ap passed_by_group equal ∙ sym m.2)

    tokens_after : AreTokens own Final
    tokens_after = they_are own₀ own₂ own Was Lost Came Final none_gone none_come behind lost come stay arrive split apart

    turns_after : Turns (partial_after None own.tokens at) own (filter (group_with positive begun) old) (filter (group_with positive begun') new)
    turns_after = they_turn own₀ own₂ own Was Lost Came Final none_gone none_come behind lost come stay arrive split apart (partial_after None own.tokens at)
        (filter (group_with positive begun) old) (filter (group_with positive begun') new)
        (they_stand positive begun at own.tokens (WasThere before) (WasThere own) old turns.was
        (was_old own₀ own₂ own Was Lost Came Final none_gone none_come behind lost come stay arrive split apart)
        (old_was own₀ own₂ own Was Lost Came Final none_gone none_come behind lost come stay arrive split apart))
        (they_stand positive begun' at own.tokens (IsThere before) (IsThere own) new turns.is
        (is_new own₀ own₂ own Was Lost Came Final none_gone none_come behind lost come stay arrive split apart)
        (new_is own₀ own₂ own Was Lost Came Final none_gone none_come behind lost come stay arrive split apart))
        same

    pub changed : (node : GroupNode) → IsAfterGroup (record node { positive = positive; inside = inside; waiting = w }) Met at before within own old new begun begun'
    changed node = record { ready = record { inside = now_inside; waiting = none_waits; tokens = tokens_after }; turns = turns_after }
