-- Memories that change one after another.
use Rattle.std.proofs.Common.{◌≡◌, ◌⊎◌, ◌∙◌, ◌+◌, ◌<◌, ℕ, List, [], ◌∷◌, arith, get_or, get_or-take, inl, inr, length, length-take-le, nat_cmp, refl, subst, sym, take}
use Rattle.std.proofs.lemmas.Bool.{cases_eq}
use Rattle.std.proofs.lemmas.List.{take_more}
use Rattle.std.proofs.lemmas.Map.Keys.{below_from_sorted}
use Rattle.std.specs.List.Sorted.{IsStrictlySortedBy}
use Rattle.cb_alpha.specs.AlphaMemories.{AlphaMemoryValue, IsEnded}
use Rattle.cb_alpha_network.proofs.Rest.{ended_at_rest, ended_then}
use Rattle.cb_alpha_network.specs.Internal.{AreNoted, ChangesThose, KeepsOtherMemories}
use Rattle.cb_alpha_network.specs.Networks.{MemoryValues, memory_in}
use Rattle.cb_matches.proofs.Lists.{in_either, in_left, in_right, place_of}
use Rattle.cb_matches.specs.Chains.{In}

-- a number is among these, or it isn't
pub in_or_not : (n : ℕ) (xs : List ℕ) → In n xs ⊎ (In n xs → ⊥)
in_or_not n [] = inr (λ i. i)
in_or_not n (x ∷ xs) = elim (cases_eq n x) as (λ _. In n (x ∷ xs) ⊎ (In n (x ∷ xs) → ⊥)) [
  | inl e ↦ inl (inl e)
  | inr d ↦ elim (in_or_not n xs) as (λ _. In n (x ∷ xs) ⊎ (In n (x ∷ xs) → ⊥)) [
    | inl i ↦ inl (inr i)
    | inr out ↦ inr (λ i. elim i as (λ _. ⊥) [ inl e ↦ d e | inr j ↦ out j ])
  ]
]

-- one of a list more
module _ (ns : List ℕ) (k : ℕ) (l : k < length ns) where
  abbrev here : ℕ
  here = get_or ns k 0

  pub in_more : (n : ℕ) → In n (take (k + 1) ns) → In n (take k ns) ⊎ (n ≡ here)
  in_more n i = elim (in_either n (take k ns) (here ∷ []) (subst (In n) (take_more ns k 0 l) i)) as (λ _. In n (take k ns) ⊎ (n ≡ here)) [
    | inl j ↦ inl j
    | inr j ↦ elim j as (λ _. In n (take k ns) ⊎ (n ≡ here)) [ inl e ↦ inr e | inr none ↦ absurd none ]
  ]

  pub more_in : (n : ℕ) → In n (take k ns) ⊎ (n ≡ here) → In n (take (k + 1) ns)
  more_in n (inl i) = subst (In n) (sym (take_more ns k 0 l)) (in_left n (take k ns) (here ∷ []) i)
  more_in n (inr e) = subst (In n) (sym (take_more ns k 0 l)) (in_right n (take k ns) (here ∷ []) (inl e))

  -- it is not among those before it
  pub not_before : IsStrictlySortedBy nat_cmp ns → In here (take k ns) → ⊥
  not_before sorted i =
      let at = place_of here (take k ns) i in
      let short : length (take k ns) ≡ k = length-take-le k ns (omega arith) in
      let before : at.0 < k = omega (arith, at.1, short) in
      let less : get_or ns at.0 0 < here = below_from_sorted ns at.0 k 0 sorted before l in
      let same : get_or ns at.0 0 ≡ here = sym (get_or-take k ns at.0 0 before) ∙ at.2 0 in
      absurd (omega (arith, less, same))

module _ (Changed : ℕ → AlphaMemoryValue → AlphaMemoryValue → Type 0) where
  pub none_changed : (ms : MemoryValues) → ChangesThose Changed [] ms ms
  none_changed ms = record { changed = λ n i. absurd i; others = λ n out. refl }

  pub one_changed : (ns : List ℕ) (k : ℕ) → k < length ns → IsStrictlySortedBy nat_cmp ns → (old now new : MemoryValues) → ChangesThose Changed (take k ns) old now
      → Changed (get_or ns k 0) (memory_in now (get_or ns k 0)) (memory_in new (get_or ns k 0)) → KeepsOtherMemories (get_or ns k 0) now new
      → ChangesThose Changed (take (k + 1) ns) old new
  one_changed ns k l sorted old now new was changed others = record {
    changed = λ n i. elim (in_more ns k l n i) as (λ _. Changed n (memory_in old n) (memory_in new n)) [
      | inl j ↦ subst (Changed n (memory_in old n)) (sym (others n (λ e. out (subst (λ it. In it (take k ns)) e j)))) (was.changed n j)
      | inr e ↦ subst (λ it. Changed it (memory_in old it) (memory_in new it)) (sym e) (subst (λ m. Changed x m (memory_in new x)) (was.others x out) changed)
    ];
    others = λ n not. others n (λ e. not (more_in ns k l n (inr e))) ∙ was.others n (λ i. not (more_in ns k l n (inl i)));
  }
    where
      x : ℕ
      x = get_or ns k 0

      out : In (get_or ns k 0) (take k ns) → ⊥
      out = not_before ns k l sorted

-- the change ends in one memory after another
pub record AreEnded (ns : List ℕ) (old new : MemoryValues) : Type 0 where
  pub ended : (n : ℕ) → In n ns → IsEnded (memory_in old n) (memory_in new n)
  pub others : (n : ℕ) → (memory_in new n ≡ memory_in old n) ⊎ IsEnded (memory_in old n) (memory_in new n)

pub none_ended : (ms : MemoryValues) → AreEnded [] ms ms
none_ended ms = record { ended = λ n i. absurd i; others = λ n. inl refl }

module _ (ns : List ℕ) (k : ℕ) (l : k < length ns) (old now new : MemoryValues) (was : AreEnded (take k ns) old now)
    (at : IsEnded (memory_in now (get_or ns k 0)) (memory_in new (get_or ns k 0))) (others : KeepsOtherMemories (get_or ns k 0) now new) where
  ended_here : (n : ℕ) → n ≡ get_or ns k 0 → IsEnded (memory_in old n) (memory_in new n)
  ended_here n e =
      let ends : IsEnded (memory_in now n) (memory_in new n) = subst (λ it. IsEnded (memory_in now it) (memory_in new it)) (sym e) at in
      elim (was.others n) as (λ _. IsEnded (memory_in old n) (memory_in new n)) [
        | inl same ↦ subst (λ m. IsEnded m (memory_in new n)) same ends
        | inr before ↦ ended_then (memory_in old n) (memory_in now n) (memory_in new n) before ends
      ]

  pub one_ended : AreEnded (take (k + 1) ns) old new
  one_ended = record {
    ended = λ n i. elim (cases_eq n (get_or ns k 0)) as (λ _. IsEnded (memory_in old n) (memory_in new n)) [
      | inl e ↦ ended_here n e
      | inr d ↦ subst (IsEnded (memory_in old n)) (sym (others n d)) (was.ended n (elim (in_more ns k l n i) as (λ _. In n (take k ns)) [ inl j ↦ j | inr e ↦ absurd (d e) ]))
    ];
    others = λ n. elim (cases_eq n (get_or ns k 0)) as (λ _. (memory_in new n ≡ memory_in old n) ⊎ IsEnded (memory_in old n) (memory_in new n)) [
      | inl e ↦ inr (ended_here n e)
      | inr d ↦ subst (λ m. (m ≡ memory_in old n) ⊎ IsEnded (memory_in old n) m) (sym (others n d)) (was.others n)
    ];
  }

-- where all that a change concerns have ended, all have
pub all_ended : (ns : List ℕ) (old new : MemoryValues) → AreNoted old ns → ((n : ℕ) → In n ns → IsEnded (memory_in old n) (memory_in new n))
    → ((n : ℕ) → (memory_in new n ≡ memory_in old n) ⊎ IsEnded (memory_in old n) (memory_in new n)) → (n : ℕ) → IsEnded (memory_in old n) (memory_in new n)
all_ended ns old new noted ended others n = elim (noted n) as (λ _. IsEnded (memory_in old n) (memory_in new n)) [
  | inr i ↦ ended n i
  | inl rest ↦ elim (others n) as (λ _. IsEnded (memory_in old n) (memory_in new n)) [
    | inr is ↦ is
    | inl same ↦ subst (IsEnded (memory_in old n)) (sym same) (ended_at_rest (memory_in old n) rest)
  ]
]
