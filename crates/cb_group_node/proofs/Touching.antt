-- The tokens that are met from numbers, one after another.
use Rattle.std.proofs.Common.{◌≡◌, ◌+◌, ◌⊎◌, ◌<◌, ℕ, List, [], ◌∷◌, ◌++◌, get_or, inl, inr, length, refl, subst, sym, take}
use Rattle.cb_beta.proofs.Members.{in_either, in_left, in_more, in_right, more_in}
use Rattle.cb_group_node.specs.Internal.{Touches}
use Rattle.cb_matches.specs.Chains.{In}

abbrev pub AreTouched : (ℕ → ℕ → Type 0) → List ℕ → List ℕ → List ℕ → Type 0
AreTouched Met numbers old new = (g : ℕ) → (In g new → In g old ⊎ Touches Met numbers g) × (In g old ⊎ Touches Met numbers g → In g new)

pub none_touched : (Met : ℕ → ℕ → Type 0) (old : List ℕ) → AreTouched Met [] old old
none_touched Met old g = (λ h. inl h, λ h. elim h as (λ _. In g old) [ inl k ↦ k | inr k ↦ absurd k.1 ])

pub more_touched : (Met : ℕ → ℕ → Type 0) (old mid new : List ℕ) (xs : List ℕ) (k : ℕ) → k < length xs → AreTouched Met (take k xs) old mid
    → ((g : ℕ) → (In g new → In g mid ⊎ Met g (get_or xs k 0)) × (In g mid ⊎ Met g (get_or xs k 0) → In g new)) → AreTouched Met (take (k + 1) xs) old new
more_touched Met old mid new xs k l first second g = (
  λ h. elim ((second g).0 h) as (λ _. In g old ⊎ Touches Met (take (k + 1) xs) g) [
    | inl m ↦ elim ((first g).0 m) as (λ _. In g old ⊎ Touches Met (take (k + 1) xs) g) [ inl o ↦ inl o | inr t ↦ inr (t.0, in_more xs k t.0 l (inl t.1), t.2) ]
    | inr m ↦ inr (get_or xs k 0, in_more xs k (get_or xs k 0) l (inr refl), m)
  ],
  λ h. (second g).1 (elim h as (λ _. In g mid ⊎ Met g (get_or xs k 0)) [
    | inl o ↦ inl ((first g).1 (inl o))
    | inr t ↦ elim (more_in xs k t.0 l t.1) as (λ _. In g mid ⊎ Met g (get_or xs k 0)) [
      | inl i ↦ inl ((first g).1 (inr (t.0, i, t.2)))
      | inr e ↦ inr (subst (Met g) e t.2)
    ]
  ]),
)

-- what is met from one
pub one_touched : (Met : ℕ → ℕ → Type 0) (old new : List ℕ) (i a : ℕ) → new ≡ old ++ a ∷ [] → Met a i → ((g : ℕ) → Met g i → a ≡ g)
    → (g : ℕ) → (In g new → In g old ⊎ Met g i) × (In g old ⊎ Met g i → In g new)
one_touched Met old new i a is met one g = (
  λ h. elim (in_either g old (a ∷ []) (subst (In g) is h)) as (λ _. In g old ⊎ Met g i) [
    | inl k ↦ inl k
    | inr k ↦ elim k as (λ _. In g old ⊎ Met g i) [ inl e ↦ inr (subst (λ b. Met b i) (sym e) met) | inr none ↦ absurd none ]
  ],
  λ h. subst (In g) (sym is) (elim h as (λ _. In g (old ++ a ∷ [])) [
    | inl k ↦ in_left g old (a ∷ []) k
    | inr m ↦ in_right g old (a ∷ []) (inl (sym (one g m)))
  ]),
)
