-- Numbers that are put into groups one after another.
use Rattle.std.proofs.Common.{◌≡◌, ◌∙◌, ◌+◌, ◌<◌, ℕ, List, Option, Some, ap, get_or, inl, inr, length, refl, subst, take}
use Rattle.std.proofs.lemmas.Bool.{cases_eq}
use Rattle.cb_beta.proofs.Members.{in_more, more_in}
use Rattle.cb_group_node.specs.Internal.{Enters, Sets}
use Rattle.cb_groups.specs.Groups.{Membership, Updates, group_of}
use Rattle.cb_matches.specs.Chains.{In}

pub none_set : (m : Membership) (Such : ℕ → Type 0) (o : Option ℕ) → ((n : ℕ) → Such n → ⊥) → Sets m m Such o
none_set m Such o none = record { set = λ n h. absurd (none n h); others = λ n h. refl }

-- one number more
pub more_set : (old mid new : Membership) (o : Option ℕ) (xs : List ℕ) (k : ℕ) → k < length xs → Sets old mid (λ n. In n (take k xs)) o → Updates mid new (get_or xs k 0) o
    → Sets old new (λ n. In n (take (k + 1) xs)) o
more_set old mid new o xs k l first second = record {
  set = λ n h. elim (cases_eq n (get_or xs k 0)) as (λ _. group_of new n ≡ o) [
    | inl e ↦ ap (group_of new) e ∙ second.changed
    | inr d ↦ second.others n d ∙ first.set n (elim (more_in xs k n l h) as (λ _. In n (take k xs)) [ inl i ↦ i | inr e ↦ absurd (d e) ])
  ];
  others = λ n none. second.others n (λ e. none (in_more xs k n l (inr e))) ∙ first.others n (λ h. none (in_more xs k n l (inl h)));
}

-- and the same for those with a property alone
pub more_set_of : (P : ℕ → Type 0) (old mid new : Membership) (o : Option ℕ) (xs : List ℕ) (k : ℕ) → k < length xs → Sets old mid (λ n. In n (take k xs) × P n) o
    → Sets mid new (λ n. (n ≡ get_or xs k 0) × P n) o → Sets old new (λ n. In n (take (k + 1) xs) × P n) o
more_set_of P old mid new o xs k l first second = record {
  set = λ n h. elim (cases_eq n (get_or xs k 0)) as (λ _. group_of new n ≡ o) [
    | inl e ↦ second.set n (e, h.1)
    | inr d ↦ second.others n (λ q. d q.0) ∙ first.set n (elim (more_in xs k n l h.0) as (λ _. In n (take k xs)) [ inl i ↦ i | inr e ↦ absurd (d e) ], h.1)
  ];
  others = λ n none. second.others n (λ q. none (in_more xs k n l (inr q.0), q.1)) ∙ first.others n (λ h. none (in_more xs k n l (inl h.0), h.1));
}

pub none_enter : (Met : ℕ → ℕ → Type 0) (m : Membership) (Such : ℕ → Type 0) → ((n : ℕ) → Such n → ⊥) → Enters Met Such m m
none_enter Met m Such none = record { entered = λ i g h met. absurd (none i h); others = λ n h. refl }

pub more_enter : (Met : ℕ → ℕ → Type 0) (old mid new : Membership) (xs : List ℕ) (k : ℕ) → k < length xs → Enters Met (λ n. In n (take k xs)) old mid
    → Enters Met (λ n. n ≡ get_or xs k 0) mid new → Enters Met (λ n. In n (take (k + 1) xs)) old new
more_enter Met old mid new xs k l first second = record {
  entered = λ n g h met. elim (cases_eq n (get_or xs k 0)) as (λ _. group_of new n ≡ Some g) [
    | inl e ↦ second.entered n g e met
    | inr d ↦ second.others n d ∙ first.entered n g (elim (more_in xs k n l h) as (λ _. In n (take k xs)) [ inl i ↦ i | inr e ↦ absurd (d e) ]) met
  ];
  others = λ n none. second.others n (λ e. none (in_more xs k n l (inr e))) ∙ first.others n (λ h. none (in_more xs k n l (inl h)));
}

-- the first enters under what is met
pub one_enters : (Met : ℕ → ℕ → Type 0) (old new : Membership) (i g : ℕ) → ((a : ℕ) → Met a i → g ≡ a) → Updates old new i (Some g) → Enters Met (λ n. n ≡ i) old new
one_enters Met old new i g one is = record {
  entered = λ n a e met. ap (group_of new) e ∙ (is.changed ∙ ap Some (one a (subst (Met a) e met)));
  others = λ n d. is.others n d;
}
