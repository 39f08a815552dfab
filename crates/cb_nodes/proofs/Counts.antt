-- Lists without doubles that have the same members are as long.
use Rattle.std.proofs.Common.{◌≡◌, ◌≢◌, ◌≤◌, suc, List, [], ◌∷◌, length, inl, inr, refl, sym, ◌∙◌, ap, subst, arith}
use Rattle.cb_matches.specs.Chains.{AreSame, Chain, In}
use Rattle.cb_matches.specs.Order.{IsApart, IsOnce}
use Rattle.cb_matches.specs.Matches.{Partial}

-- a list without one of its members
removed_of : {A : Type 0} (x : A) (ys : List A) → In x ys → (rest : List A) × (length ys ≡ suc (length rest)) × ((z : A) → In z ys → (z ≢ x) → In z rest)
removed_of x [] h = absurd h
removed_of x (y ∷ ys) (inl e) = (ys, refl, λ z k apart. elim k as (λ _. In z ys) [ inl i ↦ absurd (apart (i ∙ sym e)) | inr i ↦ i ])
removed_of x (y ∷ ys) (inr h) =
    let more = removed_of x ys h in
    (y ∷ more.0, ap suc more.1, λ z k apart. elim k as (λ _. In z (y ∷ more.0)) [ inl i ↦ inl i | inr i ↦ inr (more.2 z i apart) ])

pub no_longer : {A : Type 0} (R : A → A → Type 0) → ((x : A) → R x x → ⊥) → (xs ys : List A) → Chain R xs → ((z : A) → In z xs → In z ys) → length xs ≤ length ys
no_longer R irr [] ys once h = omega (arith)
no_longer R irr (x ∷ xs) ys once h =
    let rest = removed_of x ys (h x (inl refl)) in
    let more : length xs ≤ length rest.0 = no_longer R irr xs rest.0 once.1 (λ z k. rest.2 z (h z (inr k)) (λ e. irr x (subst (λ it. R x it) e (once.0 z k)))) in
    let long : length ys ≡ suc (length rest.0) = rest.1 in
    omega (arith, more, long)

-- lists without doubles that have the same members are as long
pub as_long : {A : Type 0} (R : A → A → Type 0) → ((x : A) → R x x → ⊥) → (xs ys : List A) → Chain R xs → Chain R ys → AreSame xs ys → length xs ≡ length ys
as_long R irr xs ys c d same =
    let one : length xs ≤ length ys = no_longer R irr xs ys c same.0 in
    let other : length ys ≤ length xs = no_longer R irr ys xs d same.1 in
    omega (arith, one, other)

pub same_length : (xs ys : List Partial) → IsOnce xs → IsOnce ys → AreSame xs ys → length xs ≡ length ys
same_length xs ys c d same = as_long IsApart (λ m h. h refl) xs ys c d same
