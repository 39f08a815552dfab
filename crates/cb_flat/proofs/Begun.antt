-- A group holds by whether one of the partial matches inside it goes on from the one before it.
use Rattle.std.proofs.Common.{◌≡◌, ℕ, ◌||◌, Bool, true, false, List, [], ◌∷◌, filter, inl, inr, refl, sym, ◌∙◌, subst, cond}
use Rattle.std.specs.Bool.{Decides}
use Rattle.std.specs.List.{list_any}
use Rattle.cb_facts.specs.FactLists.{IndexedFacts}
use Rattle.cb_nodes.specs.Flat.{begins, holds_by}
use Rattle.cb_flat.proofs.Beginnings.{begins_to, to_begins}
use Rattle.cb_nodes.proofs.Origins.{Begins, more_all, of_that_alone, only_one, origin_all}
use Rattle.cb_nodes.specs.Lists.{HaveParts}
use Rattle.cb_matches.specs.Keys.{PartValue}
use Rattle.cb_matches.proofs.Lists.{filter_in, in_filter}
use Rattle.cb_matches.specs.Chains.{AreSame, In}
use Rattle.cb_matches.specs.Order.{IsOnce}
use Rattle.cb_matches.specs.Matches.{Partial, after_all, group_holds}
use Rattle.cb_rules.specs.Elements.{Elements}

pub begins_Decides : (ps : List PartValue) (z : Partial) → Decides (begins ps z) (Begins ps z.parts)
begins_Decides ps z = (begins_to ps z, to_begins ps z)

holds_by_any : (positive : Bool) (q : Partial → Bool) (xs : List Partial) → group_holds positive (filter q xs) ≡ holds_by positive (list_any q xs)
holds_by_any true q [] = refl
holds_by_any false q [] = refl
holds_by_any true q (x ∷ xs) = elim (q x) as (λ b. group_holds true (cond b (x ∷ filter q xs) (filter q xs)) ≡ holds_by true (b || list_any q xs)) [
  | true ↦ refl
  | false ↦ holds_by_any true q xs
]
holds_by_any false q (x ∷ xs) = elim (q x) as (λ b. group_holds false (cond b (x ∷ filter q xs) (filter q xs)) ≡ holds_by false (b || list_any q xs)) [
  | true ↦ refl
  | false ↦ holds_by_any false q xs
]

-- what two lists with the same members say of a group
pub holds_alike : (positive : Bool) (xs ys : List Partial) → ((z : Partial) → In z xs → In z ys) → ((z : Partial) → In z ys → In z xs) → group_holds positive xs ≡ group_holds positive ys
holds_alike true [] [] h k = refl
holds_alike false [] [] h k = refl
holds_alike positive [] (y ∷ ys) h k = absurd (k y (inl refl))
holds_alike positive (x ∷ xs) [] h k = absurd (h x (inl refl))
holds_alike true (x ∷ xs) (y ∷ ys) h k = refl
holds_alike false (x ∷ xs) (y ∷ ys) h k = refl

-- a group holds by whether one of all that come of any goes on from a partial match
pub group_by_any : (positive : Bool) (inner : Elements) (fs : IndexedFacts) (ms complete : List Partial) (n : ℕ) → HaveParts n ms → IsOnce ms
    → AreSame complete (after_all inner fs ms) → (b : Partial) → In b ms
    → holds_by positive (list_any (begins b.parts) complete) ≡ group_holds positive (after_all inner fs (b ∷ []))
group_by_any positive inner fs ms complete n long once same b h =
    sym (holds_by_any positive (begins b.parts) complete)
    ∙ holds_alike positive (filter (begins b.parts) complete) (after_all inner fs (b ∷ []))
    (λ z k. let i = in_filter (begins b.parts) z complete k in of_that_alone inner fs ms n long once b z h (same.0 z i.0) ((begins_Decides b.parts z).0 i.1))
    (λ z k. let m = origin_all inner fs (b ∷ []) z k in
    let e : m.0 ≡ b = elim m.1 as (λ _. m.0 ≡ b) [ inl i ↦ i | inr i ↦ absurd i ] in
    filter_in (begins b.parts) z complete (same.1 z (more_all inner fs (b ∷ []) ms (only_one b ms h) z k)) ((begins_Decides b.parts z).1 (subst (λ it. Begins it.parts z.parts) e m.3)))
