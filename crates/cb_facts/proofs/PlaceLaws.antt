-- The places of names in a list, and in the map that finds them: one name more.
use Rattle.std.proofs.Common.{◌≡◌, ◌∙◌, ◌++◌, ℕ, suc, Bool, true, false, cond, List, [], ◌∷◌, Option, Some, None, option_map, is_some, length, refl, sym, ap, subst, if◌then◌else◌}
use Rattle.std.specs.BTreeMap as tree
use Rattle.std.specs.BTreeMap.{BTreeMap}
use Rattle.std.specs.Cmp.Lexicographic.{slice_cmp, texts_ties, bytes_decides}
use Rattle.std.specs.Option.{option_or}
use Rattle.std.specs.Ordering.{nat_cmp}
use Rattle.std.specs.Str.{bytes_eq}
use Rattle.cb_facts.specs.Places.{place_in}
use Rattle.cb_facts.specs.Internal.NamePlaces.{HasPlaces, NotesPlace, place_at}

abbrev if_is : Bool → ℕ → Option ℕ
if_is t i = if t then Some i else None

or_none : (o : Option ℕ) → option_or o None ≡ o
or_none (Some i) = refl
or_none None = refl

after : (t u : Bool) (p : Option ℕ) (i : ℕ) (r : Option ℕ) → r ≡ option_or p (if_is u i)
    → (if t then Some 0 else option_map suc r) ≡ option_or (if t then Some 0 else option_map suc p) (if_is u (suc i))
after true u p i r e = refl
after false u (Some k) i r e = ap (option_map suc) e
after false true None i r e = ap (option_map suc) e
after false false None i r e = ap (option_map suc) e

-- the first place of a name among names and one more
pub place_in-push : (names : List (List ℕ)) (name q : List ℕ) → place_in (names ++ name ∷ []) q ≡ option_or (place_in names q) (if_is (bytes_eq name q) (length names))
place_in-push [] name q = refl
place_in-push (n ∷ names) name q = after (bytes_eq n q) (bytes_eq name q) (place_in names q) (length names) (place_in (names ++ name ∷ []) q) (place_in-push names name q)

-- a map that has the places of names, and one more place noted
pub has_places-push : (old new : BTreeMap (List ℕ) ℕ) (names : List (List ℕ)) (name : List ℕ) (place : ℕ)
    → HasPlaces old names → NotesPlace old new name place → place ≡ length names → HasPlaces new (names ++ name ∷ [])
has_places-push old new names name place has noted same =
    λ q. noted q ∙ ap (λ o. option_or o (if_is (bytes_eq name q) place)) (has q) ∙ ap (λ i. option_or (place_in names q) (if_is (bytes_eq name q) i)) same
    ∙ sym (place_in-push names name q)

put : (t : Bool) (o : Option ℕ) (place : ℕ) → (t ≡ true → o ≡ None) → cond t (Some place) o ≡ option_or o (if_is t place)
put true o place e = sym (ap (λ it. option_or it (Some place)) (e refl))
put false o place e = sym (or_none o)

-- an insertion under a name that has no place notes its place
pub noted-new : (old new : BTreeMap (List ℕ) ℕ) (name : List ℕ) (place : ℕ) → place_at old name ≡ None → tree.Updates (slice_cmp nat_cmp) old new name (Some place) → NotesPlace old new name place
noted-new old new name place absent u =
    λ q. u.0 q ∙ ap (λ t. cond t (Some place) (place_at old q)) (sym (texts_ties name q))
    ∙ put (bytes_eq name q) (place_at old q) place (λ e. ap (place_at old) (sym ((bytes_decides name q).0 e)) ∙ absent)

stays : (t : Bool) (o : Option ℕ) (place : ℕ) → (t ≡ true → is_some o ≡ true) → o ≡ option_or o (if_is t place)
stays t (Some i) place e = refl
stays false None place e = refl
stays true None place e = let never : false ≡ true = e refl in cc

-- a name that has a place keeps it
pub noted-known : (firsts : BTreeMap (List ℕ) ℕ) (name : List ℕ) (place : ℕ) → is_some (place_at firsts name) ≡ true → NotesPlace firsts firsts name place
noted-known firsts name place known =
    λ q. stays (bytes_eq name q) (place_at firsts q) place (λ e. ap (λ n. is_some (place_at firsts n)) (sym ((bytes_decides name q).0 e)) ∙ known)

none : {X : Type 0} (o : Option X) → is_some o ≡ false → o ≡ None
none None e = refl
none (Some x) e = absurd (cc)

-- the same, as the insertion of a copy of the name says it
pub noted-copy : (old new : BTreeMap (List ℕ) ℕ) (name copy : List ℕ) (place : ℕ) → copy ≡ name → is_some (place_at old name) ≡ false
    → tree.Updates (slice_cmp nat_cmp) old new copy (Some place) → NotesPlace old new name place
noted-copy old new name copy place same absent u =
    noted-new old new name place (none (place_at old name) absent) (subst (λ n. tree.Updates (slice_cmp nat_cmp) old new n (Some place)) same u)
