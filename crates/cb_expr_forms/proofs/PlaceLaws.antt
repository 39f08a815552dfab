-- The first places of names in a list, where a name is added at its end or taken away there.
use Rattle.std.proofs.Common.{◌≡◌, ◌∙◌, ◌++◌, ℕ, suc, Bool, true, false, cond, List, [], ◌∷◌, Option, Some, None, option_map, is_some, length, refl, sym, ap, ap₂, if◌then◌else◌, nat_eq}
use Rattle.std.proofs.lemmas.Bool.Decides.{Decides-eqb}
use Rattle.std.specs.BTreeMap as tree
use Rattle.std.specs.BTreeMap.{BTreeMap}
use Rattle.std.specs.Cmp.Lexicographic.{slice_cmp, texts_ties, bytes_decides}
use Rattle.std.specs.Option.{option_eq, option_or}
use Rattle.std.specs.Ordering.{nat_cmp}
use Rattle.std.specs.Str.{bytes_eq}
use Rattle.cb_facts.specs.Internal.NamePlaces.{HasPlaces, NotesPlace, place_at}
use Rattle.cb_facts.specs.Places.{place_in}

abbrev if_is : Bool → ℕ → Option ℕ
if_is t i = if t then Some i else None

or_none : (o : Option ℕ) → option_or o None ≡ o
or_none (Some i) = refl
or_none None = refl

one_later : (t u : Bool) (p : Option ℕ) (i : ℕ) (r : Option ℕ) → r ≡ option_or p (if_is u i)
    → (if t then Some 0 else option_map suc r) ≡ option_or (if t then Some 0 else option_map suc p) (if_is u (suc i))
one_later true u p i r e = refl
one_later false u (Some k) i r e = ap (option_map suc) e
one_later false true None i r e = ap (option_map suc) e
one_later false false None i r e = ap (option_map suc) e

-- the first place of a name among names and a last one
place_with_last : (names : List (List ℕ)) (last q : List ℕ) → place_in (names ++ last ∷ []) q ≡ option_or (place_in names q) (if_is (bytes_eq last q) (length names))
place_with_last [] last q = refl
place_with_last (n ∷ names) last q =
    one_later (bytes_eq n q) (bytes_eq last q) (place_in names q) (length names) (place_in (names ++ last ∷ []) q) (place_with_last names last q)

put : (t : Bool) (o : Option ℕ) (place : ℕ) → (t ≡ true → o ≡ None) → cond t (Some place) o ≡ option_or o (if_is t place)
put true o place e = sym (ap (λ it. option_or it (Some place)) (e refl))
put false o place e = sym (or_none o)

none : (o : Option ℕ) → is_some o ≡ false → o ≡ None
none None e = refl
none (Some i) e = absurd (cc)

-- an insertion under a copy of a name that has no place notes its place
pub notes_new : (old new : BTreeMap (List ℕ) ℕ) (name copy : List ℕ) (place : ℕ) → copy ≡ name → is_some (place_at old name) ≡ false
    → tree.Updates (slice_cmp nat_cmp) old new copy (Some place) → NotesPlace old new name place
notes_new old new name copy place same absent u =
    λ q. u.0 q ∙ ap (λ t. cond t (Some place) (place_at old q)) (sym (texts_ties copy q) ∙ ap (λ n. bytes_eq n q) same)
    ∙ put (bytes_eq name q) (place_at old q) place (λ e. ap (place_at old) (sym ((bytes_decides name q).0 e)) ∙ none (place_at old name) absent)

-- the places of names, and the place of one more
pub has_places-noted : (old new : BTreeMap (List ℕ) ℕ) (names : List (List ℕ)) (name : List ℕ) → HasPlaces old names → NotesPlace old new name (length names)
    → HasPlaces new (names ++ name ∷ [])
has_places-noted old new names name has noted =
    λ q. noted q ∙ ap (λ o. option_or o (if_is (bytes_eq name q) (length names))) (has q) ∙ sym (place_with_last names name q)

no_such : (t : Bool) (o : Option ℕ) (n : ℕ) → (o ≡ Some n → ⊥) → (if t then Some 0 else option_map suc o) ≡ Some (suc n) → ⊥
no_such true o n never e = cc
no_such false None n never e = cc
no_such false (Some i) n never e = never (cc)

-- no name has a place after all of them
not_after_all : (names : List (List ℕ)) (q : List ℕ) → place_in names q ≡ Some (length names) → ⊥
not_after_all [] q e = cc
not_after_all (n ∷ names) q e = no_such (bytes_eq n q) (place_in names q) (length names) (not_after_all names q) e

-- the place of the last name, by its place among the others
place_of_last : (names : List (List ℕ)) (last : List ℕ) → place_in (names ++ last ∷ []) last ≡ option_or (place_in names last) (Some (length names))
place_of_last names last =
    place_with_last names last last ∙ ap (λ t. option_or (place_in names last) (if_is t (length names))) ((bytes_decides last last).1 refl)

new_if : (o : Option ℕ) (n : ℕ) → (o ≡ Some n → ⊥) → option_or o (Some n) ≡ Some n → o ≡ None
new_if None n never e = refl
new_if (Some i) n never e = absurd (never e)

gone : (t : Bool) (o : Option ℕ) (n : ℕ) → (t ≡ true → o ≡ None) → cond t None (option_or o (if_is t n)) ≡ o
gone true o n e = sym (e refl)
gone false o n e = or_none o

-- where the last name has the last place, the others' places are left once its place is taken out
pub has_places-taken : (old new : BTreeMap (List ℕ) ℕ) (names : List (List ℕ)) (last : List ℕ) → HasPlaces old (names ++ last ∷ []) → place_at old last ≡ Some (length names)
    → tree.Updates (slice_cmp nat_cmp) old new last None → HasPlaces new names
has_places-taken old new names last has at u =
    let is_new : place_in names last ≡ None =
    new_if (place_in names last) (length names) (not_after_all names last) (sym (place_of_last names last) ∙ sym (has last) ∙ at) in
    λ q. u.0 q ∙ ap₂ (λ t o. cond t None o) (sym (texts_ties last q)) (has q ∙ place_with_last names last q)
    ∙ gone (bytes_eq last q) (place_in names q) (length names) (λ e. ap (place_in names) (sym ((bytes_decides last q).0 e)) ∙ is_new)

kept : (t : Bool) (o : Option ℕ) (n : ℕ) → (t ≡ true → o ≡ None → ⊥) → option_or o (if_is t n) ≡ o
kept t (Some i) n e = refl
kept false None n e = refl
kept true None n e = absurd (e refl refl)

differs : (o : Option ℕ) (n : ℕ) → option_eq nat_eq o (Some n) ≡ false → o ≡ Some n → ⊥
differs o n other same =
    let yes : option_eq nat_eq o (Some n) ≡ true = ap (λ p. option_eq nat_eq p (Some n)) same ∙ (Decides-eqb n n).1 refl in
    let never : false ≡ true = sym other ∙ yes in cc

-- where it has another, that is its place among the others too
pub has_places-left : (firsts : BTreeMap (List ℕ) ℕ) (names : List (List ℕ)) (last : List ℕ) → HasPlaces firsts (names ++ last ∷ [])
    → option_eq nat_eq (place_at firsts last) (Some (length names)) ≡ false → HasPlaces firsts names
has_places-left firsts names last has other =
    λ q. has q ∙ place_with_last names last q
    ∙ kept (bytes_eq last q) (place_in names q) (length names)
    (λ e is_new. differs (place_at firsts last) (length names) other (has last ∙ place_of_last names last ∙ ap (λ o. option_or o (Some (length names))) (ap (place_in names) ((bytes_decides last q).0 e) ∙ is_new)))
