-- The first field with each variable, found from the first field on.
use Rattle.std.proofs.Common.{◌≡◌, ◌∙◌, ◌&&◌, ◌||◌, ◌∷◌, ◌++◌, [], List, ℕ, Bool, true, false, is_some, not, cond, filter, Option, Some, None, ap, refl, sym}
use Rattle.std.proofs.lemmas.List.{append_assoc}
use Rattle.std.specs.Cmp.Lexicographic.{bytes_decides}
use Rattle.std.specs.Str.{bytes_eq}
use Rattle.cb_fit.specs.Comparisons.{field_of}
use Rattle.cb_fit.specs.JoinFields.{first_fields, place_of}
use Rattle.cb_fit.specs.declared.field_place.FieldPlace.{FieldPlace}
use Rattle.cb_fit.specs.declared.join_fields.JoinField.{JoinField}

-- one of these fields has the variable
abbrev pub is_seen : List JoinField → List ℕ → Bool
is_seen ks x = is_some (field_of ks x)

-- the fields with other variables than these
abbrev pub unseen : List JoinField → List JoinField → List JoinField
unseen ks js = filter (λ (j : JoinField). not (is_seen ks j.variable)) js

pub unseen_none : (js : List JoinField) → unseen [] js ≡ js
unseen_none [] = refl
unseen_none (j ∷ js) = ap (λ ks. j ∷ ks) (unseen_none js)

-- equality can be turned about
bytes_turned : (x y : List ℕ) → bytes_eq x y ≡ bytes_eq y x
bytes_turned x y = by (bytes_eq x y) (bytes_eq y x) (λ e. (bytes_decides y x).1 (sym ((bytes_decides x y).0 e))) (λ e. (bytes_decides x y).1 (sym ((bytes_decides y x).0 e)))
  where
    by : (a b : Bool) → (a ≡ true → b ≡ true) → (b ≡ true → a ≡ true) → a ≡ b
    by true b one other = sym (one refl)
    by false true one other = other refl
    by false false one other = refl

-- one field more
seen_more : (ks : List JoinField) (j : JoinField) (x : List ℕ) → is_seen (ks ++ j ∷ []) x ≡ (is_seen ks x || bytes_eq x j.variable)
seen_more [] j x = by (bytes_eq x j.variable)
  where
    by : (b : Bool) → is_some (cond b (Some (place_of j)) None) ≡ b
    by true = refl
    by false = refl
seen_more (k ∷ ks) j x = by (bytes_eq x k.variable) (bytes_eq x j.variable) (field_of ks x) (field_of (ks ++ j ∷ []) x) (seen_more ks j x)
  where
    by : (a b : Bool) (o p : Option FieldPlace) → is_some p ≡ (is_some o || b) → is_some (cond a (Some (place_of k)) p) ≡ (is_some (cond a (Some (place_of k)) o) || b)
    by true b o p e = refl
    by false b o p e = e

-- what two tests keep
both_kept : {X : Type 0} (s t u : X → Bool) (xs : List X) → ((x : X) → u x ≡ (s x && t x)) → filter u xs ≡ filter t (filter s xs)
both_kept s t u [] h = refl
both_kept s t u (x ∷ xs) h = ap (λ b. cond b (x ∷ filter u xs) (filter u xs)) (h x) ∙ by (s x) (both_kept s t u xs h)
  where
    by : (a : Bool) → filter u xs ≡ filter t (filter s xs) → cond (a && t x) (x ∷ filter u xs) (filter u xs) ≡ filter t (cond a (x ∷ filter s xs) (filter s xs))
    by true more = ap (λ r. cond (t x) (x ∷ r) r) more
    by false more = more

-- the fields with another variable
abbrev others : JoinField → List JoinField → List JoinField
others j js = filter (λ (k : JoinField). not (bytes_eq j.variable k.variable)) js

-- a field whose variable wasn't seen is one of the first
pub first_more : (ks : List JoinField) (j : JoinField) (js : List JoinField) → is_seen ks j.variable ≡ false → (ks ++ j ∷ []) ++ unseen (ks ++ j ∷ []) (first_fields js) ≡ ks ++ unseen ks (first_fields (j ∷ js))
first_more ks j js e =
    append_assoc ks (j ∷ []) (unseen (ks ++ j ∷ []) (first_fields js))
    ∙ ap (λ more. ks ++ j ∷ more) (both_kept (λ (k : JoinField). not (bytes_eq j.variable k.variable)) (λ (k : JoinField). not (is_seen ks k.variable)) (λ (k : JoinField). not (is_seen (ks ++ j ∷ []) k.variable)) (first_fields js) (λ (k : JoinField). ap not (seen_more ks j k.variable ∙ ap (λ b. is_seen ks k.variable || b) (bytes_turned k.variable j.variable)) ∙ by (is_seen ks k.variable) (bytes_eq j.variable k.variable)))
    ∙ ap (λ b. ks ++ cond (not b) (j ∷ unseen ks (others j (first_fields js))) (unseen ks (others j (first_fields js)))) (sym e)
  where
    by : (a b : Bool) → not (a || b) ≡ (not b && not a)
    by true true = refl
    by true false = refl
    by false true = refl
    by false false = refl

-- a field whose variable was seen is none
pub first_still : (ks : List JoinField) (j : JoinField) (js : List JoinField) → is_seen ks j.variable ≡ true → ks ++ unseen ks (first_fields js) ≡ ks ++ unseen ks (first_fields (j ∷ js))
first_still ks j js e =
    ap (λ more. ks ++ more)
    (both_kept (λ (k : JoinField). not (bytes_eq j.variable k.variable)) (λ (k : JoinField). not (is_seen ks k.variable)) (λ (k : JoinField). not (is_seen ks k.variable)) (first_fields js) (λ (k : JoinField). by (bytes_eq j.variable k.variable) (is_seen ks k.variable) (λ same. ap (is_seen ks) (sym ((bytes_decides j.variable k.variable).0 same)) ∙ e))
    ∙ ap (λ b. cond (not b) (j ∷ unseen ks (others j (first_fields js))) (unseen ks (others j (first_fields js)))) (sym e))
  where
    by : (a b : Bool) → (a ≡ true → b ≡ true) → not b ≡ (not a && not b)
    by true b h = ap not (h refl)
    by false b h = refl
