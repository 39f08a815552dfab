-- Of the fields with one variable the first gives it its value.
use Rattle.std.proofs.Common.{◌≡◌, inl, inr, ◌∙◌, ◌++◌, ◌∷◌, ℕ, Bool, true, false, cond, not, List, [], Some, None, ap, ap₂, filter, flat_map, map, refl, sym, if◌then◌else◌}
use Rattle.std.proofs.lemmas.Bool.{not-true}
use Rattle.std.specs.Cmp.Lexicographic.{bytes_decides}
use Rattle.std.specs.Str.{bytes_eq}
use Rattle.cb_constraints.specs.Bound.{each_once, given, given_if}
use Rattle.cb_exprs.specs.Bindings.{Bindings, value_at}
use Rattle.cb_facts.specs.Facts.{FactContent}
use Rattle.cb_facts.specs.declared.value.Value.{Value}
use Rattle.cb_fit.proofs.Passed.{Stands}
use Rattle.cb_fit.specs.Comparisons.{field_of}
use Rattle.cb_fit.specs.Decided.{taken_by, taken_by_all}
use Rattle.cb_fit.specs.FieldPlaces.{field_value}
use Rattle.cb_fit.specs.JoinFields.{first_fields, place_of}
use Rattle.cb_fit.specs.declared.field_place.FieldPlace.{FieldPlace}
use Rattle.cb_fit.specs.declared.join_fields.JoinField.{JoinField}

abbrev name_of : JoinField → List ℕ
name_of j = j.variable

abbrev others_than : JoinField → JoinField → Bool
others_than j k = not (bytes_eq j.variable k.variable)

-- their variables are all, each once
names_left : (x : List ℕ) (js : List JoinField) → map name_of (filter (λ (k : JoinField). not (bytes_eq x k.variable)) js) ≡ filter (λ y. not (bytes_eq x y)) (map name_of js)
names_left x [] = refl
names_left x (j ∷ js) = by (not (bytes_eq x j.variable)) (names_left x js)
  where
    by : (b : Bool) → map name_of (filter (λ (k : JoinField). not (bytes_eq x k.variable)) js) ≡ filter (λ y. not (bytes_eq x y)) (map name_of js)
        → map name_of (cond b (j ∷ filter (λ (k : JoinField). not (bytes_eq x k.variable)) js) (filter (λ (k : JoinField). not (bytes_eq x k.variable)) js))
        ≡ cond b (j.variable ∷ filter (λ y. not (bytes_eq x y)) (map name_of js)) (filter (λ y. not (bytes_eq x y)) (map name_of js))
    by true more = ap (λ (ys : List (List ℕ)). j.variable ∷ ys) more
    by false more = more

pub the_names : (js : List JoinField) → each_once (map (λ (j : JoinField). j.variable) js) ≡ map (λ (j : JoinField). j.variable) (first_fields js)
the_names [] = refl
the_names (j ∷ js) =
    ap (λ (ys : List (List ℕ)). j.variable ∷ filter (λ y. not (bytes_eq j.variable y)) ys) (the_names js)
    ∙ ap (λ (ys : List (List ℕ)). j.variable ∷ ys) (sym (names_left j.variable (first_fields js)))

-- each of them is the first with its variable
abbrev IsFirst : List JoinField → JoinField → Type 0
IsFirst js j = field_of js j.variable ≡ Some (place_of j)

abbrev Each : (JoinField → Type 0) → List JoinField → Type 0
Each P [] = Unit {0}
Each P (j ∷ js) = P j × Each P js

each_left : (P Q : JoinField → Type 0) (t : JoinField → Bool) (js : List JoinField) → ((j : JoinField) → t j ≡ true → P j → Q j) → Each P js → Each Q (filter t js)
each_left P Q t [] h all = tt
each_left P Q t (j ∷ js) h (one, more) = by (t j) refl (each_left P Q t js h more)
  where
    by : (b : Bool) → t j ≡ b → Each Q (filter t js) → Each Q (cond b (j ∷ filter t js) (filter t js))
    by true is rest = (h j is one, rest)
    by false is rest = rest

all_first : (js : List JoinField) → Each (IsFirst js) (first_fields js)
all_first [] = tt
all_first (j ∷ js) = (own, each_left (IsFirst js) (IsFirst (j ∷ js)) (others_than j) (first_fields js) behind (all_first js))
  where
    own : IsFirst (j ∷ js) j
    own = ap (λ b. if b then Some (place_of j) else field_of js j.variable) ((bytes_decides j.variable j.variable).1 refl)

    apart : (x y : List ℕ) → bytes_eq x y ≡ false → bytes_eq y x ≡ false
    apart x y e = by (bytes_eq y x) refl
      where
        by : (b : Bool) → bytes_eq y x ≡ b → b ≡ false
        by false is = refl
        by true is = sym ((bytes_decides x y).1 (sym ((bytes_decides y x).0 is))) ∙ e

    behind : (k : JoinField) → others_than j k ≡ true → IsFirst js k → IsFirst (j ∷ js) k
    behind k other first =
        ap (λ b. if b then Some (place_of j) else field_of js k.variable) (apart j.variable k.variable (not-true (bytes_eq j.variable k.variable) other)) ∙ first

-- so it gives its variable the field's value, if that has none
one_takes : (content : FactContent) (before after : Bindings) (js : List JoinField) (j : JoinField) → IsFirst js j → Stands content before js after j.variable
    → given before after j.variable ≡ taken_by before content j
one_takes content before after js j first (inl (none, is)) = absurd (apart (sym none ∙ first))
  where
    apart : None ≡ Some (place_of j) → ⊥
    apart d = cc
one_takes content before after js j first (inr (at, v, there, field, is)) =
    ap (given_if j.variable (value_at j.variable before.variables)) (is ∙ (sym field ∙ ap (λ (place : FieldPlace). field_value place.slot place.field content) (inside (sym there ∙ first))))
  where
    inside : Some at ≡ Some (place_of j) → at ≡ place_of j
    inside d = cc

all_take : (content : FactContent) (before after : Bindings) (js ks : List JoinField) → ((x : List ℕ) → Stands content before js after x) → Each (IsFirst js) ks
    → flat_map (given before after) (map (λ (j : JoinField). j.variable) ks) ≡ taken_by_all ks before content
all_take content before after js [] stand all = refl
all_take content before after js (k ∷ ks) stand (one, more) =
    ap₂ (λ (xs ys : List (List ℕ × Value)). xs ++ ys) (one_takes content before after js k one (stand k.variable)) (all_take content before after js ks stand more)

pub they_take : (content : FactContent) (before after : Bindings) (js : List JoinField) → ((x : List ℕ) → Stands content before js after x)
    → flat_map (given before after) (map (λ (j : JoinField). j.variable) (first_fields js)) ≡ taken_by_all (first_fields js) before content
they_take content before after js stand = all_take content before after js (first_fields js) stand (all_first js)
