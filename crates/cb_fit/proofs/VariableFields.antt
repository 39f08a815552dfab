-- Fields with variables, found by these.
use Rattle.std.proofs.Common.{◌≡◌, ◌∙◌, ◌∷◌, [], ℕ, Bool, true, false, cond, List, Option, Some, None, ap, refl, sym, true≢false, if◌then◌else◌}
use Rattle.std.specs.Cmp.Lexicographic.{bytes_decides}
use Rattle.std.specs.Option.{option_or}
use Rattle.std.specs.Str.{bytes_eq}
use Rattle.cb_fit.specs.Comparisons.{field_of}
use Rattle.cb_fit.specs.JoinFields.{place_of}
use Rattle.cb_fit.specs.declared.field_place.FieldPlace.{FieldPlace}
use Rattle.cb_fit.specs.declared.join_fields.JoinField.{JoinField}

abbrev Find : Type 0
Find = List ℕ → Option FieldPlace

or_none : (o : Option FieldPlace) → option_or o None ≡ o
or_none None = refl
or_none (Some p) = refl

turned : (x y : List ℕ) (a b : Bool) → bytes_eq x y ≡ a → bytes_eq y x ≡ b → a ≡ b
turned x y true true e f = refl
turned x y false false e f = refl
turned x y true false e f = let yes : bytes_eq y x ≡ true = (bytes_decides y x).1 (sym ((bytes_decides x y).0 e)) in sym yes ∙ f
turned x y false true e f = let yes : bytes_eq x y ≡ true = (bytes_decides x y).1 (sym ((bytes_decides y x).0 f)) in sym e ∙ yes

-- where the variable of a field has a place, the field changes nothing
pub known_there : (o : Find) (j : JoinField) (p : FieldPlace) → o j.variable ≡ Some p → (x : List ℕ) → o x ≡ option_or (o x) (field_of (j ∷ []) x)
known_there o j p there x = by (bytes_eq x j.variable) refl
  where
    by : (b : Bool) → bytes_eq x j.variable ≡ b → o x ≡ option_or (o x) (if b then Some (place_of j) else None)
    by false e = sym (or_none (o x))
    by true e =
        let found : o x ≡ Some p = ap o ((bytes_decides x j.variable).0 e) ∙ there in
        found ∙ ap (λ q. option_or q (Some (place_of j))) (sym found)

-- else its variable gets its place
pub known_more : (o n : Find) (j : JoinField) → o j.variable ≡ None → ((x : List ℕ) → n x ≡ cond (bytes_eq j.variable x) (Some (place_of j)) (o x))
    → (x : List ℕ) → n x ≡ option_or (o x) (field_of (j ∷ []) x)
known_more o n j none change x = change x ∙ by (bytes_eq j.variable x) (bytes_eq x j.variable) refl refl
  where
    by : (a b : Bool) → bytes_eq j.variable x ≡ a → bytes_eq x j.variable ≡ b → cond a (Some (place_of j)) (o x) ≡ option_or (o x) (if b then Some (place_of j) else None)
    by true true e f = ap (λ q. option_or q (Some (place_of j))) (sym (ap o ((bytes_decides x j.variable).0 f) ∙ none))
    by false false e f = sym (or_none (o x))
    by true false e f = absurd (true≢false (turned j.variable x true false e f))
    by false true e f = absurd (true≢false (sym (turned j.variable x false true e f)))
