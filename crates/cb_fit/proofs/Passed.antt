-- What variables have in the course of a pattern, by the fields of the fact that it has passed.
use Rattle.std.proofs.Common.{◌≡◌, ◌⊎◌, inl, inr, ◌∙◌, ◌&&◌, ◌||◌, ℕ, Bool, true, false, cond, is_some, not, List, [], ◌∷◌, ◌++◌, Option, Some, None, ap, ap₂, refl, sym, if◌then◌else◌}
use Rattle.std.proofs.lemmas.Bool.{and_parts}
use Rattle.std.proofs.lemmas.List.Folds.{list_all-append}
use Rattle.std.specs.Cmp.Lexicographic.{bytes_decides}
use Rattle.std.specs.List.{list_all}
use Rattle.std.specs.Option.{option_map_or, option_or}
use Rattle.std.specs.Str.{bytes_eq}
use Rattle.cb_constraints.specs.Internal.Known.{given_to_all}
use Rattle.cb_eval.specs.Comparison.{same}
use Rattle.cb_exprs.specs.Bindings.{Bindings, value_at}
use Rattle.cb_facts.proofs.Equality.{value-Decides}
use Rattle.cb_facts.specs.Facts.{FactContent}
use Rattle.cb_facts.specs.declared.value.Value.{Value}
use Rattle.cb_fit.proofs.CheckLaws.{agree_one, alike_where, at_left, compare_one, limits_hold}
use Rattle.cb_fit.proofs.Compared.{compares_known}
use Rattle.cb_fit.proofs.Given.{after_several, if_so, or_none}
use Rattle.cb_fit.proofs.Members.{all_of_flat}
use Rattle.cb_fit.specs.Comparisons.{WithConstant, WithVariable, compared_at, compares, field_of, own_at, own_compared_at, own_holds, own_limits_at, repeated_at, with_others}
use Rattle.cb_fit.specs.FieldPlaces.{field_value}
use Rattle.cb_fit.specs.JoinFields.{fields_for, place_of}
use Rattle.cb_fit.specs.Plain.{is_named}
use Rattle.cb_fit.specs.declared.comparison.ComparedField.{ComparedField}
use Rattle.cb_fit.specs.declared.comparison.Comparison.{Comparison}
use Rattle.cb_fit.specs.declared.comparison.Comparison.TheVariants.{Same}
use Rattle.cb_fit.specs.declared.field_place.FieldPlace.{FieldPlace}
use Rattle.cb_fit.specs.declared.join_fields.JoinField.{JoinField}

-- orders in which tests are joined
pub in_pairs : (a b c d : Bool) → (a && b) && (c && d) ≡ (a && c) && (b && d)
in_pairs true true c d = refl
in_pairs true false true d = refl
in_pairs true false false d = refl
in_pairs false b c d = refl

in_between : (a b c : Bool) → a && (b && c) ≡ b && (a && c)
in_between true true c = refl
in_between true false c = refl
in_between false true c = refl
in_between false false c = refl

and_true : (t : Bool) → t && true ≡ t
and_true true = refl
and_true false = refl

-- what holds of all names holds of one
named_passes : (t : List ℕ → Bool) (names : List (List ℕ)) (x : List ℕ) → list_all t names ≡ true → is_named x names ≡ true → t x ≡ true
named_passes t [] x e i = absurd (cc)
named_passes t (y ∷ ys) x e i = let both = and_parts (t y) (list_all t ys) e in by (bytes_eq x y) refl both.0 (named_passes t ys x both.1) i
  where
    by : (b : Bool) → bytes_eq x y ≡ b → t y ≡ true → (is_named x ys ≡ true → t x ≡ true) → b || is_named x ys ≡ true → t x ≡ true
    by true is first more j = ap t ((bytes_decides x y).0 is) ∙ first
    by false is first more j = more j

-- the first field with a variable
pub field_of_both : (js ks : List JoinField) (x : List ℕ) → field_of (js ++ ks) x ≡ option_or (field_of js x) (field_of ks x)
field_of_both [] ks x = refl
field_of_both (j ∷ js) ks x = by (bytes_eq x j.variable) (field_of_both js ks x)
  where
    by : (b : Bool) → field_of (js ++ ks) x ≡ option_or (field_of js x) (field_of ks x)
        → (if b then Some (place_of j) else field_of (js ++ ks) x) ≡ option_or (if b then Some (place_of j) else field_of js x) (field_of ks x)
    by true more = refl
    by false more = more

field_of_names : (at : FieldPlace) (names : List (List ℕ)) (x : List ℕ) → field_of (fields_for at names) x ≡ cond (is_named x names) (Some at) None
field_of_names at [] x = refl
field_of_names at (y ∷ ys) x = by (bytes_eq x y) (field_of_names at ys x)
  where
    by : (b : Bool) → field_of (fields_for at ys) x ≡ cond (is_named x ys) (Some at) None
        → (if b then Some at else field_of (fields_for at ys) x) ≡ cond (b || is_named x ys) (Some at) None
    by true more = refl
    by false more = more

-- a field is compared with a variable, if it has a value
abbrev pub compare_if : Bindings → Option Value → WithVariable → Bool
compare_if before o c = option_map_or (λ v. compare_one v before c) o false

abbrev pub compared : FactContent → Bindings → ComparedField → Bool
compared content before c = compare_if before (field_value c.place.slot c.place.field content) (c.comparison, c.variable)

-- the value of a field in the fact
abbrev pub HasField : FactContent → FieldPlace → Value → Type 0
HasField content at v = field_value at.slot at.field content ≡ Some v

-- a variable that doesn't stand in these fields has what it has before, and one that does has the value of the first of them
abbrev pub Stands : FactContent → Bindings → List JoinField → Bindings → List ℕ → Type 0
Stands content before js env x =
    ((field_of js x ≡ None) × (value_at x env.variables ≡ value_at x before.variables))
    ⊎ ((at : FieldPlace) × (v : Value) × (field_of js x ≡ Some at) × HasField content at v × (value_at x env.variables ≡ Some v))

module _ (content : FactContent) (before : Bindings) where
  -- so it is behind a further field, which agrees with its variables
  pub stands_still : (js : List JoinField) (env : Bindings) (at : FieldPlace) (names : List (List ℕ)) (v : Value) (x : List ℕ) → HasField content at v → list_all (agree_one v before) names ≡ true
      → Stands content before js env x → Stands content before (js ++ fields_for at names) (given_to_all names v env) x
  stands_still js env at names v x field agree (inr (place, u, there, value, is)) = inr (
    place,
    u,
    field_of_both js (fields_for at names) x ∙ ap (λ o. option_or o (field_of (fields_for at names) x)) there,
    value,
    after_several x names v env ∙ ap (λ o. option_or o (if_so (is_named x names) v)) is,
  )
  stands_still js env at names v x field agree (inl (none, is)) = by (is_named x names) refl
    where
      fields : (b : Bool) → is_named x names ≡ b → field_of (js ++ fields_for at names) x ≡ cond b (Some at) None
      fields b d =
          field_of_both js (fields_for at names) x
          ∙ (ap (λ o. option_or o (field_of (fields_for at names) x)) none ∙ (field_of_names at names x ∙ ap (λ c. cond c (Some at) None) d))

      values : (b : Bool) → is_named x names ≡ b → value_at x (given_to_all names v env).variables ≡ option_or (value_at x before.variables) (if_so b v)
      values b d = after_several x names v env ∙ ap₂ (λ o c. option_or o (if_so c v)) is d

      has : (o : Option Value) → option_map_or (same v) o true ≡ true → option_or o (Some v) ≡ Some v
      has None e = refl
      has (Some w) e = ap Some (sym ((value-Decides v w).0 e))

      by : (b : Bool) → is_named x names ≡ b → Stands content before (js ++ fields_for at names) (given_to_all names v env) x
      by true d = inr (at, v, fields true d, field, values true d ∙ has (value_at x before.variables) (named_passes (agree_one v before) names x agree d))
      by false d = inl (fields false d, values false d ∙ or_none (value_at x before.variables))

  -- comparisons with constants
  pub limited_hold : (at : FieldPlace) (v : Value) → HasField content at v → (ls : List WithConstant) → limits_hold v ls ≡ list_all (own_holds content) (own_limits_at at ls)
  limited_hold at v field [] = refl
  limited_hold at v field (l ∷ ls) = ap₂ (λ a b. a && b) (sym (ap (λ o. option_map_or (λ w. compares l.0 w l.1) o false) field)) (limited_hold at v field ls)

  -- a comparison with a field that was passed
  own_one : (at place : FieldPlace) (c : Comparison) (v u : Value) → HasField content at v → HasField content place u
      → list_all (own_holds content) (own_at at c (Some place)) ≡ compares c v u
  own_one at place c v u field value = ap₂ (λ o p. option_map_or (λ w. option_map_or (compares c w) p false) o false && true) field value ∙ and_true (compares c v u)

  module _ (js : List JoinField) (env : Bindings) (at : FieldPlace) (v : Value) (field : HasField content at v) (stand : (x : List ℕ) → Stands content before js env x) where
    agree_step : (x : List ℕ) → agree_one v before x ≡ true → agree_one v env x ≡ list_all (own_holds content) (own_at at Same (field_of js x))
    agree_step x agree = by (stand x)
      where
        by : Stands content before js env x → agree_one v env x ≡ list_all (own_holds content) (own_at at Same (field_of js x))
        by (inl (none, is)) = ap (λ o. option_map_or (same v) o true) is ∙ (agree ∙ sym (ap (λ o. list_all (own_holds content) (own_at at Same o)) none))
        by (inr (place, u, there, value, is)) =
            ap (λ o. option_map_or (same v) o true) is
            ∙ sym (ap (λ o. list_all (own_holds content) (own_at at Same o)) there ∙ own_one at place Same v u field value)

    -- the variables of a field
    pub repeated_hold : (names : List (List ℕ)) → list_all (agree_one v before) names ≡ true → list_all (agree_one v env) names ≡ list_all (own_holds content) (repeated_at js at names)
    repeated_hold names agree =
        alike_where (agree_one v before) (agree_one v env) (λ x. list_all (own_holds content) (own_at at Same (field_of js x))) names agree_step agree
        ∙ sym (all_of_flat (own_holds content) (λ x. own_at at Same (field_of js x)) names)

    -- its comparisons
    abbrev own_ones : List WithVariable → Bool
    own_ones cs = list_all (own_holds content) (own_compared_at js at cs)

    abbrev other_ones : List WithVariable → Bool
    other_ones cs = list_all (compared content before) (compared_at at (with_others js cs))

    abbrev with_field : WithVariable → List WithVariable → Option FieldPlace → Bool
    with_field c cs o =
        list_all (own_holds content) (own_at at c.0 o ++ own_compared_at js at cs)
        && list_all (compared content before) (compared_at at (cond (not (is_some o)) (c ∷ with_others js cs) (with_others js cs)))

    one_compared : (c : WithVariable) (cs : List WithVariable) → Stands content before js env c.1 → list_all (compare_one v env) cs ≡ own_ones cs && other_ones cs
        → compare_one v env c && list_all (compare_one v env) cs ≡ with_field c cs (field_of js c.1)
    one_compared c cs (inl (none, is)) more =
        ap₂ (λ a b. a && b) (ap (compares_known c.0 v) is) more
        ∙ (in_between (compare_one v before c) (own_ones cs) (other_ones cs)
        ∙ (ap (λ o. own_ones cs && (compare_if before o c && other_ones cs)) (sym field) ∙ sym (ap (with_field c cs) none)))
    one_compared c cs (inr (place, u, there, value, is)) more =
        ap₂ (λ a b. a && b) (ap (compares_known c.0 v) is) more
        ∙ (at_left (compares c.0 v u) (own_ones cs) (other_ones cs)
        ∙ (ap (λ b. (b && own_ones cs) && other_ones cs) (sym (own_one at place c.0 v u field value))
        ∙ (ap (λ b. b && other_ones cs) (sym (list_all-append (own_holds content) (own_at at c.0 (Some place)) (own_compared_at js at cs))) ∙ sym (ap (with_field c cs) there))))

    pub compared_hold : (cs : List WithVariable) → list_all (compare_one v env) cs ≡ own_ones cs && other_ones cs
    compared_hold [] = refl
    compared_hold (c ∷ cs) = one_compared c cs (stand c.1) (compared_hold cs)
